use Rattle.std.proofs.Common.{◌≡◌, ◌+◌}
use Rattle.std.specs.Vec.{vec_len, vec_capacity}
use Rattle.std.specs.Vec.Iter.{into_iter_items}
use Rattle.melon_observe.proofs.Patched.{Patching}
use Rattle.melon_observe.proofs.patching.patch_all.Given as goal

abbrev pub invariant-loop-patch : goal.invariant-loop-patch
invariant-loop-patch l = Patching l.fn.members.items l.fn.patches.items l.members.items l.behind.items (into_iter_items l.patch-iterator) (vec_len l.members + vec_len l.behind) (vec_capacity l.members) (vec_capacity l.behind)
    × (vec_capacity l.behind ≡ vec_capacity l.fn.behind)
