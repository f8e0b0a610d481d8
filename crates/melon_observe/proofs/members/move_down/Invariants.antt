use Rattle.std.proofs.Common.{◌≡◌, ◌+◌, vec_len, vec_capacity}
use Rattle.melon_observe.specs.Gap.{whole}
use Rattle.melon_observe.proofs.members.move_down.Given as goal

abbrev pub invariant-loop-member : goal.invariant-loop-member
invariant-loop-member l = (whole l.before.items l.behind.items ≡ whole l.fn.before.items l.fn.behind.items)
    × (vec_len l.before + vec_len l.behind ≡ vec_len l.fn.before + vec_len l.fn.behind)
    × (vec_capacity l.before ≡ vec_capacity l.fn.before) × (vec_capacity l.behind ≡ vec_capacity l.fn.behind)

abbrev pub decreases-loop-member : goal.decreases-loop-member
decreases-loop-member l = vec_len l.before
