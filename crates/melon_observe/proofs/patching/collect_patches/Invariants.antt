use Rattle.std.proofs.Common.{◌≡◌, take}
use Rattle.melon_observe.specs.Patches.{patches_of}
use Rattle.melon_observe.proofs.patching.collect_patches.Given as goal

abbrev pub invariant-loop-change : goal.invariant-loop-change
invariant-loop-change l = l.patches.items ≡ patches_of l.query l.columns (take l.change-index l.changes)
