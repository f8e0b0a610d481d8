use Rattle.std.proofs.Common.{◌≡◌, take}
use Rattle.melon_observe.proofs.patching.copy_patches.Given as goal

abbrev pub invariant-loop-patch : goal.invariant-loop-patch
invariant-loop-patch l = l.copies.items ≡ take l.patch-index l.patches
