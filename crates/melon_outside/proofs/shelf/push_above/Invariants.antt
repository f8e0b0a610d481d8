use Rattle.std.proofs.Common.{◌≡◌, ◌++◌, take}
use Rattle.melon_outside.specs.Ascending.{above}
use Rattle.melon_outside.specs.Kept.{text_cmp, name_of}
use Rattle.melon_outside.proofs.shelf.push_above.Given as goal

abbrev pub invariant-loop-value : goal.invariant-loop-value
invariant-loop-value l = l.all ≡ l.initial.all ++ above text_cmp name_of l.name (take l.value-index l.values)
