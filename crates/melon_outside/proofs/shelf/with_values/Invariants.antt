use Rattle.std.proofs.Common.{◌≡◌, drop}
use Rattle.melon_outside.specs.Ascending.{with_items}
use Rattle.melon_outside.specs.Kept.{text_cmp, name_of}
use Rattle.melon_outside.proofs.shelf.with_values.Given as goal

abbrev pub invariant-loop-change : goal.invariant-loop-change
invariant-loop-change l = with_items text_cmp name_of (drop l.change-index l.changes) l.all ≡ with_items text_cmp name_of l.changes l.fn.values
