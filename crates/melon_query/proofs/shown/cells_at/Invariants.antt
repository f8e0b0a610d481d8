use Rattle.std.proofs.Common.{◌≡◌, take}
use Rattle.melon_query.specs.Shown.{cells_at}
use Rattle.melon_query.proofs.shown.cells_at.Given as goal

abbrev pub invariant-loop-column : goal.invariant-loop-column
invariant-loop-column l = l.cells ≡ cells_at (take l.column-index l.columns) l.row
