use Rattle.std.proofs.Common.{◌≡◌, map, take}
use Rattle.melon_wire.specs.Resolution.{born_cell}
use Rattle.melon_backend.proofs.cells.born_cells.Given as goal

abbrev pub invariant-loop-column : goal.invariant-loop-column
invariant-loop-column l = l.cells.items ≡ map (born_cell l.fields) (take l.column-index l.columns)
