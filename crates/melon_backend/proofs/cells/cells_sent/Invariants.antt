use Rattle.std.proofs.Common.{◌≡◌, map}
use Rattle.std.specs.List.{range_with_len}
use Rattle.melon_log.specs.ServerRows.{cell_sent}
use Rattle.melon_backend.proofs.cells.cells_sent.Given as goal

abbrev pub invariant-loop-c : goal.invariant-loop-c
invariant-loop-c l = l.cells.items ≡ map (cell_sent l.columns l.row.cells l.fields) (range_with_len 0 l.c)
