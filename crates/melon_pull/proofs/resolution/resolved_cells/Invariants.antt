use Rattle.std.proofs.Common.{◌≡◌, map}
use Rattle.std.specs.List.{range_with_len}
use Rattle.melon_wire.specs.Resolution.{resolved_cell}
use Rattle.melon_pull.proofs.resolution.resolved_cells.Given as goal

abbrev pub invariant-loop-c : goal.invariant-loop-c
invariant-loop-c l = l.cells.items ≡ map (resolved_cell l.columns l.local l.fields) (range_with_len 0 l.c)
