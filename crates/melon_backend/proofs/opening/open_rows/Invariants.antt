use Rattle.std.proofs.Common.{◌≡◌, length}
use Rattle.melon_schema.specs.Faults.{in_turn}
use Rattle.melon_backend.specs.Inside.{tables_rows}
use Rattle.melon_backend.specs.Backends.{row_opened, rows_opened}
use Rattle.melon_backend.specs.Opened.{IsOpenedSoFar}
use Rattle.melon_backend.proofs.opening.open_rows.Given as goal

abbrev pub invariant-loop-kept : goal.invariant-loop-kept
invariant-loop-kept l = record {
  so_far : IsOpenedSoFar l.schema.tables l.opened;
  done : in_turn (row_opened l.schema.tables) (tables_rows l.opened.tables.items) l.left ≡ rows_opened l.schema.tables l.fn.rows;
}

abbrev pub decreases-loop-kept : goal.decreases-loop-kept
decreases-loop-kept l = length l.left
