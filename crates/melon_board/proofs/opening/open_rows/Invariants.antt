use Rattle.std.proofs.Common.{◌≡◌, length}
use Rattle.melon_schema.specs.Faults.{in_turn}
use Rattle.melon_table.specs.Seen.{rows_of}
use Rattle.melon_board.specs.Opening.{row_opened, rows_opened}
use Rattle.melon_board.specs.Opened.{IsLaidOut}
use Rattle.melon_board.proofs.opening.open_rows.Given as goal

abbrev pub invariant-loop-kept : goal.invariant-loop-kept
invariant-loop-kept l = record {
  so_far : IsLaidOut l.schema.tables l.opened;
  done : in_turn (row_opened l.schema.tables) (rows_of l.opened.tables) l.left ≡ rows_opened l.schema.tables l.fn.rows;
}

abbrev pub decreases-loop-kept : goal.decreases-loop-kept
decreases-loop-kept l = length l.left
