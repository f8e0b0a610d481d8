use Rattle.std.proofs.Common.{◌≡◌, ◌≤◌, take}
use Rattle.melon_board.specs.Boards.{rows_made}
use Rattle.melon_board.proofs.apply.rows_made.Given as goal

abbrev pub invariant-loop-change : goal.invariant-loop-change
invariant-loop-change l = (l.made ≡ rows_made l.table (take l.change-index l.changes)) × (l.made ≤ l.change-index)
