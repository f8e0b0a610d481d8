use Rattle.std.proofs.Common.{◌≡◌, ◌++◌, drop, map}
use Rattle.melon_sqlite.specs.Statements.{row_shown}
use Rattle.melon_sqlite.proofs.statements.rows_from.Given as goal

abbrev pub invariant-loop-row : goal.invariant-loop-row
invariant-loop-row l = l.all ++ map row_shown (drop l.row-index l.rows) ≡ map row_shown l.rows
