use Rattle.std.proofs.Common.{◌≡◌, ◌++◌, drop, map}
use Rattle.std.specs.List.{list_any}
use Rattle.sqlite_value.specs.Order.{column}
use Rattle.melon_sqlite.specs.Contents.{is_negative}
use Rattle.melon_sqlite.specs.Statements.{value_shown}
use Rattle.melon_sqlite.proofs.statements.values_from.Given as goal

abbrev pub invariant-loop-row : goal.invariant-loop-row
invariant-loop-row l =
    (l.all ++ map value_shown (drop l.row-index l.rows) ≡ map value_shown l.rows) × (list_any (λ r. is_negative (column r 1)) (drop l.row-index l.rows) ≡ list_any (λ r. is_negative (column r 1)) l.rows)
