use Rattle.std.proofs.Common.{◌≡◌}
use Rattle.melon_table.specs.Seen.{columns_of, declared_columns}
use Rattle.melon_push.proofs.tests.tests.tables_of.Given as goal

abbrev pub invariant-loop-row : goal.invariant-loop-row
invariant-loop-row l = columns_of l.tables ≡ declared_columns l.schema.tables
