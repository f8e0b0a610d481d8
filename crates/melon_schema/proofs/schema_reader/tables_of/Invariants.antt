use Rattle.std.proofs.Common.{◌≡◌, []}
use Rattle.std.specs.Vec.Iter.{into_iter_items}
use Rattle.melon_schema.specs.Faults.{in_turn}
use Rattle.melon_schema.specs.Schema.{with_table}
use Rattle.melon_schema.proofs.schema_reader.tables_of.Given as goal

-- what is left is still to be added
abbrev pub invariant-loop-table : goal.invariant-loop-table
invariant-loop-table l = in_turn with_table l.schema (into_iter_items l.table-iterator) ≡ in_turn with_table (record { version = l.fn.form.version; tables = [] }) l.fn.form.tables
