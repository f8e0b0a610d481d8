use Rattle.std.proofs.Common.{◌≡◌, ◌-◌, length}
use Rattle.std.specs.List.{range_with_len}
use Rattle.melon_raw.specs.Rows.{table_at}
use Rattle.melon_wire.specs.Sent.{by_name}
use Rattle.melon_backend.proofs.order.tables_by_name.Given as goal

abbrev pub invariant-loop-table : goal.invariant-loop-table
invariant-loop-table l = l.places.items ≡ by_name (λ d. (table_at l.schema.tables d).name) (range_with_len l.table (length l.schema.tables - l.table))
