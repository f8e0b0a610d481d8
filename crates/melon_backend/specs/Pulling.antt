-- How touched rows are found and told.
use Rattle.std.specs.Prelude.{ℕ, ◌==◌, List, map, nat_lt, Bool, Option, Some, None, option_and_then, if◌then◌else◌}
use Rattle.melon_schema.specs.declared.schema.ColumnSchema.{ColumnSchema}
use Rattle.melon_wire.specs.declared.changes.Remote.{Remote}
use Rattle.melon_log.specs.declared.server_row.ServerRow.{ServerRow}
use Rattle.melon_log.specs.ServerRows.{greatest, at_id}
use Rattle.melon_log.specs.Pulled.{field_at}
use Rattle.melon_backend.specs.declared.table.Stamp.{Stamp}
use Rattle.melon_backend.specs.declared.pull.Touched.{Touched}

abbrev pub touched_row : Touched → ServerRow
touched_row t = t.row.now

abbrev pub if_last : ℕ → ServerRow → Option ServerRow
if_last revision row = if greatest row == revision then Some row else None

-- the row of a stamp, unless it has a later one
abbrev pub fresh : List ServerRow → Stamp → Option ServerRow
fresh rows stamp = option_and_then (if_last stamp.revision) (at_id stamp.id rows)

abbrev pub is_after : ℕ → Stamp → Bool
is_after t stamp = nat_lt t stamp.revision

-- the row with its columns in this order
abbrev pub told_by : List ColumnSchema → List ℕ → ServerRow → Remote
told_by columns order row = record { id = row.id; fields = map (field_at columns row.cells) order }
