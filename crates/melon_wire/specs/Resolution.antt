-- What a remote row makes of a local one, column by column, and of a record without one.
use Rattle.std.specs.Prelude.{ℕ, List, [], length, map, find, Option, Some, None, option_map, unwrap_or, bytes_eq, if◌then◌else◌}
use Rattle.std.specs.List.{range_with_len}
use Rattle.melon_schema.specs.declared.schema.ColumnSchema.{ColumnSchema}
use Rattle.melon_raw.specs.declared.datum.Datum.{Datum}
use Rattle.melon_raw.specs.declared.datum.Datum.TheVariants.{Null}
use Rattle.melon_raw.specs.declared.datum.OpField.{OpField}
use Rattle.melon_raw.specs.declared.raw.Status.TheVariants.{Synced}
use Rattle.melon_raw.specs.declared.raw.Raw.{Raw}
use Rattle.melon_raw.specs.Datum.{fit}
use Rattle.melon_raw.specs.Rows.{cell, column_at, has}

-- the value that remote fields have for a column, if they have the column
abbrev pub value_in : List OpField → List ℕ → Option Datum
value_in fields name = option_map (λ f. f.value) (find (λ f. bytes_eq f.column name) fields)

-- ---- a row that is there

-- a remote value as the column keeps it, and the local cell where there is none
abbrev pub remote_or : ColumnSchema → Datum → Option Datum → Datum
remote_or column local None = local
remote_or column local (Some value) = fit column value

-- The value of a column after resolution: a marked column stays local, a column that the remote row lacks stays local,
-- any other takes the remote value.
abbrev pub resolved_cell : List ColumnSchema → Raw → List OpField → ℕ → Datum
resolved_cell columns local fields c = if has c local.marks then cell local c else remote_or (column_at columns c) (cell local c) (value_in fields (column_at columns c).name)

-- so in every column; the id, the status and the marks stay local
abbrev pub row_resolved : List ColumnSchema → Raw → List OpField → Raw
row_resolved columns local fields = record { id = local.id; status = local.status; marks = local.marks; cells = map (resolved_cell columns local fields) (range_with_len 0 (length columns)) }

-- ---- a row that is made

-- the remote value as the column keeps it, or null's
abbrev pub born_cell : List OpField → ColumnSchema → Datum
born_cell fields column = fit column (unwrap_or (value_in fields column.name) Null)

-- synced, without marks
abbrev pub row_born : List ColumnSchema → List ℕ → List OpField → Raw
row_born columns id fields = record { id = id; status = Synced; marks = []; cells = map (born_cell fields) columns }
