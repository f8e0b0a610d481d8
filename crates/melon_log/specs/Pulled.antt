-- What the server answers to a pull.
use Rattle.std.specs.Prelude.{ℕ, List, [], length, get_or, map, filter, nat_lt, nat_le, Bool, not, ◌&&◌, unwrap_or, Result, Ok}
use Rattle.std.specs.List.{range_with_len}
use Rattle.melon_schema.specs.Faults.{◌>>=◌, unless}
use Rattle.melon_schema.specs.declared.schema.ColumnSchema.{ColumnSchema}
use Rattle.melon_schema.specs.declared.schema.TableSchema.{TableSchema}
use Rattle.melon_raw.specs.declared.datum.Datum.{Datum}
use Rattle.melon_raw.specs.declared.datum.Datum.TheVariants.{Null}
use Rattle.melon_raw.specs.declared.datum.OpField.{OpField}
use Rattle.melon_raw.specs.Rows.{column_at, table_at}
use Rattle.melon_wire.specs.declared.changes.Remote.{Remote}
use Rattle.melon_wire.specs.declared.changes.TableChanges.{TableChanges}
use Rattle.melon_wire.specs.declared.changes.Changes.{Changes}
use Rattle.melon_wire.specs.declared.pull.PullReply.{PullReply}
use Rattle.melon_wire.specs.Sent.{by_name}
use Rattle.melon_log.specs.declared.server_row.ServerRow.{ServerRow}
use Rattle.melon_log.specs.declared.fault.AskFault.{AskFault}
use Rattle.melon_log.specs.declared.fault.AskFault.TheVariants.{Future}
use Rattle.melon_log.specs.ServerRows.{ServerRows, is_live}
use Rattle.melon_log.specs.Log.{Log, revision, server_rows}

-- ---- one row

abbrev pub field_at : List ColumnSchema → List Datum → ℕ → OpField
field_at columns cells c = record { column = (column_at columns c).name; value = get_or cells c Null }

-- the places of columns, ascending by their names
abbrev pub places_by_name : List ColumnSchema → List ℕ
places_by_name columns = by_name (λ c. (column_at columns c).name) (range_with_len 0 (length columns))

-- the row with all its cells, ascending by the columns' names
abbrev pub row_told : List ColumnSchema → ServerRow → Remote
row_told columns row = record { id = row.id; fields = map (field_at columns row.cells) (places_by_name columns) }

-- ---- in which list

-- live, and created after t
abbrev pub is_new : ℕ → ServerRow → Bool
is_new t row = is_live row && nat_lt t row.created

-- live, not created but changed after t
abbrev pub is_edited : ℕ → ServerRow → Bool
is_edited t row = is_live row && (not (nat_lt t row.created) && nat_lt t row.changed)

-- deleted after t
abbrev pub is_gone : ℕ → ServerRow → Bool
is_gone t row = nat_lt t (unwrap_or row.deleted 0)

-- ---- the whole

-- the three lists of a table, each ascending by id
abbrev pub table_told : ℕ → TableSchema → List ServerRow → TableChanges
table_told t table rows = record {
  table = table.name;
  created = map (row_told table.columns) (filter (is_new t) rows);
  updated = map (row_told table.columns) (filter (is_edited t) rows);
  deleted = map (λ r. r.id) (filter (is_gone t) rows);
}

-- the places of tables, ascending by their names
abbrev pub tables_by_name : List TableSchema → List ℕ
tables_by_name schema = by_name (λ i. (table_at schema i).name) (range_with_len 0 (length schema))

-- every declared table is listed
abbrev pub changes_told : List TableSchema → ServerRows → ℕ → Changes
changes_told schema rows t = record { tables = map (λ i. table_told t (table_at schema i) (get_or rows i [])) (tables_by_name schema) }

-- a pull at t of these rows at a revision, which is the timestamp; t isn't above it
unfoldable pub pull_of : List TableSchema → ℕ → ServerRows → ℕ → Result PullReply AskFault
pull_of schema now rows t = do
  past ← unless (nat_le t now) (Future now)
  Ok (record { changes = changes_told schema rows t; timestamp = now })

-- The reply to a pull at t.
abbrev pub pulled : Log → ℕ → Result PullReply AskFault
pulled g t = pull_of g.schema (revision g) (server_rows g) t
