-- The rows that a server keeps, and what one push makes of a record's row.
use Rattle.std.specs.Prelude.{ℕ, List, [], length, get_or, map, find, max, nat_lt, Bool, ◌||◌, Option, Some, None, is_none, unwrap_or, bytes_eq, if◌then◌else◌}
use Rattle.std.specs.List.{range_with_len}
use Rattle.std.specs.Option.{option_or}
use Rattle.melon_schema.specs.declared.schema.ColumnSchema.{ColumnSchema}
use Rattle.melon_raw.specs.declared.datum.Datum.{Datum}
use Rattle.melon_raw.specs.declared.datum.Datum.TheVariants.{Null}
use Rattle.melon_raw.specs.declared.datum.OpField.{OpField}
use Rattle.melon_raw.specs.Rows.{Key, column_at}
use Rattle.melon_wire.specs.Forms.{names_ascend}
use Rattle.melon_wire.specs.Resolution.{value_in, remote_or, born_cell}
use Rattle.melon_wire.specs.Standing.{Standing, as_created, as_updated, as_deleted, in_no_list}
use Rattle.melon_log.specs.declared.server_row.ServerRow.{ServerRow}

-- ---- one row

abbrev pub is_live : ServerRow → Bool
is_live row = is_none row.deleted

-- the greatest of its revisions
abbrev pub greatest : ServerRow → ℕ
greatest row = max row.created (max row.changed (unwrap_or row.deleted 0))

-- one of its revisions is above t
abbrev pub is_touched : ℕ → ServerRow → Bool
is_touched t row = nat_lt t row.created || (nat_lt t row.changed || nat_lt t (unwrap_or row.deleted 0))

-- ---- rows by id

-- of each declared table its rows, ascending by id
abbrev pub ServerRows : Type 0
ServerRows = List (List ServerRow)

abbrev pub id_of : ServerRow → List ℕ
id_of row = row.id

abbrev pub at_id : List ℕ → List ServerRow → Option ServerRow
at_id id rows = find (λ r. bytes_eq id r.id) rows

-- the row of a record, or none
abbrev pub at : ServerRows → Key → Option ServerRow
at rows x = at_id x.id (get_or rows x.table [])

abbrev pub do_ascend : List ServerRow → Bool
do_ascend rows = names_ascend id_of rows

-- ---- one push

-- a row made at a revision: the sent values, and what the columns keep of null
abbrev pub made : List ColumnSchema → List ℕ → ℕ → List OpField → ServerRow
made columns id r fields = record { id = id; created = r; changed = r; deleted = None; cells = map (born_cell fields) columns }

abbrev pub cell_sent : List ColumnSchema → List Datum → List OpField → ℕ → Datum
cell_sent columns cells fields c = remote_or (column_at columns c) (get_or cells c Null) (value_in fields (column_at columns c).name)

-- the columns that are sent take their values
abbrev pub overwritten : List ColumnSchema → ServerRow → ℕ → List OpField → ServerRow
overwritten columns row r fields = record { id = row.id; created = row.created; changed = r; deleted = None; cells = map (cell_sent columns row.cells fields) (range_with_len 0 (length columns)) }

-- a live row is overwritten; where there is none it is made
abbrev pub sent_to : List ColumnSchema → List ℕ → Option ServerRow → ℕ → List OpField → ServerRow
sent_to columns id None r fields = made columns id r fields
sent_to columns id (Some row) r fields = if is_live row then overwritten columns row r fields else made columns id r fields

-- the row keeps its id and its other revisions, and loses its cells
abbrev pub deleted_at : ℕ → ServerRow → ServerRow
deleted_at r row = record { id = row.id; created = row.created; changed = row.changed; deleted = Some r; cells = [] }

abbrev pub if_live : ℕ → Option ServerRow → Option ServerRow
if_live r None = None
if_live r (Some row) = if is_live row then Some (deleted_at r row) else None

-- The row that a push of revision r puts for a record, by the list in which that stands: a sent row, or a live row that
-- is deleted. Any other deletion is ignored.
abbrev pub row_put : List ColumnSchema → List ℕ → Option ServerRow → ℕ → Standing → Option ServerRow
row_put columns id row r (as_created fields) = Some (sent_to columns id row r fields)
row_put columns id row r (as_updated fields) = Some (sent_to columns id row r fields)
row_put columns id row r as_deleted = if_live r row
row_put columns id row r in_no_list = None

-- the record's row after the push
abbrev pub next_row : List ColumnSchema → List ℕ → Option ServerRow → ℕ → Standing → Option ServerRow
next_row columns id row r how = option_or (row_put columns id row r how) row
