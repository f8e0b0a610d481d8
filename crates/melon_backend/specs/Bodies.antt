-- The body that a server row is kept as, and the row that a body is.
use Rattle.std.specs.Prelude.{ℕ, ◌==◌, List, [], length, map, codes, Option, Some, None, option_map, bytes_eq, if◌then◌else◌}
use Rattle.serde_json.specs.Data.{Data, null, boolean, number, unsigned, string, array, object, no_members, put}
use Rattle.serde_json.specs.Find.{get, as_number, as_u64}
use Rattle.serde_json.specs.View.{items_of}
use Rattle.serde_json.specs.Written.{compact_text}
use Rattle.melon_schema.specs.Bytes.{json_of}
use Rattle.melon_schema.specs.Json.{◌>>=◌, text_at, each}
use Rattle.melon_schema.specs.declared.schema.ColumnSchema.{ColumnSchema}
use Rattle.melon_schema.specs.declared.schema.TableSchema.{TableSchema}
use Rattle.melon_raw.specs.declared.datum.Datum.{Datum}
use Rattle.melon_raw.specs.Encoding.{with_cells}
use Rattle.melon_raw.specs.Decoding.{id_in, cell_in}
use Rattle.melon_log.specs.declared.server_row.ServerRow.{ServerRow}

-- ---- written

abbrev pub revision_data : ℕ → Data
revision_data r = number (unsigned r)

abbrev pub deletion_data : Option ℕ → Data
deletion_data None = null
deletion_data (Some r) = revision_data r

-- its id and each declared column, or its id alone where it is deleted
abbrev pub row_data : List ColumnSchema → ServerRow → Data
row_data columns row = object (with_cells columns row.cells (put (codes "id") (string row.id) no_members))

-- its revisions, and the row
abbrev pub body_data : List ColumnSchema → ServerRow → Data
body_data columns row =
    object (put (codes "row") (row_data columns row)
    (put (codes "deleted") (deletion_data row.deleted)
    (put (codes "created") (revision_data row.created)
    (put (codes "changed") (revision_data row.changed) no_members))))

-- the compact text of that object, with its keys ascending
unfoldable pub body : TableSchema → ServerRow → List ℕ
body table row = compact_text (body_data table.columns row)

abbrev pub row_bytes : TableSchema → ServerRow → ℕ
row_bytes table row = length (body table row)

abbrev pub rows_data : List ColumnSchema → List ServerRow → Data
rows_data columns rows = array (items_of (map (body_data columns) rows))

-- the bodies of a table's rows as one array
unfoldable pub rows_text : TableSchema → List ServerRow → List ℕ
rows_text table rows = compact_text (rows_data table.columns rows)

-- ---- read

abbrev pub unless_zero : ℕ → Option ℕ
unless_zero n = if n == 0 then None else Some n

-- a whole number from 1 to 18446744073709551615
abbrev pub revision_of : Data → Option ℕ
revision_of d = as_number d >>= λ n. as_u64 n >>= unless_zero

abbrev pub revision_at : List ℕ → Data → Option ℕ
revision_at key d = get key d >>= revision_of

-- null, or a revision
abbrev pub deletion_of : Data → Option (Option ℕ)
deletion_of null = Some None
deletion_of (boolean b) = None
deletion_of (number n) = option_map Some (revision_of (number n))
deletion_of (string s) = None
deletion_of (array ds) = None
deletion_of (object ms) = None

abbrev pub deletion_at : List ℕ → Data → Option (Option ℕ)
deletion_at key d = get key d >>= deletion_of

-- a deleted row has no cells
abbrev pub cells_in : List ColumnSchema → Option ℕ → Data → Option (List Datum)
cells_in columns None d = each (cell_in d) columns
cells_in columns (Some r) d = Some []

-- the row whose parts stand in an object
unfoldable pub row_in : List ColumnSchema → Data → Option ServerRow
row_in columns d = do
  changed ← revision_at (codes "changed") d
  created ← revision_at (codes "created") d
  deleted ← deletion_at (codes "deleted") d
  inner ← get (codes "row") d
  text ← text_at (codes "id") inner
  id ← id_in text
  cells ← cells_in columns deleted inner
  Some (record { id = id; created = created; changed = changed; deleted = deleted; cells = cells })

abbrev pub if_body : TableSchema → List ℕ → ServerRow → Option ServerRow
if_body table bytes row = if bytes_eq (body table row) bytes then Some row else None

-- the row that is read from the bytes, where they are just what is written for it
unfoldable pub kept_row : TableSchema → List ℕ → Option ServerRow
kept_row table bytes = do
  d ← json_of bytes
  row ← row_in table.columns d
  if_body table bytes row
