-- The bytes that a row is kept as.
use Rattle.std.specs.Prelude.{ℕ, List, [], ◌∷◌, ◌++◌, map, codes}
use Rattle.serde_json.specs.Data.{Data, null, boolean, number, string, object, Members, no_members, put}
use Rattle.serde_json.specs.Find.{of_integer}
use Rattle.serde_json.specs.Written.{compact_text}
use Rattle.melon_schema.specs.declared.schema.ColumnSchema.{ColumnSchema}
use Rattle.melon_schema.specs.declared.schema.TableSchema.{TableSchema}
use Rattle.melon_raw.specs.declared.datum.Datum.{Datum}
use Rattle.melon_raw.specs.declared.datum.Datum.TheVariants.{Null, Words, Whole, Truth}
use Rattle.melon_raw.specs.declared.raw.Status.{Status}
use Rattle.melon_raw.specs.declared.raw.Status.TheVariants.{Created, Updated, Deleted, Synced}
use Rattle.melon_raw.specs.declared.raw.Raw.{Raw}
use Rattle.melon_raw.specs.Rows.{column_at}

-- ---- parts of a row as texts and JSON

abbrev pub status_word : Status → List ℕ
status_word Created = codes "created"
status_word Updated = codes "updated"
status_word Deleted = codes "deleted"
status_word Synced = codes "synced"

-- each text after a comma
abbrev pub after_commas : List (List ℕ) → List ℕ
after_commas [] = []
after_commas (text ∷ texts) = 44 ∷ (text ++ after_commas texts)

-- texts with commas between them
abbrev pub joined : List (List ℕ) → List ℕ
joined [] = []
joined (text ∷ texts) = text ++ after_commas texts

abbrev pub mark_names : List ColumnSchema → List ℕ → List (List ℕ)
mark_names columns marks = map (λ c. (column_at columns c).name) marks

-- the names of the marked columns, joined by commas
abbrev pub marks_text : List ColumnSchema → List ℕ → List ℕ
marks_text columns marks = joined (mark_names columns marks)

abbrev pub datum_data : Datum → Data
datum_data Null = null
datum_data (Words text) = string text
datum_data (Whole z) = number (of_integer z)
datum_data (Truth b) = boolean b

-- ---- the row

-- these members, and under the name of each column its cell
abbrev pub with_cells : List ColumnSchema → List Datum → Members → Members
with_cells [] cells ms = ms
with_cells (c ∷ cs) [] ms = ms
with_cells (c ∷ cs) (d ∷ ds) ms = with_cells cs ds (put c.name (datum_data d) ms)

-- the members beside the cells
abbrev pub own_members : List ColumnSchema → Raw → Members
own_members columns row =
    put (codes "id") (string row.id)
    (put (codes "_status") (string (status_word row.status))
    (put (codes "_changed") (string (marks_text columns row.marks)) no_members))

-- the row as an object: its marks, status and id, and each declared column
abbrev pub row_data : List ColumnSchema → Raw → Data
row_data columns row = object (with_cells columns row.cells (own_members columns row))

-- the compact text of that object, with its keys ascending
unfoldable pub encoding : TableSchema → Raw → List ℕ
encoding table row = compact_text (row_data table.columns row)
