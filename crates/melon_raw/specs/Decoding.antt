-- The row that bytes are.
use Rattle.std.specs.Prelude.{◌≡◌, ℕ, ◌==◌, List, [], ◌∷◌, ◌++◌, length, codes, Option, Some, None, Result, Ok, Err, option_map, if◌then◌else◌, bytes_eq}
use Rattle.std.specs.Str.{IsUtf8}
use Rattle.serde_json.specs.Data.{Data}
use Rattle.serde_json.specs.Find.{get}
use Rattle.melon_schema.specs.Json.{◌>>=◌, text_at, each}
use Rattle.melon_schema.specs.Names.{is_id}
use Rattle.melon_schema.specs.Places.{column_named}
use Rattle.melon_schema.specs.Bytes.{json_of}
use Rattle.melon_schema.specs.Sound.{AreSound}
use Rattle.melon_schema.specs.declared.schema.ColumnSchema.{ColumnSchema}
use Rattle.melon_schema.specs.declared.schema.TableSchema.{TableSchema}
use Rattle.melon_raw.specs.declared.datum.Datum.{Datum}
use Rattle.melon_raw.specs.declared.raw.Status.{Status}
use Rattle.melon_raw.specs.declared.raw.Status.TheVariants.{Created, Updated, Deleted, Synced}
use Rattle.melon_raw.specs.declared.raw.Raw.{Raw}
use Rattle.melon_raw.specs.Datum.{datum_of, fit}
use Rattle.melon_raw.specs.Rows.{has, Fits}
use Rattle.melon_raw.specs.Encoding.{encoding}

-- ---- parts of a row

abbrev pub status_named : List ℕ → Option Status
status_named word =
    if bytes_eq word (codes "created") then Some Created else
    (if bytes_eq word (codes "updated") then Some Updated else
    (if bytes_eq word (codes "deleted") then Some Deleted else
    (if bytes_eq word (codes "synced") then Some Synced else None)))

-- a byte more before the first piece
abbrev pub longer : ℕ → List (List ℕ) → List (List ℕ)
longer b [] = (b ∷ []) ∷ []
longer b (piece ∷ pieces) = (b ∷ piece) ∷ pieces

-- what stands between the commas of a text
abbrev pub pieces : List ℕ → List (List ℕ)
pieces [] = [] ∷ []
pieces (b ∷ bs) = if b == 44 then [] ∷ pieces bs else longer b (pieces bs)

abbrev pub marked_once : ℕ → List ℕ → Option (List ℕ)
marked_once c marks = if has c marks then None else Some (marks ++ c ∷ [])

-- the places of the columns of these names, none of them twice, after these marks
abbrev pub marks_named : List ColumnSchema → List ℕ → List (List ℕ) → Option (List ℕ)
marks_named columns marks [] = Some marks
marks_named columns marks (name ∷ names) = column_named name columns >>= λ c. marked_once c marks >>= λ more. marks_named columns more names

-- the marks whose names are joined in a text
abbrev pub marks_in : List ColumnSchema → List ℕ → Option (List ℕ)
marks_in columns text = if length text == 0 then Some [] else marks_named columns [] (pieces text)

abbrev pub id_in : List ℕ → Option (List ℕ)
id_in text = if is_id text then Some text else None

-- what a column keeps of the value under its name
abbrev pub cell_in : Data → ColumnSchema → Option Datum
cell_in d column = get column.name d >>= λ v. option_map (fit column) (datum_of v)

-- ---- the row

-- the row whose parts stand in an object
unfoldable pub row_in : List ColumnSchema → Data → Option Raw
row_in columns d = do
  text ← text_at (codes "id") d
  id ← id_in text
  word ← text_at (codes "_status") d
  status ← status_named word
  names ← text_at (codes "_changed") d
  marks ← marks_in columns names
  cells ← each (cell_in d) columns
  Some (record { id = id; status = status; marks = marks; cells = cells })

abbrev pub if_encoded : TableSchema → List ℕ → Raw → Option Raw
if_encoded table bytes row = if bytes_eq (encoding table row) bytes then Some row else None

-- the row that is read from the bytes, where they are just what is written for it
unfoldable pub kept_row : TableSchema → List ℕ → Option Raw
kept_row table bytes = do
  d ← json_of bytes
  row ← row_in table.columns d
  if_encoded table bytes row

-- ---- what decoding gives

-- Nothing is found only where the bytes are no text, or the encoding of no row of the table.
abbrev pub IsNoRow : TableSchema → List ℕ → Type 0
IsNoRow table bytes = AreSound table.columns → IsUtf8 bytes → (row : Raw) → Fits table.columns row → encoding table row ≡ bytes → ⊥

-- the row fits, and the bytes are its encoding
abbrev pub IsRowOf : TableSchema → List ℕ → Raw → Type 0
IsRowOf table bytes row = Fits table.columns row × (encoding table row ≡ bytes)
