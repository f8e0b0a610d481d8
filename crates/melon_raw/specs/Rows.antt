-- Rows, when they fit their table, and rows by id.
use Rattle.std.specs.Prelude.{◌≡◌, ℕ, ◌==◌, List, [], ◌∷◌, ◌++◌, length, get_or, filter, find, Bool, true, false, not, ◌&&◌, nat_lt, Option, bytes_eq}
use Rattle.std.specs.List.{list_any, list_all}
use Rattle.melon_schema.specs.Names.{is_id}
use Rattle.melon_schema.specs.declared.schema.Kind.TheVariants as kinds
use Rattle.melon_schema.specs.declared.schema.ColumnSchema.{ColumnSchema}
use Rattle.melon_schema.specs.declared.schema.TableSchema.{TableSchema}
use Rattle.melon_raw.specs.declared.datum.Datum.{Datum}
use Rattle.melon_raw.specs.declared.datum.Datum.TheVariants.{Null}
use Rattle.melon_raw.specs.declared.raw.Status.{Status}
use Rattle.melon_raw.specs.declared.raw.Status.TheVariants.{Created, Updated, Deleted, Synced}
use Rattle.melon_raw.specs.declared.raw.Raw.{Raw}
use Rattle.melon_raw.specs.Datum.{fit}
use Rattle.melon_raw.specs.Order.{is_below}

-- ---- places past the end

abbrev pub no_column : ColumnSchema
no_column = record { name = []; kind = kinds.Words; optional = true; indexed = false }

abbrev pub column_at : List ColumnSchema → ℕ → ColumnSchema
column_at columns c = get_or columns c no_column

abbrev pub no_table : TableSchema
no_table = record { name = []; columns = []; associations = [] }

abbrev pub table_at : List TableSchema → ℕ → TableSchema
table_at tables i = get_or tables i no_table

-- ---- one row

-- the cell of a column; a place past the end is null
abbrev pub cell : Raw → ℕ → Datum
cell row c = get_or row.cells c Null

-- whether the column is marked
abbrev pub has : ℕ → List ℕ → Bool
has c marks = list_any (λ m. c == m) marks

abbrev pub is_visible : Status → Bool
is_visible Created = true
is_visible Updated = true
is_visible Deleted = false
is_visible Synced = true

-- one cell for each column, each as its column keeps it
abbrev pub fitted : List ColumnSchema → List Datum → List Datum
fitted [] cells = []
fitted (c ∷ cs) [] = fit c Null ∷ fitted cs []
fitted (c ∷ cs) (d ∷ ds) = fit c d ∷ fitted cs ds

-- places of columns, none of them twice
abbrev pub are_marks : ℕ → List ℕ → Bool
are_marks columns [] = true
are_marks columns (m ∷ ms) = nat_lt m columns && (not (has m ms) && are_marks columns ms)

-- The row is one of a table with these columns.
pub record Fits (columns : List ColumnSchema) (row : Raw) : Type 0 where
  pub id : is_id row.id ≡ true
  pub marks : are_marks (length columns) row.marks ≡ true
  pub cells : fitted columns row.cells ≡ row.cells

-- ---- rows of one table, ascending by id

abbrev pub is_ascending : List Raw → Bool
is_ascending [] = true
is_ascending (r ∷ rs) = list_all (λ x. is_below r.id x.id) rs && is_ascending rs

-- the row of an id, or none
abbrev pub at_id : List ℕ → List Raw → Option Raw
at_id id rows = find (λ r. bytes_eq r.id id) rows

abbrev pub below : List ℕ → List Raw → List Raw
below id rows = filter (λ r. is_below r.id id) rows

abbrev pub above : List ℕ → List Raw → List Raw
above id rows = filter (λ r. is_below id r.id) rows

-- the rows with this one in the place of its id
abbrev pub put_row : Raw → List Raw → List Raw
put_row row rows = below row.id rows ++ row ∷ above row.id rows

-- the rows without that of the id
abbrev pub without_row : List ℕ → List Raw → List Raw
without_row id rows = below id rows ++ above id rows

-- ---- rows of all tables

-- one record: a table's place and an id
pub record Key : Type 0 where
  pub table : ℕ
  pub id : List ℕ

abbrev pub is_key : Key → Key → Bool
is_key x y = (x.table == y.table) && bytes_eq x.id y.id

-- of each declared table its rows, ascending by id
abbrev pub Rows : Type 0
Rows = List (List Raw)

-- the row of a record, or none
abbrev pub at : Rows → Key → Option Raw
at rows x = at_id x.id (get_or rows x.table [])
