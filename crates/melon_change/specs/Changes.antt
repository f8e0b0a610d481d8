-- Changes of records, and rows after them.
use Rattle.std.specs.Prelude.{ℕ, List, [], ◌∷◌, get_or, set, find, Bool, true, false, Option, Some, None, is_some}
use Rattle.melon_schema.specs.declared.schema.ColumnSchema.{ColumnSchema}
use Rattle.melon_schema.specs.declared.schema.TableSchema.{TableSchema}
use Rattle.melon_raw.specs.declared.raw.Raw.{Raw}
use Rattle.melon_raw.specs.Rows.{Key, is_key, is_visible, Rows, at, table_at, put_row, without_row}
use Rattle.melon_table.specs.Seen.{SeenTable, columns_of}
use Rattle.melon_change.specs.declared.change.Change.{Change}
use Rattle.melon_change.specs.declared.change.Told.{Told}
use Rattle.melon_change.specs.declared.change.Told.TheVariants.{Created, Updated, Destroyed, Hidden}

-- the columns of the table at a place
abbrev pub columns_at : List TableSchema → ℕ → List ColumnSchema
columns_at schema table = (table_at schema table).columns

-- the columns of the table at a place among tables
abbrev pub columns_in : List SeenTable → ℕ → List ColumnSchema
columns_in tables table = get_or (columns_of tables) table []

abbrev pub key : ℕ → List ℕ → Key
key table id = record { table = table; id = id }

abbrev pub key_of : Change → Key
key_of c = key c.table c.id

-- the change of x among changes, or none
abbrev pub change_of : Key → List Change → Option Change
change_of x changes = find (λ c. is_key x (key_of c)) changes

-- whether x is changed by one of them
abbrev pub is_among : List Change → Key → Bool
is_among changes x = is_some (change_of x changes)

-- ---- rows after changes

abbrev pub with_after : List ℕ → Option Raw → List Raw → List Raw
with_after id None rows = without_row id rows
with_after id (Some row) rows = put_row row rows

abbrev pub after_change : Rows → Change → Rows
after_change rows c = set rows c.table (with_after c.id c.after (get_or rows c.table []))

abbrev pub after_set : Rows → List Change → Rows
after_set rows [] = rows
after_set rows (c ∷ cs) = after_set (after_change rows c) cs

-- ---- how a change is told

abbrev pub is_shown : Option Raw → Bool
is_shown None = false
is_shown (Some row) = is_visible row.status

-- by whether the row is visible before and after
abbrev pub told_by : Bool → Bool → Told
told_by false true = Created
told_by true true = Updated
told_by true false = Destroyed
told_by false false = Hidden

abbrev pub told_of : Change → Told
told_of c = told_by (is_shown c.before) (is_shown c.after)
