-- What contracts see of a board: one legal history, and what an entry to be installed is.
use Rattle.std.specs.Prelude.{◌≡◌, ℕ, ◌+◌, ◌<◌, ◌≤◌, List, [], ◌∷◌, map, get_or, nat_lt, Bool, true, false, ◌&&◌, ◌==◌, Option, Some, None, length}
use Rattle.std.specs.List.{list_all}
use Rattle.melon_schema.specs.declared.schema.ColumnSchema.{ColumnSchema}
use Rattle.melon_schema.specs.declared.schema.TableSchema.{TableSchema}
use Rattle.melon_raw.specs.declared.raw.Raw.{Raw}
use Rattle.melon_raw.specs.Rows.{Rows, at}
use Rattle.melon_table.specs.Seen.{SeenTable, rows_of, columns_of, declared_columns}
use Rattle.melon_table.specs.Kept.{IsKept}
use Rattle.melon_change.specs.declared.change.Change.{Change}
use Rattle.melon_change.specs.declared.history.Entry.{Entry}
use Rattle.melon_change.specs.Changes.{columns_at, key_of, change_of, after_change}
use Rattle.melon_change.specs.History.{KeepsId, FitsIfAny, IsEntry, IsLegal, replay}

-- the rows of the opening, the tables with the rows now, the journal, and the rows after of the set for which room was made
pub record SeenBoard : Type 0 where
  pub opening : Rows
  pub tables : List SeenTable
  pub entries : List Entry
  pub ready : Option (List (Option Raw))

-- each declared table has its rows, which ascend and fit it
abbrev pub AreKept : List TableSchema → Rows → Type 0
AreKept schema rows = (t : ℕ) → IsKept (columns_at schema t) (get_or rows t [])

-- ---- back to the opening

-- the change back
abbrev pub undone : Change → Change
undone c = record { table = c.table; id = c.id; before = c.after; after = c.before }

-- the rows before a set, from those after it: its last change is undone first
abbrev pub before_set : Rows → List Change → Rows
before_set rows [] = rows
before_set rows (c ∷ cs) = after_change (before_set rows cs) (undone c)

-- the rows before the entries, from those after them
abbrev pub rewound : Rows → List Entry → Rows
rewound rows [] = rows
rewound rows (e ∷ es) = before_set (rewound rows es) e.set

-- The journal is a legal history from the opening rows, under every schema with these columns, and the rows now are its replay.
pub record IsOneHistory (board : SeenBoard) : Type 0 where
  pub legal : (schema : List TableSchema) → declared_columns schema ≡ columns_of board.tables → IsLegal schema board.opening board.entries
  pub replayed : replay board.opening board.entries ≡ rows_of board.tables

-- An entry that a legal history of such tables may have next, whose rows now ascend and fit them.
pub record IsNext (columns : List (List ColumnSchema)) (rows : Rows) (e : Entry) : Type 0 where
  pub schema : List TableSchema
  pub declared : declared_columns schema ≡ columns
  pub kept : AreKept schema rows
  pub entry : IsEntry schema rows e

-- ---- room

abbrev pub afters : List Change → List (Option Raw)
afters set = map (λ c. c.after) set

abbrev pub is_new : Option Raw → Option Raw → Bool
is_new None (Some row) = true
is_new before after = false

-- the change makes a record
abbrev pub makes_row : Change → Bool
makes_row c = is_new c.before c.after

abbrev pub no_table : SeenTable
no_table = record { columns = []; rows = []; spare = 0 }

abbrev pub spare_at : List SeenTable → ℕ → ℕ
spare_at tables t = (get_or tables t no_table).spare

abbrev pub one_if : Bool → ℕ
one_if true = 1
one_if false = 0

-- how many rows are used of the table at place t by one in the table at place u, where that is new
abbrev pub used_in : ℕ → ℕ → Bool → ℕ
used_in t u new = one_if (new && (u == t))

-- how many records the changes make in the table at a place
abbrev pub rows_made : ℕ → List Change → ℕ
rows_made t [] = 0
rows_made t (c ∷ cs) = used_in t c.table (makes_row c) + rows_made t cs

-- each table has room for the records that the changes make in it
abbrev pub HasRoom : List SeenTable → List Change → Type 0
HasRoom tables set = (t : ℕ) → rows_made t set ≤ spare_at tables t

-- room was made for the set, and its rows after were copied
pub record IsReady (board : SeenBoard) (set : List Change) : Type 0 where
  pub copied : board.ready ≡ Some (afters set)
  pub room : HasRoom board.tables set

-- the places of the tables are in range
abbrev pub are_within : ℕ → List Change → Bool
are_within tables set = list_all (λ c. nat_lt c.table tables) set

-- A change of the row now, in a table that is there. Its row after keeps the id and fits the table.
pub record IsNow (columns : List (List ColumnSchema)) (rows : Rows) (c : Change) : Type 0 where
  pub within : c.table < length rows
  pub before_is : c.before ≡ at rows (key_of c)
  pub keeps_id : KeepsId c.id c.after
  pub fits : FitsIfAny (get_or columns c.table []) c.after

-- each is a change of the rows now, and no record is named twice
abbrev pub AreNow : List (List ColumnSchema) → Rows → List Change → Type 0
AreNow columns rows [] = Unit {0}
AreNow columns rows (c ∷ cs) = IsNow columns rows c × (change_of (key_of c) cs ≡ None) × AreNow columns rows cs
