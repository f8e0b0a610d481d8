-- What holds of every fetch, of what is sent of it, and of every settlement.
use Rattle.std.specs.Prelude.{◌≡◌, ℕ, ◌<◌, List, length, Bool, true, false, Option, Some, option_map}
use Rattle.std.specs.List.{AllByRecursion}
use Rattle.melon_schema.specs.declared.schema.ColumnSchema.{ColumnSchema}
use Rattle.melon_schema.specs.declared.schema.TableSchema.{TableSchema}
use Rattle.melon_raw.specs.declared.raw.Status.TheVariants.{Deleted}
use Rattle.melon_raw.specs.declared.raw.Raw.{Raw}
use Rattle.melon_raw.specs.Rows.{Key, Rows, at, table_at, is_ascending}
use Rattle.melon_change.specs.declared.change.Change.{Change}
use Rattle.melon_change.specs.declared.history.Origin.TheVariants.{Settled}
use Rattle.melon_change.specs.Changes.{columns_at, after_set}
use Rattle.melon_change.specs.History.{AreChanges}
use Rattle.melon_change.specs.Legality.{RowsFit}
use Rattle.melon_wire.specs.declared.fetch.Held.{Held}
use Rattle.melon_wire.specs.declared.fetch.Gone.{Gone}
use Rattle.melon_wire.specs.declared.fetch.Fetch.{Fetch}
use Rattle.melon_wire.specs.Standing.{Standing, stands, standing}
use Rattle.melon_wire.specs.Collected.{has_status, held_key, gone_key, collected, is_nothing, IsFetch, is_within}
use Rattle.melon_wire.specs.Sent.{remote_of, sent_of, names_something}
use Rattle.melon_wire.specs.Settled.{held_of, is_gone, settled_to}
use Rattle.melon_push.specs.Settling.{settled}

-- ---- collected

-- in each table the rows ascend by id
abbrev pub AllAscend : Rows → Type 0
AllAscend rows = AllByRecursion (λ rs. is_ascending rs ≡ true) rows

abbrev pub IsCopy : Rows → Held → Type 0
IsCopy rows h = at rows (held_key h) ≡ Some h.row

abbrev pub IsMarked : Rows → Gone → Type 0
IsMarked rows g = (row : Raw) × (at rows (gone_key g) ≡ Some row) × (has_status Deleted row ≡ true)

-- What is collected has the form of a fetch of these tables: copies of rows, and the ids of rows that are marked as deleted.
pub record IsCollected (rows : Rows) (f : Fetch) : Type 0 where
  pub form : IsFetch f
  pub within : is_within (length rows) f ≡ true
  pub created : AllByRecursion (IsCopy rows) f.created
  pub updated : AllByRecursion (IsCopy rows) f.updated
  pub deleted : AllByRecursion (IsMarked rows) f.deleted

abbrev pub CollectedIsFetch : Type 0
CollectedIsFetch = (rows : Rows) → AllAscend rows → IsCollected rows (collected rows)

-- Rows stay in order, whatever changes are made.
abbrev pub RowsStayInOrder : Type 0
RowsStayInOrder = (rows : Rows) (set : List Change) → AllAscend rows → AllAscend (after_set rows set)

-- ---- sent

-- no two tables have one name
abbrev pub NamesApart : List TableSchema → Type 0
NamesApart schema = (i j : ℕ) → i < length schema → j < length schema → (table_at schema i).name ≡ (table_at schema j).name → i ≡ j

-- where a record of a fetch stands in what is sent of it
abbrev pub sent_standing : List ColumnSchema → Fetch → Key → Standing
sent_standing columns f x = stands (option_map (λ h. remote_of columns h.row) (held_of f.created x)) (option_map (λ h. remote_of columns h.row) (held_of f.updated x)) (is_gone f.deleted x)

-- What is sent of a fetch is its rows and its ids.
abbrev pub SentStandsAsFetched : Type 0
SentStandsAsFetched = (schema : List TableSchema) (f : Fetch) (x : Key) → NamesApart schema → x.table < length schema → standing schema (sent_of schema f) x ≡ sent_standing (columns_at schema x.table) f x

-- What is sent of a fetch that isn't empty names something.
abbrev pub SentNamesSomething : Type 0
SentNamesSomething = (schema : List TableSchema) (f : Fetch) → is_within (length schema) f ≡ true → is_nothing f ≡ false → names_something (sent_of schema f) ≡ true

-- ---- settled

abbrev pub LeavesSettled : Rows → Fetch → List Change → Type 0
LeavesSettled rows f set = (x : Key) → at (after_set rows set) x ≡ settled_to f x (at rows x)

-- Settling leaves of each record what it is settled to.
abbrev pub SettledLeavesCopies : Type 0
SettledLeavesCopies = (rows : Rows) (f : Fetch) → LeavesSettled rows f (settled rows f)

-- The set is one that a settled entry may have.
abbrev pub SettledIsAllowed : Type 0
SettledIsAllowed = (schema : List TableSchema) (rows : Rows) (f : Fetch) → RowsFit schema rows → IsFetch f → AreChanges schema rows Settled (settled rows f)
