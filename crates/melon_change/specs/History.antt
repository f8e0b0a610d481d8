-- Legal histories: which changes an entry of each origin may make.
use Rattle.std.specs.Prelude.{◌≡◌, ℕ, ◌<◌, List, [], ◌∷◌, length, take, true, Option, Some, None, MatchBool, ◌⊎◌}
use Rattle.melon_schema.specs.declared.schema.ColumnSchema.{ColumnSchema}
use Rattle.melon_schema.specs.declared.schema.TableSchema.{TableSchema}
use Rattle.melon_raw.specs.declared.raw.Status.TheVariants.{Created, Updated, Deleted, Synced}
use Rattle.melon_raw.specs.declared.raw.Raw.{Raw}
use Rattle.melon_raw.specs.Rows.{Fits, Rows, at, cell, has, is_visible}
use Rattle.melon_change.specs.declared.history.Origin.{Origin}
use Rattle.melon_change.specs.declared.history.Origin.TheVariants.{Local, Applied, Settled}
use Rattle.melon_change.specs.declared.history.Entry.{Entry}
use Rattle.melon_change.specs.declared.change.Change.{Change}
use Rattle.melon_change.specs.Changes.{columns_at, key_of, change_of, after_set}
use Rattle.melon_change.specs.Edited.{differing, appended, status_after}

-- ---- what a change may do

-- the columns whose cells differ are marked behind the old marks, and a synced row with such a column becomes updated
abbrev pub IsEdit : List ColumnSchema → Raw → Raw → Type 0
IsEdit columns before after = (after.marks ≡ appended before.marks (differing columns before.cells after.cells)) × (after.status ≡ status_after before.status (differing columns before.cells after.cells))

abbrev pub IsMarkedDeleted : Raw → Raw → Type 0
IsMarkedDeleted before after = (after.status ≡ Deleted) × (after.marks ≡ before.marks) × (after.cells ≡ before.cells)

abbrev pub IsSynced : Raw → Type 0
IsSynced row = (row.status ≡ Synced) × (row.marks ≡ [])

-- the same status, marks and marked cells
abbrev pub IsResolved : List ColumnSchema → Raw → Raw → Type 0
IsResolved columns before after = (after.status ≡ before.status) × (after.marks ≡ before.marks) × ((c : ℕ) → c < length columns → has c before.marks ≡ true → cell after c ≡ cell before c)

-- The table of allowed changes.
abbrev pub IsAllowed : List ColumnSchema → Origin → Option Raw → Option Raw → Type 0
IsAllowed columns Local None (Some after) = (after.status ≡ Created) × (after.marks ≡ [])
IsAllowed columns Local (Some before) (Some after) = (is_visible before.status ≡ true) × (IsEdit columns before after ⊎ IsMarkedDeleted before after)
IsAllowed columns Local (Some before) None = Unit {0}
IsAllowed columns Applied None (Some after) = IsSynced after
IsAllowed columns Applied (Some before) (Some after) = MatchBool (is_visible before.status) (IsResolved columns before after) (IsSynced after)
IsAllowed columns Applied (Some before) None = Unit {0}
IsAllowed columns Settled (Some before) (Some after) = (before.status ≡ Created ⊎ before.status ≡ Updated) × (after.cells ≡ before.cells) × IsSynced after
IsAllowed columns Settled (Some before) None = before.status ≡ Deleted
IsAllowed columns origin before after = ⊥

-- ---- histories

abbrev pub KeepsId : List ℕ → Option Raw → Type 0
KeepsId id None = Unit {0}
KeepsId id (Some row) = row.id ≡ id

abbrev pub FitsIfAny : List ColumnSchema → Option Raw → Type 0
FitsIfAny columns None = Unit {0}
FitsIfAny columns (Some row) = Fits columns row

-- A change of the row now, in a declared table, allowed for the origin. Its row after keeps the id and fits the table.
pub record IsChange (schema : List TableSchema) (rows : Rows) (origin : Origin) (c : Change) : Type 0 where
  pub declared : c.table < length rows
  pub before_is : c.before ≡ at rows (key_of c)
  pub keeps_id : KeepsId c.id c.after
  pub fits : FitsIfAny (columns_at schema c.table) c.after
  pub allowed : IsAllowed (columns_at schema c.table) origin c.before c.after

-- each is a change of the rows now, and no record is named twice
abbrev pub AreChanges : List TableSchema → Rows → Origin → List Change → Type 0
AreChanges schema rows origin [] = Unit {0}
AreChanges schema rows origin (c ∷ cs) = IsChange schema rows origin c × (change_of (key_of c) cs ≡ None) × AreChanges schema rows origin cs

-- it isn't empty, names no record twice, and each change is one of the rows now
abbrev pub IsEntry : List TableSchema → Rows → Entry → Type 0
IsEntry schema rows e = (0 < length e.set) × AreChanges schema rows e.origin e.set

-- the rows after these entries
abbrev pub replay : Rows → List Entry → Rows
replay rows [] = rows
replay rows (e ∷ es) = replay (after_set rows e.set) es

-- each entry is one of the rows that the entries before it leave
abbrev pub IsLegal : List TableSchema → Rows → List Entry → Type 0
IsLegal schema rows [] = Unit {0}
IsLegal schema rows (e ∷ es) = IsEntry schema rows e × IsLegal schema (after_set rows e.set) es

-- opening rows and entries
pub record History : Type 0 where
  pub opening : Rows
  pub entries : List Entry

-- the rows after the first n entries
abbrev pub replay_to : History → ℕ → Rows
replay_to h n = replay h.opening (take n h.entries)
