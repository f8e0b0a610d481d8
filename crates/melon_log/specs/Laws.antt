-- Laws of the log.
use Rattle.std.specs.Prelude.{◌≡◌, ℕ, ◌<◌, ◌≤◌, List, length, Bool, true, false, Option, Some, None, Ok, unwrap_or, is_none, if◌then◌else◌}
use Rattle.melon_schema.specs.declared.schema.ColumnSchema.{ColumnSchema}
use Rattle.melon_schema.specs.declared.schema.TableSchema.{TableSchema}
use Rattle.melon_raw.specs.Rows.{Key, table_at}
use Rattle.melon_wire.specs.declared.changes.Changes.{Changes}
use Rattle.melon_wire.specs.declared.pull.PullReply.{PullReply}
use Rattle.melon_wire.specs.Standing.{Standing, as_created, as_updated, as_deleted, in_no_list, standing}
use Rattle.melon_log.specs.declared.server_row.ServerRow.{ServerRow}
use Rattle.melon_log.specs.ServerRows.{at, do_ascend, greatest, next_row}
use Rattle.melon_log.specs.Log.{Log, revision, pushed, row_now, touched_in, columns_at, table_rows, server_rows}
use Rattle.melon_log.specs.Pulled.{row_told, is_new, is_edited, is_gone, pulled}

-- The row after one push more follows from the row before it, and from the list in which the push has the record.
abbrev pub RowFollowsPush : Type 0
RowFollowsPush =
    (g : Log) (c : Changes) (x : Key)
    → row_now (pushed g c) x ≡ next_row (columns_at g.schema x.table) x.id (row_now g x) (revision (pushed g c)) (standing g.schema c x)

-- A record that a push doesn't list keeps its row.
abbrev pub UnlistedStays : Type 0
UnlistedStays = (g : Log) (c : Changes) (x : Key) → standing g.schema c x ≡ in_no_list → row_now (pushed g c) x ≡ row_now g x

-- the greatest revision of a record's row, and 0 where it has none
abbrev pub greatest_in : Option ServerRow → ℕ
greatest_in None = 0
greatest_in (Some row) = greatest row

-- no opening row has a revision above that of the opening
abbrev pub IsWithin : Log → Type 0
IsWithin g = (x : Key) → greatest_in (at g.opening x) ≤ g.first

-- The revision of the log never falls, no row has one above it, and the greatest of a record's row never falls.
pub record Grow (g : Log) (c : Changes) : Type 0 where
  pub log : revision g ≤ revision (pushed g c)
  pub within : IsWithin g → (x : Key) → greatest_in (row_now g x) ≤ revision g
  pub rows : IsWithin g → (x : Key) → greatest_in (row_now g x) ≤ greatest_in (row_now (pushed g c) x)

abbrev pub RevisionsGrow : Type 0
RevisionsGrow = (g : Log) (c : Changes) → Grow g c

-- a record is touched after t where the greatest revision of its row is above t
abbrev pub TouchedIsNewer : Type 0
TouchedIsNewer = (t : ℕ) (row : Option ServerRow) → (touched_in t row ≡ true → t < greatest_in row) × (t < greatest_in row → touched_in t row ≡ true)

-- The rows now are those of the records, and those of each table ascend by id.
pub record AreRowsNow (g : Log) : Type 0 where
  pub found : (x : Key) → x.table < length g.schema → at (server_rows g) x ≡ row_now g x
  pub ascending : (i : ℕ) → do_ascend (table_rows g i) ≡ true

abbrev pub ServerRowsAreNow : Type 0
ServerRowsAreNow = (g : Log) → AreRowsNow g

-- ---- what a pull tells

-- no two tables have one name
abbrev pub NamesApart : List TableSchema → Type 0
NamesApart schema = (i j : ℕ) → i < length schema → j < length schema → (table_at schema i).name ≡ (table_at schema j).name → i ≡ j

abbrev pub told_row : List ColumnSchema → ℕ → ServerRow → Standing
told_row columns t row =
    if is_new t row then as_created (row_told columns row).fields
    else (if is_edited t row then as_updated (row_told columns row).fields
    else (if is_gone t row then as_deleted else in_no_list))

-- the list in which a pull at t has a record with this row
abbrev pub told : List ColumnSchema → ℕ → Option ServerRow → Standing
told columns t None = in_no_list
told columns t (Some row) = told_row columns t row

-- A pull at t has each record in the list that its row says.
abbrev pub PullTellsRows : Type 0
PullTellsRows =
    (g : Log) (t : ℕ) (reply : PullReply) (x : Key) → NamesApart g.schema → x.table < length g.schema → pulled g t ≡ Ok reply
    → standing g.schema reply.changes x ≡ told (columns_at g.schema x.table) t (row_now g x)

abbrev pub is_told : Standing → Bool
is_told in_no_list = false
is_told (as_created fields) = true
is_told (as_updated fields) = true
is_told as_deleted = true

-- a deleted row was deleted last
abbrev pub WasDeletedLast : Option ServerRow → Type 0
WasDeletedLast None = Unit {0}
WasDeletedLast (Some row) = (is_none row.deleted ≡ false → greatest row ≡ unwrap_or row.deleted 0)

-- A pull at t tells just what was touched after t.
abbrev pub PullTellsTouched : Type 0
PullTellsTouched = (columns : List ColumnSchema) (t : ℕ) (row : Option ServerRow) → WasDeletedLast row → is_told (told columns t row) ≡ touched_in t row

-- Where it is so at the opening, each deleted row was deleted last.
abbrev pub DeletedLast : Type 0
DeletedLast = (g : Log) → IsWithin g → ((x : Key) → WasDeletedLast (at g.opening x)) → (x : Key) → WasDeletedLast (row_now g x)
