-- What stands in a server's tables.
use Rattle.std.specs.Prelude.{◌≡◌, ℕ, List, [], ◌∷◌, map, String, string_bytes, Bool, true, ◌&&◌, Option, Some, None, is_some}
use Rattle.std.specs.List.{AllByRecursion, cons_option}
use Rattle.std.specs.BTreeMap.{is_at}
use Rattle.std.specs.BTreeMap as tree
use Rattle.std.specs.BTreeSet as sorted
use Rattle.std.specs.BTreeSet.{BTreeSet}
use Rattle.std.specs.Map.{lookup}
use Rattle.std.specs.Ordering.{nat_cmp, on, flip_args, then_cmp}
use Rattle.std.specs.Cmp.Lexicographic.{slice_cmp}
use Rattle.std.specs.declared.cmp.Ordering.{Ordering}
use Rattle.std.specs.declared.alloc.Global.{Global}
use Rattle.melon_log.specs.declared.server_row.ServerRow.{ServerRow}
use Rattle.melon_log.specs.ServerRows.{ServerRows, greatest, at_id}
use Rattle.melon_backend.specs.declared.table.Stamp.{Stamp}
use Rattle.melon_backend.specs.declared.table.ServerTable.{ServerTable}

-- ---- rows by id

abbrev pub Place : Type 0
Place = String Global × Option ServerRow

-- how an id stands to a key
abbrev pub id_order : List ℕ → String Global → Ordering
id_order id key = slice_cmp nat_cmp id (string_bytes key)

abbrev pub string_cmp : String Global → String Global → Ordering
string_cmp = on string_bytes (slice_cmp nat_cmp)

-- the rows that stand in the places
abbrev pub shown : List Place → List ServerRow
shown [] = []
shown (e ∷ es) = cons_option e.1 (shown es)

abbrev pub has_place : List ℕ → List Place → Bool
has_place id es = is_some (lookup (is_at (id_order id)) es)

abbrev pub flat : {X : Type 0} → Option (Option X) → Option X
flat None = None
flat (Some o) = o

abbrev pub is_own : String Global → Option ServerRow → Type 0
is_own key None = Unit {0}
is_own key (Some row) = row.id ≡ string_bytes key

-- each row stands in the place of its own id
abbrev pub AreOwn : List Place → Type 0
AreOwn es = AllByRecursion (λ e. is_own e.0 e.1) es

-- ---- rows by their last revision

abbrev pub stamp_cmp : Stamp → Stamp → Ordering
stamp_cmp = then_cmp (flip_args (on (λ s. s.revision) nat_cmp)) (on (λ s. s.id) (slice_cmp nat_cmp))

abbrev pub stamp_of : ServerRow → Stamp
stamp_of row = record { revision = greatest row; id = row.id }

abbrev pub has_stamp : ServerRow → BTreeSet Stamp → Bool
has_stamp row stamps = sorted.contains stamp_cmp stamps (stamp_of row)

-- ---- a table

abbrev pub rows_in : ServerTable → List ServerRow
rows_in t = shown t.places.entries

-- there is a place for the row, and its stamp
abbrev pub is_ready : ServerRow → ServerTable → Bool
is_ready row t = has_place row.id t.places.entries && has_stamp row t.stamps

-- The places ascend, each row stands in its own, and has its stamp.
pub record IsKept (t : ServerTable) : Type 0 where
  pub ordered : tree.IsOrdered string_cmp t.places
  pub own : AreOwn t.places.entries
  pub stamped : (id : List ℕ) (row : ServerRow) → at_id id (rows_in t) ≡ Some row → has_stamp row t.stamps ≡ true

-- ---- all tables

abbrev pub tables_rows : List ServerTable → ServerRows
tables_rows tables = map rows_in tables

abbrev pub AreKept : List ServerTable → Type 0
AreKept tables = AllByRecursion IsKept tables
