-- How a fetch grows and is taken apart.
use Rattle.std.specs.Prelude.{◌≡◌, ℕ, ◌-◌, ◌==◌, nat_le, List, [], ◌++◌, length, map, filter, get_or, take, drop, true, Option, Some, None}
use Rattle.std.specs.Option.{option_copied}
use Rattle.std.specs.List.{AllByRecursion, flat_map, prefix_len, range_with_len}
use Rattle.std.specs.List.Sorted.{IsPermutation}
use Rattle.melon_schema.specs.declared.schema.ColumnSchema.{ColumnSchema}
use Rattle.melon_schema.specs.declared.schema.TableSchema.{TableSchema}
use Rattle.melon_raw.specs.declared.raw.Status.TheVariants.{Created, Updated, Deleted}
use Rattle.melon_raw.specs.declared.raw.Raw.{Raw}
use Rattle.melon_raw.specs.Rows.{Key, Rows, at, column_at}
use Rattle.melon_table.specs.Seen.{SeenTable}
use Rattle.melon_table.specs.Kept.{IsKept}
use Rattle.melon_change.specs.declared.change.Change.{Change}
use Rattle.melon_change.specs.History.{FitsIfAny}
use Rattle.melon_wire.specs.declared.changes.Remote.{Remote}
use Rattle.melon_wire.specs.declared.changes.TableChanges.{TableChanges}
use Rattle.melon_wire.specs.declared.fetch.Held.{Held}
use Rattle.melon_wire.specs.declared.fetch.Gone.{Gone}
use Rattle.melon_wire.specs.declared.fetch.Fetch.{Fetch}
use Rattle.melon_wire.specs.Keys.{key_at, do_rise}
use Rattle.melon_wire.specs.Collected.{has_status, held_at, gone_at, held_key, gone_key}
use Rattle.melon_wire.specs.Sent.{by_name, field_of, remote_of, sent_at, has_something}
use Rattle.melon_wire.specs.Settled.{Collection, as_row, as_id}
use Rattle.melon_push.specs.declared.fetched.Fetched.{Fetched}
use Rattle.melon_push.specs.declared.runs.Runs.{Runs}
use Rattle.melon_push.specs.Settling.{change_settled}

-- ---- as it grows

-- what is collected of these rows of the table at a place
abbrev pub collected_at : ℕ → List Raw → Fetch
collected_at i rows = record {
  created = map (λ r. record { table = i; row = r }) (filter (has_status Created) rows);
  updated = map (λ r. record { table = i; row = r }) (filter (has_status Updated) rows);
  deleted = map (λ r. record { table = i; id = r.id }) (filter (has_status Deleted) rows);
}

-- what was collected, and more behind it
abbrev pub with_more : Fetch → Fetch → Fetch
with_more f g = record { created = f.created ++ g.created; updated = f.updated ++ g.updated; deleted = f.deleted ++ g.deleted }

-- what is collected of the first n tables
abbrev pub collected_of : Rows → ℕ → Fetch
collected_of rows n =
    let places = range_with_len 0 n in
    record { created = flat_map (held_at Created rows) places; updated = flat_map (held_at Updated rows) places; deleted = flat_map (gone_at rows) places }

abbrev pub AreKept : List SeenTable → Type 0
AreKept tables = AllByRecursion (λ t. IsKept t.columns t.rows) tables

-- ---- record by record

-- a record of a fetch, and how it was collected
pub record Collecting : Type 0 where
  pub key : Key
  pub how : Collection

abbrev pub key_collected : Collecting → Key
key_collected c = c.key

abbrev pub copy_seen : Option Raw → Collection
copy_seen None = as_id
copy_seen (Some row) = as_row row

abbrev pub held_collected : Held → Collecting
held_collected h = record { key = held_key h; how = as_row h.row }

abbrev pub gone_collected : Gone → Collecting
gone_collected g = record { key = gone_key g; how = as_id }

abbrev pub collecting : Fetch → List Collecting
collecting f = map held_collected f.created ++ (map held_collected f.updated ++ map gone_collected f.deleted)

-- ---- as it is taken apart

-- so many are of the table at a place
abbrev pub held_run : ℕ → List Held → ℕ
held_run i held = prefix_len (λ h. h.table == i) held

abbrev pub gone_run : ℕ → List Gone → ℕ
gone_run i gone = prefix_len (λ g. g.table == i) gone

abbrev pub run_of : ℕ → Fetch → Fetch
run_of i f = record { created = take (held_run i f.created) f.created; updated = take (held_run i f.updated) f.updated; deleted = take (gone_run i f.deleted) f.deleted }

abbrev pub past_run : ℕ → Fetch → Fetch
past_run i f = record { created = drop (held_run i f.created) f.created; updated = drop (held_run i f.updated) f.updated; deleted = drop (gone_run i f.deleted) f.deleted }

-- those of the table at a place
abbrev pub fetch_of : ℕ → Fetch → Fetch
fetch_of i f = record { created = filter (λ h. h.table == i) f.created; updated = filter (λ h. h.table == i) f.updated; deleted = filter (λ g. g.table == i) f.deleted }

-- those of the table at a place and of later ones
abbrev pub fetch_from : ℕ → Fetch → Fetch
fetch_from i f = record { created = filter (λ h. nat_le i h.table) f.created; updated = filter (λ h. nat_le i h.table) f.updated; deleted = filter (λ g. nat_le i g.table) f.deleted }

-- ---- as it is sent

-- the cells of the columns at these places
abbrev pub remote_by : List ColumnSchema → List ℕ → Raw → Remote
remote_by columns order row = record { id = row.id; fields = map (field_of columns row) order }

abbrev pub columns_by_name : List ColumnSchema → List ℕ
columns_by_name columns = by_name (λ c. (column_at columns c).name) (range_with_len 0 (length columns))

abbrev pub table_sent : TableSchema → Fetch → TableChanges
table_sent table f = record { table = table.name; created = map (λ h. remote_of table.columns h.row) f.created; updated = map (λ h. remote_of table.columns h.row) f.updated; deleted = map (λ g. g.id) f.deleted }

abbrev pub sent_from : List TableSchema → Fetch → ℕ → List TableChanges
sent_from schema f i = filter has_something (map (sent_at schema f) (range_with_len i (length schema - i)))

-- ---- as the code holds them

abbrev pub fetch_seen : Runs → Fetch
fetch_seen runs = record { created = runs.created.now; updated = runs.updated.now; deleted = runs.deleted.now }

abbrev pub collecting_seen : Fetched → Collecting
collecting_seen one = record { key = key_at one.table one.id.now; how = copy_seen (option_copied one.copy) }

abbrev pub all_seen : List Fetched → List Collecting
all_seen fetched = map collecting_seen fetched

abbrev pub change_seen : Rows → Collecting → Option Change
change_seen rows c = change_settled c.key (at rows c.key) c.how

-- They are all that was collected, in the order of the records.
pub record IsGathered (f : Fetch) (all : List Collecting) : Type 0 where
  pub moved : IsPermutation (collecting f) all
  pub rising : do_rise (map key_collected all) ≡ true

-- the row before a change fits its table
abbrev pub BeforesFit : List (List ColumnSchema) → List Change → Type 0
BeforesFit columns set = AllByRecursion (λ c. FitsIfAny (get_or columns c.table []) c.before) set
