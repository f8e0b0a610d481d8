-- Whether the server accepts a push, and the first refusal where it doesn't.
use Rattle.std.specs.Prelude.{ℕ, List, [], ◌∷◌, ◌++◌, length, map, filter, find, fold, nat_lt, nat_le, Bool, false, not, ◌&&◌, ◌||◌, Option, Some, None, option_map, option_and_then, is_some, Result, Ok, Err, ⊤, codes, bytes_eq, if◌then◌else◌}
use Rattle.std.specs.List.{list_any, flat_map}
use Rattle.std.specs.Option.{option_map_or}
use Rattle.melon_schema.specs.Faults.{◌>>=◌, unless}
use Rattle.melon_schema.specs.Places.{table_named, column_named, declared_table}
use Rattle.melon_schema.specs.declared.schema.Kind.{Kind}
use Rattle.melon_schema.specs.declared.schema.Kind.TheVariants as kinds
use Rattle.melon_schema.specs.declared.schema.ColumnSchema.{ColumnSchema}
use Rattle.melon_schema.specs.declared.schema.TableSchema.{TableSchema}
use Rattle.melon_raw.specs.declared.datum.Datum.{Datum}
use Rattle.melon_raw.specs.declared.datum.Datum.TheVariants.{Words}
use Rattle.melon_raw.specs.declared.datum.OpField.{OpField}
use Rattle.melon_raw.specs.Order.{is_below}
use Rattle.melon_raw.specs.Rows.{Key, table_at}
use Rattle.melon_wire.specs.declared.changes.TableChanges.{TableChanges}
use Rattle.melon_wire.specs.declared.changes.Changes.{Changes}
use Rattle.melon_wire.specs.Keys.{key_at, times, ascending}
use Rattle.melon_wire.specs.Sent.{has_something}
use Rattle.melon_wire.specs.Standing.{Standing, as_created, as_updated, as_deleted, in_no_list, standing, ids_listed}
use Rattle.melon_log.specs.declared.server_row.ServerRow.{ServerRow}
use Rattle.melon_log.specs.declared.fault.PushFault.{PushFault}
use Rattle.melon_log.specs.declared.fault.PushFault.TheVariants.{Future, UnknownName, Repeated, Conflict, Gone, LongText}
use Rattle.melon_log.specs.ServerRows.{is_live, is_touched, greatest}
use Rattle.melon_log.specs.Log.{Log, revision, row_now, columns_at, fields_sent, after_push}

abbrev pub if_any : Option PushFault → Result ⊤ PushFault
if_any None = Ok tt
if_any (Some fault) = Err fault

-- the first fault of these, from the first to the last
abbrev pub unless_one : {X : Type 0} → (X → Option PushFault) → List X → Result ⊤ PushFault
unless_one fault [] = Ok tt
unless_one fault (x ∷ xs) = if_any (fault x) >>= λ none. unless_one fault xs

-- ---- unknown names

-- the lesser of two names
abbrev pub lesser : Option (List ℕ) → List ℕ → Option (List ℕ)
lesser None name = Some name
lesser (Some least) name = if is_below name least then Some name else Some least

abbrev pub least_name : List (List ℕ) → Option (List ℕ)
least_name names = fold lesser None names

-- `_status` and `_changed` are passed over
abbrev pub is_unknown : List ColumnSchema → List ℕ → Bool
is_unknown columns name = not (bytes_eq name (codes "_status") || (bytes_eq name (codes "_changed") || is_some (column_named name columns)))

abbrev pub columns_sent : TableChanges → List (List ℕ)
columns_sent t = flat_map (λ row. map (λ f. f.column) row.fields) (t.created ++ t.updated)

-- the least column of a table that it lacks, or the table itself where the schema lacks it and something of it is sent
abbrev pub unknown_in : TableChanges → Option TableSchema → Option PushFault
unknown_in t None = if has_something t then Some (UnknownName t.table []) else None
unknown_in t (Some table) = option_map (UnknownName t.table) (least_name (filter (is_unknown table.columns) (columns_sent t)))

abbrev pub unknown : List TableSchema → TableChanges → Option PushFault
unknown schema t = unknown_in t (declared_table t.table schema)

-- ---- records

-- the ids of a table's lists, as records of one table
abbrev pub keys_of : TableChanges → List Key
keys_of t = map (key_at 0) (ids_listed t)

-- the least id that stands twice in the lists of a table
abbrev pub repeated : TableChanges → Option PushFault
repeated t = option_map (λ (x : Key). Repeated t.table x.id) (find (λ x. nat_lt 1 (times x (keys_of t))) (ascending (keys_of t)))

abbrev pub records_at : TableChanges → Option ℕ → List Key
records_at t None = []
records_at t (Some i) = map (λ x. key_at i x.id) (ascending (keys_of t))

-- the records that a push lists of the declared tables, by the tables of the push, which ascend by name, and by ascending
-- id, each once
abbrev pub records : List TableSchema → Changes → List Key
records schema c = flat_map (λ t. records_at t (table_named t.table schema)) c.tables

-- a row that is sent, whose server row was created, changed or deleted after t; a record that is listed as deleted, whose
-- server row is live and was changed after t
abbrev pub is_newer : ℕ → Standing → ServerRow → Bool
is_newer t (as_created fields) row = is_touched t row
is_newer t (as_updated fields) row = is_touched t row
is_newer t as_deleted row = is_live row && nat_lt t row.changed
is_newer t in_no_list row = false

-- a row that is sent as updated, whose server row was deleted, at t or before where it is in no conflict
abbrev pub is_lost : Standing → ServerRow → Bool
is_lost (as_updated fields) row = not (is_live row)
is_lost (as_created fields) row = false
is_lost as_deleted row = false
is_lost in_no_list row = false

abbrev pub is_long : Kind → Datum → Bool
is_long kinds.Words (Words text) = nat_lt 65536 (length text)
is_long kinds.Words other = false
is_long kinds.Whole value = false
is_long kinds.Truth value = false

-- a text of more than 65536 bytes for a declared column of texts
abbrev pub is_long_field : List ColumnSchema → OpField → Bool
is_long_field columns f = option_map_or (λ (column : ColumnSchema). is_long column.kind f.value) (find (λ column. bytes_eq column.name f.column) columns) false

abbrev pub has_long : List ColumnSchema → Option (List OpField) → Bool
has_long columns None = false
has_long columns (Some fields) = list_any (is_long_field columns) fields

module _ (schema : List TableSchema) (row : Key → Option ServerRow) (t : ℕ) (how : Key → Standing) where
  abbrev name_of : Key → List ℕ
  name_of x = (table_at schema x.table).name

  abbrev pub conflict : Key → Option PushFault
  conflict x = option_and_then (λ (r : ServerRow). if is_newer t (how x) r then Some (Conflict (name_of x) x.id (greatest r)) else None) (row x)

  abbrev pub gone : Key → Option PushFault
  gone x = option_and_then (λ (r : ServerRow). if is_lost (how x) r then Some (Gone (name_of x) x.id (greatest r)) else None) (row x)

  abbrev pub long : Key → Option PushFault
  long x = if has_long (columns_at schema x.table) (fields_sent (how x)) then Some (LongText (name_of x) x.id) else None

-- A push at last t of these rows at a revision. All conflicts come before all rows that are gone.
unfoldable pub judged : List TableSchema → ℕ → (Key → Option ServerRow) → ℕ → Changes → Result ⊤ PushFault
judged schema now row t c = do
  past ← unless (nat_le t now) (Future now)
  known ← unless_one (unknown schema) c.tables
  once ← unless_one repeated c.tables
  agreed ← unless_one (conflict schema row t (standing schema c)) (records schema c)
  there ← unless_one (gone schema row t (standing schema c)) (records schema c)
  short ← unless_one (long schema row t (standing schema c)) (records schema c)
  Ok tt

-- The first refusal of a push at last t, or none where it is accepted. The limit of the store comes behind it.
abbrev pub verdict : Log → ℕ → Changes → Result ⊤ PushFault
verdict g t c = judged g.schema (revision g) (row_now g) t c

-- The log after a push at last t, where it is accepted.
abbrev pub grown : Log → ℕ → Changes → Result Log PushFault
grown g t c = verdict g t c >>= λ accepted. Ok (after_push g c)
