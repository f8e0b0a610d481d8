-- The server's log, and its rows by looking back over the accepted pushes.
use Rattle.std.specs.Prelude.{ℕ, ◌+◌, nat_le, min, max, List, [], ◌∷◌, ◌++◌, length, get_or, map, Bool, true, false, ◌||◌, Option, Some, None, option_map, unwrap_or, is_some, if◌then◌else◌}
use Rattle.std.specs.List.{filter_map, flat_map, range_with_len}
use Rattle.std.specs.Option.{option_or}
use Rattle.melon_schema.specs.declared.schema.ColumnSchema.{ColumnSchema}
use Rattle.melon_schema.specs.declared.schema.TableSchema.{TableSchema}
use Rattle.melon_raw.specs.declared.datum.Datum.{Datum}
use Rattle.melon_raw.specs.declared.datum.Datum.TheVariants.{Null}
use Rattle.melon_raw.specs.declared.datum.OpField.{OpField}
use Rattle.melon_raw.specs.Datum.{fit}
use Rattle.melon_raw.specs.Rows.{Key, column_at, table_at}
use Rattle.melon_wire.specs.declared.changes.Changes.{Changes}
use Rattle.melon_wire.specs.Keys.{key_at, ascending}
use Rattle.melon_wire.specs.Resolution.{value_in}
use Rattle.melon_wire.specs.Sent.{names_something}
use Rattle.melon_wire.specs.Standing.{Standing, as_created, as_updated, as_deleted, in_no_list, standing, keys_at}
use Rattle.melon_log.specs.declared.server_row.ServerRow.{ServerRow}
use Rattle.melon_log.specs.ServerRows.{ServerRows, is_live, is_touched, at}

-- The rows at the opening, of each declared table ascending by id, the revision then, and the accepted pushes that name
-- something, the last one first.
pub record Log : Type 0 where
  pub schema : List TableSchema
  pub opening : ServerRows
  pub first : ℕ
  pub pushes : List Changes

-- ---- revisions

-- the revision after n pushes: one more with each, but never more than the greater of 9007199254740991 and the first
abbrev pub revision_after : ℕ → ℕ → ℕ
revision_after first n = min (first + n) (max 9007199254740991 first)

abbrev pub revision : Log → ℕ
revision g = revision_after g.first (length g.pushes)

-- the pushes of revisions up to r
abbrev pub pushes_to : ℕ → ℕ → List Changes → List Changes
pushes_to first r [] = []
pushes_to first r (c ∷ cs) = if nat_le (revision_after first (length (c ∷ cs))) r then c ∷ cs else pushes_to first r cs

-- the log as it was at a revision
abbrev pub as_it_was : Log → ℕ → Log
as_it_was g r = record { schema = g.schema; opening = g.opening; first = g.first; pushes = pushes_to g.first r g.pushes }

-- the log after one push more
abbrev pub pushed : Log → Changes → Log
pushed g c = record { schema = g.schema; opening = g.opening; first = g.first; pushes = c ∷ g.pushes }

-- the log after an accepted push, which grows by one that names something
abbrev pub after_push : Log → Changes → Log
after_push g c = if names_something c then pushed g c else g

-- ---- what the pushes say of one record, the last one first

pub record Said : Type 0 where
  pub revision : ℕ
  pub how : Standing

abbrev pub said : List TableSchema → ℕ → Key → List Changes → List Said
said schema first x [] = []
said schema first x (c ∷ cs) = record { revision = revision_after first (length (c ∷ cs)); how = standing schema c x } ∷ said schema first x cs

abbrev pub fields_sent : Standing → Option (List OpField)
fields_sent (as_created fields) = Some fields
fields_sent (as_updated fields) = Some fields
fields_sent as_deleted = None
fields_sent in_no_list = None

-- the push sends the record's row
abbrev pub sends : Standing → Bool
sends how = is_some (fields_sent how)

-- the push lists the record as deleted
abbrev pub deletes : Standing → Bool
deletes as_deleted = true
deletes (as_created fields) = false
deletes (as_updated fields) = false
deletes in_no_list = false

-- the last push that sends the record, with the later ones and the earlier ones
pub record Sending : Type 0 where
  pub later : List Said
  pub push : Said
  pub earlier : List Said

abbrev pub with_later : Said → Sending → Sending
with_later s found = record { later = s ∷ found.later; push = found.push; earlier = found.earlier }

abbrev pub last_sending : List Said → Option Sending
last_sending [] = None
last_sending (s ∷ ss) = if sends s.how then Some (record { later = []; push = s; earlier = ss }) else option_map (with_later s) (last_sending ss)

-- the revision of the first of these, in order of time, that passes
abbrev pub earliest : (Standing → Bool) → List Said → Option ℕ
earliest passes [] = None
earliest passes (s ∷ ss) = option_or (earliest passes ss) (if passes s.how then Some s.revision else None)

-- those after the last that lists the record as deleted
abbrev pub since_deletion : List Said → List Said
since_deletion [] = []
since_deletion (s ∷ ss) = if deletes s.how then [] else s ∷ since_deletion ss

abbrev pub has_deletion : List Said → Bool
has_deletion [] = false
has_deletion (s ∷ ss) = deletes s.how || has_deletion ss

abbrev pub value_sent : List ℕ → Option (List OpField) → Option Datum
value_sent name None = None
value_sent name (Some fields) = value_in fields name

-- the value in the last of them that sends one
abbrev pub last_value : List ℕ → List Said → Option Datum
last_value name [] = None
last_value name (s ∷ ss) = option_or (value_sent name (fields_sent s.how)) (last_value name ss)

-- ---- the row of a record

abbrev pub live_of : Option ServerRow → Option ServerRow
live_of None = None
live_of (Some row) = if is_live row then Some row else None

-- a life: its opening row, where it begins with that, and its pushes
pub record Life : Type 0 where
  pub begin : Option ServerRow
  pub pushes : List Said

-- It begins after the last deletion before that push; without one with the opening row where that is live, else at the
-- front of the list.
abbrev pub life_of : Option ServerRow → Said → List Said → Life
life_of opening push earlier = record { begin = if has_deletion earlier then None else live_of opening; pushes = push ∷ since_deletion earlier }

-- of the opening row where the life begins with it, else of the life's first push that sends the record
abbrev pub created_in : Life → Option ServerRow → ℕ
created_in life (Some row) = row.created
created_in life None = unwrap_or (earliest sends life.pushes) 0

abbrev pub cell_before : ColumnSchema → ℕ → Option ServerRow → Datum
cell_before column c (Some row) = get_or row.cells c Null
cell_before column c None = fit column Null

abbrev pub cell_with : ColumnSchema → ℕ → Option ServerRow → Option Datum → Datum
cell_with column c begin None = cell_before column c begin
cell_with column c begin (Some value) = fit column value

-- what the column keeps of the last value that a push of the life sends; else the opening row's cell where the life
-- begins with that; else what it keeps of null
abbrev pub cell_in : List ColumnSchema → Life → ℕ → Datum
cell_in columns life c = cell_with (column_at columns c) c life.begin (last_value (column_at columns c).name life.pushes)

abbrev pub row_sent : List ColumnSchema → List ℕ → Option ServerRow → Sending → ServerRow
row_sent columns id opening found =
    let life = life_of opening found.push found.earlier in
    let deleted = earliest deletes found.later in
    record { id = id; created = created_in life life.begin; changed = found.push.revision; deleted = deleted; cells = if is_some deleted then [] else map (cell_in columns life) (range_with_len 0 (length columns)) }

-- without a push that sends the record: the opening row, deleted where it was, or where a push lists it so
abbrev pub deleted_since : ServerRow → Option ℕ → ServerRow
deleted_since row deletion = record { id = row.id; created = row.created; changed = row.changed; deleted = option_or row.deleted deletion; cells = if is_some (option_or row.deleted deletion) then [] else row.cells }

abbrev pub row_unsent : Option ServerRow → List Said → Option ServerRow
row_unsent None ss = None
row_unsent (Some row) ss = Some (deleted_since row (earliest deletes ss))

abbrev pub row_found : List ColumnSchema → List ℕ → Option ServerRow → List Said → Option Sending → Option ServerRow
row_found columns id opening ss (Some found) = Some (row_sent columns id opening found)
row_found columns id opening ss None = row_unsent opening ss

unfoldable pub row_after : List ColumnSchema → List ℕ → Option ServerRow → List Said → Option ServerRow
row_after columns id opening ss = row_found columns id opening ss (last_sending ss)

abbrev pub columns_at : List TableSchema → ℕ → List ColumnSchema
columns_at schema i = (table_at schema i).columns

-- The row of a record now.
abbrev pub row_now : Log → Key → Option ServerRow
row_now g x = row_after (columns_at g.schema x.table) x.id (at g.opening x) (said g.schema g.first x g.pushes)

-- The row of a record over the pushes of revisions up to r.
abbrev pub row_at : Log → Key → ℕ → Option ServerRow
row_at g x r = row_now (as_it_was g r) x

-- one of the revisions of a record's row now is above t
abbrev pub touched_in : ℕ → Option ServerRow → Bool
touched_in t None = false
touched_in t (Some row) = is_touched t row

abbrev pub touched : Log → Key → ℕ → Bool
touched g x t = touched_in t (row_now g x)

-- ---- all rows

-- the records of a table that have a row at the opening, or that a push lists
abbrev pub keys_known : Log → ℕ → List Key
keys_known g i = map (λ row. key_at i row.id) (get_or g.opening i []) ++ flat_map (λ c. keys_at g.schema c i) g.pushes

-- the rows of a table now, ascending by id
abbrev pub table_rows : Log → ℕ → List ServerRow
table_rows g i = filter_map (row_now g) (ascending (keys_known g i))

-- The rows now, of each declared table ascending by id.
unfoldable pub server_rows : Log → ServerRows
server_rows g = map (table_rows g) (range_with_len 0 (length g.schema))
