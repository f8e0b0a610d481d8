-- What is sent of a fetch.
use Rattle.std.specs.Prelude.{ℕ, ◌==◌, List, [], ◌∷◌, length, map, filter, Bool, not, ◌&&◌, if◌then◌else◌}
use Rattle.std.specs.List.{list_any, range_with_len}
use Rattle.melon_schema.specs.declared.schema.ColumnSchema.{ColumnSchema}
use Rattle.melon_schema.specs.declared.schema.TableSchema.{TableSchema}
use Rattle.melon_raw.specs.declared.datum.OpField.{OpField}
use Rattle.melon_raw.specs.declared.raw.Raw.{Raw}
use Rattle.melon_raw.specs.Order.{is_below}
use Rattle.melon_raw.specs.Rows.{cell, column_at, table_at}
use Rattle.melon_wire.specs.declared.changes.Remote.{Remote}
use Rattle.melon_wire.specs.declared.changes.TableChanges.{TableChanges}
use Rattle.melon_wire.specs.declared.changes.Changes.{Changes}
use Rattle.melon_wire.specs.declared.fetch.Held.{Held}
use Rattle.melon_wire.specs.declared.fetch.Gone.{Gone}
use Rattle.melon_wire.specs.declared.fetch.Fetch.{Fetch}
use Rattle.melon_wire.specs.Collected.{is_empty}

-- ---- in the order of names

abbrev pub put_by_name : {X : Type 0} → (X → List ℕ) → X → List X → List X
put_by_name name x [] = x ∷ []
put_by_name name x (y ∷ ys) = if is_below (name y) (name x) then y ∷ put_by_name name x ys else x ∷ y ∷ ys

-- ascending by their names
abbrev pub by_name : {X : Type 0} → (X → List ℕ) → List X → List X
by_name name [] = []
by_name name (x ∷ xs) = put_by_name name x (by_name name xs)

-- ---- one row

abbrev pub field_of : List ColumnSchema → Raw → ℕ → OpField
field_of columns row c = record { column = (column_at columns c).name; value = cell row c }

-- the cell of each column, ascending by the columns' names
abbrev pub fields_of : List ColumnSchema → Raw → List OpField
fields_of columns row = by_name (λ f. f.column) (map (field_of columns row) (range_with_len 0 (length columns)))

-- the id and all cells, without status and marks
abbrev pub remote_of : List ColumnSchema → Raw → Remote
remote_of columns row = record { id = row.id; fields = fields_of columns row }

-- ---- one table

abbrev pub rows_sent : List TableSchema → ℕ → List Held → List Remote
rows_sent schema i held = map (λ h. remote_of (table_at schema i).columns h.row) (filter (λ h. h.table == i) held)

abbrev pub ids_sent : ℕ → List Gone → List (List ℕ)
ids_sent i gone = map (λ g. g.id) (filter (λ g. g.table == i) gone)

abbrev pub sent_at : List TableSchema → Fetch → ℕ → TableChanges
sent_at schema f i = record { table = (table_at schema i).name; created = rows_sent schema i f.created; updated = rows_sent schema i f.updated; deleted = ids_sent i f.deleted }

abbrev pub has_something : TableChanges → Bool
has_something t = not (is_empty t.created && (is_empty t.updated && is_empty t.deleted))

-- ---- all tables

-- The tables of which something is sent, ascending by name.
unfoldable pub sent_of : List TableSchema → Fetch → Changes
sent_of schema f = record { tables = by_name (λ t. t.table) (filter has_something (map (sent_at schema f) (range_with_len 0 (length schema)))) }

abbrev pub names_something : Changes → Bool
names_something changes = list_any has_something changes.tables
