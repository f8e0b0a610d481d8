-- In which list of a changes object a record stands.
use Rattle.std.specs.Prelude.{◌≡◌, ℕ, List, [], ◌++◌, length, map, find, slice_get, Bool, true, false, Option, Some, None, unwrap_or, bytes_eq}
use Rattle.std.specs.List.{list_any, list_all, flat_map, range_with_len}
use Rattle.melon_schema.specs.Names.{is_id}
use Rattle.melon_schema.specs.declared.schema.TableSchema.{TableSchema}
use Rattle.melon_raw.specs.declared.datum.OpField.{OpField}
use Rattle.melon_raw.specs.Rows.{Key, table_at}
use Rattle.melon_wire.specs.declared.changes.Remote.{Remote}
use Rattle.melon_wire.specs.declared.changes.TableChanges.{TableChanges}
use Rattle.melon_wire.specs.declared.changes.Changes.{Changes}
use Rattle.melon_wire.specs.Keys.{key_at}

-- as created or as updated, with the fields that are sent; as deleted; or nowhere
pub data Standing : Type 0 where
  as_created : List OpField → Standing
  as_updated : List OpField → Standing
  as_deleted : Standing
  in_no_list : Standing

-- ---- one table

abbrev pub no_changes : List ℕ → TableChanges
no_changes name = record { table = name; created = []; updated = []; deleted = [] }

-- what is told of the table of that name; nothing where it isn't named
abbrev pub changes_for : Changes → List ℕ → TableChanges
changes_for changes name = unwrap_or (find (λ t. bytes_eq t.table name) changes.tables) (no_changes name)

abbrev pub sent_in : List Remote → List ℕ → Option Remote
sent_in rows id = find (λ r. bytes_eq id r.id) rows

abbrev pub is_listed : List (List ℕ) → List ℕ → Bool
is_listed ids id = list_any (λ i. bytes_eq id i) ids

-- of a record that stands in several lists the first counts
abbrev pub stands : Option Remote → Option Remote → Bool → Standing
stands (Some row) updated deleted = as_created row.fields
stands None (Some row) deleted = as_updated row.fields
stands None None true = as_deleted
stands None None false = in_no_list

abbrev pub standing_in : TableChanges → List ℕ → Standing
standing_in t id = stands (sent_in t.created id) (sent_in t.updated id) (is_listed t.deleted id)

-- ---- all tables

-- a table that the schema lacks is passed over
abbrev pub standing_for : Changes → Option TableSchema → List ℕ → Standing
standing_for changes None id = in_no_list
standing_for changes (Some table) id = standing_in (changes_for changes table.name) id

unfoldable pub standing : List TableSchema → Changes → Key → Standing
standing schema changes x = standing_for changes (slice_get schema x.table) x.id

-- ---- the records that are listed

-- the ids of a table's three lists
abbrev pub ids_listed : TableChanges → List (List ℕ)
ids_listed t = map (λ r. r.id) t.created ++ (map (λ r. r.id) t.updated ++ t.deleted)

abbrev pub keys_at : List TableSchema → Changes → ℕ → List Key
keys_at schema changes i = map (key_at i) (ids_listed (changes_for changes (table_at schema i).name))

-- the records of the declared tables that a changes object lists, a repeated one as often as it is listed
abbrev pub keys_listed : List TableSchema → Changes → List Key
keys_listed schema changes = flat_map (keys_at schema changes) (range_with_len 0 (length schema))

-- each id that is listed is one
abbrev pub has_ids : Changes → Bool
has_ids changes = list_all (λ t. list_all is_id (ids_listed t)) changes.tables
