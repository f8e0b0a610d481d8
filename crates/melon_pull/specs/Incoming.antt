-- The change set of a pull, or the first refusal of what was pulled.
use Rattle.std.specs.Prelude.{ℕ, List, [], ◌∷◌, find, Bool, true, false, nat_lt, Option, Some, None, option_map, Result, Ok, Err, ⊤, bytes_eq, if◌then◌else◌}
use Rattle.std.specs.List.{filter_map}
use Rattle.std.specs.Option.{option_map_or}
use Rattle.melon_schema.specs.Faults.{◌>>=◌}
use Rattle.melon_schema.specs.declared.schema.ColumnSchema.{ColumnSchema}
use Rattle.melon_schema.specs.declared.schema.TableSchema.{TableSchema}
use Rattle.melon_raw.specs.declared.datum.OpField.{OpField}
use Rattle.melon_raw.specs.declared.raw.Raw.{Raw}
use Rattle.melon_raw.specs.Rows.{Key, Rows, at, table_at}
use Rattle.melon_change.specs.declared.change.Change.{Change}
use Rattle.melon_change.specs.Changes.{columns_at}
use Rattle.melon_change.specs.Batch.{is_long, change_to}
use Rattle.melon_wire.specs.declared.changes.Changes.{Changes}
use Rattle.melon_wire.specs.Keys.{times, ascending}
use Rattle.melon_raw.specs.Same.{is_same}
use Rattle.melon_wire.specs.Standing.{Standing, as_created, as_updated, as_deleted, in_no_list, standing, keys_listed}
use Rattle.melon_wire.specs.Fates.{fate_of}
use Rattle.melon_pull.specs.declared.fault.PullFault.{PullFault}
use Rattle.melon_pull.specs.declared.fault.PullFault.TheVariants.{Repeated, LongText}

-- the records of the declared tables that are listed, by declared table and ascending id
abbrev pub records : List TableSchema → Changes → List Key
records schema changes = ascending (keys_listed schema changes)

-- ---- changes

-- a record's change, where its row differs
abbrev pub difference : Key → Option Raw → Option Raw → Option Change
difference x before after = if is_same before after then None else Some (change_to x.table x.id before after)

abbrev pub change_made : List TableSchema → Rows → Changes → Key → Option Change
change_made schema rows changes x = difference x (at rows x) (fate_of schema rows changes x)

-- ---- refusals

abbrev pub table_name : List TableSchema → Key → List ℕ
table_name schema x = (table_at schema x.table).name

abbrev pub repeated : List TableSchema → Key → PullFault
repeated schema x = Repeated (table_name schema x) x.id

-- a record that stands in two places of its table's lists
abbrev pub if_repeated : List TableSchema → Changes → Key → Option PullFault
if_repeated schema changes x = if nat_lt 1 (times x (keys_listed schema changes)) then Some (repeated schema x) else None

abbrev pub fields_sent : Standing → List OpField
fields_sent (as_created fields) = fields
fields_sent (as_updated fields) = fields
fields_sent as_deleted = []
fields_sent in_no_list = []

abbrev pub declared_column : List ColumnSchema → List ℕ → Option ColumnSchema
declared_column columns name = find (λ column. bytes_eq column.name name) columns

-- a text of more than 65536 bytes for a declared column of texts
abbrev pub is_long_field : List ColumnSchema → OpField → Bool
is_long_field columns field = option_map_or (λ column. is_long column.kind field.value) (declared_column columns field.column) false

abbrev pub long_text : List TableSchema → Key → OpField → PullFault
long_text schema x field = LongText (table_name schema x) x.id field.column

-- a record with such a field, whether or not the field would be taken
abbrev pub if_long : List TableSchema → Key → Standing → Option PullFault
if_long schema x how = option_map (long_text schema x) (find (is_long_field (columns_at schema x.table)) (fields_sent how))

-- the first of the refusals, if there is one
abbrev pub unless_any : List PullFault → Result ⊤ PullFault
unless_any [] = Ok tt
unless_any (fault ∷ faults) = Err fault

-- ---- the whole

-- The change set of a changes object: of each record that is listed its change, where its row differs. It is refused for
-- the first record that is repeated, else for the first long text.
unfoldable pub incoming_of : List TableSchema → Rows → Changes → Result (List Change) PullFault
incoming_of schema rows changes = do
  once ← unless_any (filter_map (if_repeated schema changes) (records schema changes))
  short ← unless_any (filter_map (λ x. if_long schema x (standing schema changes x)) (records schema changes))
  Ok (filter_map (change_made schema rows changes) (records schema changes))
