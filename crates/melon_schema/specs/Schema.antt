-- Which JSON is a schema, and which schema it is; for every other, its first fault.
use Rattle.std.specs.Prelude.{ℕ, List, [], ◌∷◌, ◌++◌, length, Bool, true, false, not, ◌&&◌, nat_le, Option, Some, None, is_none, is_some, Result, Ok, codes, bytes_eq, if◌then◌else◌}
use Rattle.std.specs.List.{list_all, list_any}
use Rattle.std.specs.Option.{option_map_or}
use Rattle.serde_json.specs.Data.{Data}
use Rattle.melon_schema.specs.Faults.{◌>>=◌, unless, or_fault, in_turn}
use Rattle.melon_schema.specs.Names.{is_name, is_reserved_column, is_reserved_table}
use Rattle.melon_schema.specs.Places.{table_named, declared_table}
use Rattle.melon_schema.specs.Seen.{SeenSchema}
use Rattle.melon_schema.specs.SchemaForm.{schema_form}
use Rattle.melon_schema.specs.declared.schema.Kind.{Kind}
use Rattle.melon_schema.specs.declared.schema.Kind.TheVariants.{Words, Whole, Truth}
use Rattle.melon_schema.specs.declared.schema.ColumnSchema.{ColumnSchema}
use Rattle.melon_schema.specs.declared.schema.TableSchema.{TableSchema}
use Rattle.melon_schema.specs.declared.schema.Association.{Association}
use Rattle.melon_schema.specs.declared.schema.Association.TheVariants.{BelongsTo, HasMany}
use Rattle.melon_schema.specs.declared.schema_form.ColumnForm.{ColumnForm}
use Rattle.melon_schema.specs.declared.schema_form.TableForm.{TableForm}
use Rattle.melon_schema.specs.declared.schema_form.SchemaForm.{SchemaForm}
use Rattle.melon_schema.specs.declared.schema_fault.SchemaFault.{SchemaFault}
use Rattle.melon_schema.specs.declared.schema_fault.SchemaFault.TheVariants.{Form, BadName, Reserved, Repeated, UnknownKind, NoAssociation, Limit, Memory}

-- the number under which a fault is told; want of memory is told by none
abbrev pub fault_number : SchemaFault → ℕ
fault_number Form = 1
fault_number BadName = 2
fault_number Reserved = 3
fault_number Repeated = 4
fault_number UnknownKind = 5
fault_number NoAssociation = 6
fault_number Limit = 7
fault_number Memory = 0

-- ---- limits

-- at most 64 tables, each of at most 64 columns
abbrev pub is_within_limits : SchemaForm → Bool
is_within_limits form = nat_le (length form.tables) 64 && list_all (λ t. nat_le (length t.columns) 64) form.tables

-- ---- columns

abbrev pub kind_named : List ℕ → Option Kind
kind_named word =
    if bytes_eq word (codes "string") then Some Words else
    (if bytes_eq word (codes "number") then Some Whole else
    (if bytes_eq word (codes "boolean") then Some Truth else None))

-- one column more, after the earlier ones of its table
unfoldable pub with_column : List ColumnSchema → ColumnForm → Result (List ColumnSchema) SchemaFault
with_column earlier form = do
  named ← unless (is_name form.name) BadName
  free ← unless (not (is_reserved_column form.name)) Reserved
  new ← unless (not (list_any (λ c. bytes_eq c.name form.name) earlier)) Repeated
  kind ← or_fault (kind_named form.word) UnknownKind
  Ok (earlier ++ record { name = form.name; kind = kind; optional = form.optional; indexed = form.indexed } ∷ [])

-- ---- tables

-- one table more, after the earlier ones
unfoldable pub with_table : SeenSchema → TableForm → Result SeenSchema SchemaFault
with_table earlier form = do
  named ← unless (is_name form.name) BadName
  free ← unless (not (is_reserved_table form.name)) Reserved
  new ← unless (is_none (table_named form.name earlier.tables)) Repeated
  columns ← in_turn with_column [] form.columns
  Ok (record { version = earlier.version; tables = earlier.tables ++ record { name = form.name; columns = columns; associations = form.associations } ∷ [] })

-- ---- associations

abbrev pub is_words : Kind → Bool
is_words Words = true
is_words Whole = false
is_words Truth = false

-- one of the columns has this name and keeps texts
abbrev pub has_text_column : List ℕ → List ColumnSchema → Bool
has_text_column name columns = list_any (λ c. bytes_eq c.name name && is_words c.kind) columns

-- the other table is declared, and the key is a text column: of the own table, or of the other
abbrev pub is_association : List TableSchema → TableSchema → Association → Bool
is_association tables own (BelongsTo table key) = is_some (declared_table table tables) && has_text_column key own.columns
is_association tables own (HasMany table key) = option_map_or (λ other. has_text_column key other.columns) (declared_table table tables) false

abbrev pub are_associations : List TableSchema → Bool
are_associations tables = list_all (λ own. list_all (is_association tables own) own.associations) tables

-- ---- the whole

unfoldable pub schema_of : Data → Result SeenSchema SchemaFault
schema_of d = do
  form ← or_fault (schema_form d) Form
  small ← unless (is_within_limits form) Limit
  schema ← in_turn with_table (record { version = form.version; tables = [] }) form.tables
  joined ← unless (are_associations schema.tables) NoAssociation
  Ok schema
