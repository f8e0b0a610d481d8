-- The form of a schema: which JSON is written as one, before any name in it is judged.
use Rattle.std.specs.Prelude.{ℕ, List, [], ◌∷◌, Bool, ◌&&◌, nat_le, Option, Some, None, codes, bytes_eq, if◌then◌else◌}
use Rattle.serde_json.specs.Data.{Data}
use Rattle.serde_json.specs.Find.{get, as_number, as_u64}
use Rattle.melon_schema.specs.Json.{◌>>=◌, given, has_only, text_at, flag_at, list_at, members_at}
use Rattle.melon_schema.specs.declared.schema.Association.{Association}
use Rattle.melon_schema.specs.declared.schema.Association.TheVariants.{BelongsTo, HasMany}
use Rattle.melon_schema.specs.declared.schema_form.ColumnForm.{ColumnForm}
use Rattle.melon_schema.specs.declared.schema_form.TableForm.{TableForm}
use Rattle.melon_schema.specs.declared.schema_form.SchemaForm.{SchemaForm}

-- {"name": text, "type": text, "isOptional": truth, "isIndexed": truth}, the flags false where they are missing
unfoldable pub column_form : Data → Option ColumnForm
column_form d = do
  known ← given (has_only (codes "name" ∷ codes "type" ∷ codes "isOptional" ∷ codes "isIndexed" ∷ []) d)
  name ← text_at (codes "name") d
  word ← text_at (codes "type") d
  optional ← flag_at (codes "isOptional") d
  indexed ← flag_at (codes "isIndexed") d
  Some (record { name = name; word = word; optional = optional; indexed = indexed })

-- {"type": "belongs_to", "key": column}, under the other table's name
unfoldable pub belongs_to : List ℕ → Data → Option Association
belongs_to table d = do
  known ← given (has_only (codes "type" ∷ codes "key" ∷ []) d)
  key ← text_at (codes "key") d
  Some (BelongsTo table key)

-- {"type": "has_many", "foreignKey": column}, under the other table's name
unfoldable pub has_many : List ℕ → Data → Option Association
has_many table d = do
  known ← given (has_only (codes "type" ∷ codes "foreignKey" ∷ []) d)
  key ← text_at (codes "foreignKey") d
  Some (HasMany table key)

unfoldable pub association_form : List ℕ → Data → Option Association
association_form table d = do
  word ← text_at (codes "type") d
  if bytes_eq word (codes "belongs_to") then belongs_to table d else
      (if bytes_eq word (codes "has_many") then has_many table d else None)

-- {"name": text, "columns": [columns], "associations": {table: association}}, without associations where they are missing
unfoldable pub table_form : Data → Option TableForm
table_form d = do
  known ← given (has_only (codes "name" ∷ codes "columns" ∷ codes "associations" ∷ []) d)
  name ← text_at (codes "name") d
  columns ← list_at column_form (codes "columns") d
  associations ← members_at association_form (codes "associations") d
  Some (record { name = name; columns = columns; associations = associations })

abbrev pub is_version : ℕ → Bool
is_version n = nat_le 1 n && nat_le n 9007199254740991

abbrev pub as_version : ℕ → Option ℕ
as_version n = if is_version n then Some n else None

-- a whole number from 1 to 9007199254740991 under a key
abbrev pub version_at : List ℕ → Data → Option ℕ
version_at key d = get key d >>= λ v. as_number v >>= λ n. as_u64 n >>= as_version

-- {"version": number, "tables": [tables]}
unfoldable pub schema_form : Data → Option SchemaForm
schema_form d = do
  known ← given (has_only (codes "version" ∷ codes "tables" ∷ []) d)
  version ← version_at (codes "version") d
  tables ← list_at table_form (codes "tables") d
  Some (record { version = version; tables = tables })
