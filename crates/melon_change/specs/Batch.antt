-- The first broken rule of a batch, or its change set: operation by operation on the rows before the batch.
use Rattle.std.specs.Prelude.{◌≡◌, ℕ, ◌+◌, List, [], ◌∷◌, ◌++◌, length, map, filter, fold, Bool, true, false, not, Option, Some, None, option_map, is_some, is_none, Result, Ok, Err, nat_lt, if◌then◌else◌}
use Rattle.std.specs.List.{filter_map}
use Rattle.melon_schema.specs.Faults.{◌>>=◌, or_fault, unless}
use Rattle.melon_schema.specs.Names.{is_id}
use Rattle.melon_schema.specs.Places.{table_named, column_named}
use Rattle.melon_schema.specs.declared.schema.Kind.{Kind}
use Rattle.melon_schema.specs.declared.schema.Kind.TheVariants as kinds
use Rattle.melon_schema.specs.declared.schema.ColumnSchema.{ColumnSchema}
use Rattle.melon_schema.specs.declared.schema.TableSchema.{TableSchema}
use Rattle.melon_raw.specs.declared.datum.Datum.{Datum}
use Rattle.melon_raw.specs.declared.datum.Datum.TheVariants.{Null, Words, Whole, Truth}
use Rattle.melon_raw.specs.declared.datum.OpField.{OpField}
use Rattle.melon_raw.specs.declared.raw.Raw.{Raw}
use Rattle.melon_raw.specs.Order.{is_below}
use Rattle.melon_raw.specs.Rows.{Key, Rows, at, is_visible, column_at}
use Rattle.melon_raw.specs.Edits.{row_created, row_deleted}
use Rattle.melon_change.specs.declared.op.Op.{Op}
use Rattle.melon_change.specs.declared.op.Op.TheVariants.{Create, Update, MarkDeleted, Destroy}
use Rattle.melon_change.specs.declared.rule.Rule.{Rule}
use Rattle.melon_change.specs.declared.rule.Rule.TheVariants.{UnknownTable, UnknownColumn, BadId, Twice, Taken, NoRow, LongText}
use Rattle.melon_change.specs.declared.rule.BatchFault.{BatchFault}
use Rattle.melon_change.specs.declared.rule.BatchFault.TheVariants as faults
use Rattle.melon_change.specs.declared.change.Change.{Change}
use Rattle.melon_change.specs.Changes.{key, is_among, columns_at}
use Rattle.melon_change.specs.Edited.{row_updated, name_at}
use Rattle.melon_change.specs.Rules.{unless_column, told_as}

-- ---- names

-- the first of two names
abbrev pub first_name : Option (List ℕ) → List ℕ → Option (List ℕ)
first_name None name = Some name
first_name (Some best) name = if is_below name best then Some name else Some best

-- the first by name, if there is one
abbrev pub least_name : List (List ℕ) → Option (List ℕ)
least_name names = fold first_name None names

-- ---- the given values, by the places of their columns

abbrev pub at_place : OpField → ℕ → ℕ × Datum
at_place field c = (c, field.value)

abbrev pub placed : List ColumnSchema → OpField → Option (ℕ × Datum)
placed columns field = option_map (at_place field) (column_named field.column columns)

abbrev pub unknown_name : List ColumnSchema → OpField → Option (List ℕ)
unknown_name columns field = if is_some (column_named field.column columns) then None else Some field.column

-- the first unknown column by name breaks the rule
abbrev pub fields_of : List ColumnSchema → List OpField → Result (List (ℕ × Datum)) Rule
fields_of columns set = do
  known ← unless_column (least_name (filter_map (unknown_name columns) set)) UnknownColumn
  Ok (filter_map (placed columns) set)

-- ---- long texts

-- a text of more than 65536 bytes in a column of texts
abbrev pub is_long : Kind → Datum → Bool
is_long kinds.Words (Words text) = nat_lt 65536 (length text)
is_long kinds.Words other = false
is_long kinds.Whole value = false
is_long kinds.Truth value = false

abbrev pub is_long_field : List ColumnSchema → ℕ × Datum → Bool
is_long_field columns field = is_long (column_at columns field.0).kind field.1

-- the first column by name that is given such a text
abbrev pub long_column : List ColumnSchema → List (ℕ × Datum) → Option (List ℕ)
long_column columns fields = least_name (map (λ field. name_at columns field.0) (filter (is_long_field columns) fields))

-- ---- one operation

-- the id, where it is one, and where no operation before changes the record
abbrev pub record_at : (Key → Bool) → ℕ → List ℕ → Result (List ℕ) Rule
record_at earlier table id = do
  good ← unless (is_id id) BadId
  first ← unless (not (earlier (key table id))) Twice
  Ok id

abbrev pub visible : Option Raw → Option Raw
visible None = None
visible (Some row) = if is_visible row.status then Some row else None

abbrev pub change_to : ℕ → List ℕ → Option Raw → Option Raw → Change
change_to table id before after = record { table = table; id = id; before = before; after = after }

module _ (schema : List TableSchema) (rows : Rows) (earlier : Key → Bool) where
  unfoldable pub created_by : List ℕ → List ℕ → List OpField → Result Change Rule
  created_by name id set = do
    table ← or_fault (table_named name schema) UnknownTable
    fields ← fields_of (columns_at schema table) set
    id' ← record_at earlier table id
    free ← unless (is_none (at rows (key table id'))) Taken
    short ← unless_column (long_column (columns_at schema table) fields) LongText
    Ok (change_to table id' None (Some (row_created (columns_at schema table) id' fields)))

  unfoldable pub updated_by : List ℕ → List ℕ → List OpField → Result Change Rule
  updated_by name id set = do
    table ← or_fault (table_named name schema) UnknownTable
    fields ← fields_of (columns_at schema table) set
    id' ← record_at earlier table id
    row ← or_fault (visible (at rows (key table id'))) NoRow
    short ← unless_column (long_column (columns_at schema table) fields) LongText
    Ok (change_to table id' (Some row) (Some (row_updated (columns_at schema table) fields row)))

  unfoldable pub deleted_by : List ℕ → List ℕ → Result Change Rule
  deleted_by name id = do
    table ← or_fault (table_named name schema) UnknownTable
    id' ← record_at earlier table id
    row ← or_fault (visible (at rows (key table id'))) NoRow
    Ok (change_to table id' (Some row) (Some (row_deleted row)))

  unfoldable pub destroyed_by : List ℕ → List ℕ → Result Change Rule
  destroyed_by name id = do
    table ← or_fault (table_named name schema) UnknownTable
    id' ← record_at earlier table id
    row ← or_fault (at rows (key table id')) NoRow
    Ok (change_to table id' (Some row) None)

  -- the change of one operation, or the first rule that it breaks
  abbrev pub change_by : Op → Result Change Rule
  change_by (Create name id set) = created_by name id set
  change_by (Update name id set) = updated_by name id set
  change_by (MarkDeleted name id) = deleted_by name id
  change_by (Destroy name id) = destroyed_by name id

-- ---- the batch

-- the changes of operations, behind those that were made before them in the batch
abbrev pub changes_behind : List TableSchema → Rows → List Change → List Op → Result (List Change) BatchFault
changes_behind schema rows made [] = Ok []
changes_behind schema rows made (op ∷ ops) =
    told_as (length made + 1) op (change_by schema rows (is_among made) op)
    >>= λ change. changes_behind schema rows (made ++ change ∷ []) ops >>= λ changes. Ok (change ∷ changes)

-- The change set of a batch, or the fault of the first operation that breaks a rule.
unfoldable pub batch_of : List TableSchema → Rows → List Op → Result (List Change) BatchFault
batch_of schema rows ops = if nat_lt 100000 (length ops) then Err (faults.TooMany (length ops)) else changes_behind schema rows [] ops
