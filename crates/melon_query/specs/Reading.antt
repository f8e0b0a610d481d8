-- Which JSON is a query over a table of a schema, and which query it is; for every other, its first fault.
use Rattle.std.specs.Prelude.{ℕ, ◌==◌, List, [], ◌∷◌, position, find, Bool, true, false, not, ◌&&◌, ◌||◌, Option, Some, None, is_some, is_none, option_map, option_and_then, unwrap_or, Result, Ok, Err, ⊤, codes, bytes_eq, if◌then◌else◌}
use Rattle.std.specs.List.{list_all, list_any}
use Rattle.serde_json.specs.Data.{Data}
use Rattle.melon_schema.specs.Faults.{◌>>=◌, unless, or_fault, each_read}
use Rattle.melon_schema.specs.Places.{table_named, column_named, declared_table}
use Rattle.melon_schema.specs.Schema.{is_words}
use Rattle.melon_schema.specs.declared.schema.Kind.{Kind}
use Rattle.melon_schema.specs.declared.schema.Kind.TheVariants as kinds
use Rattle.melon_schema.specs.declared.schema.ColumnSchema.{ColumnSchema}
use Rattle.melon_schema.specs.declared.schema.TableSchema.{TableSchema}
use Rattle.melon_schema.specs.declared.schema.Association.{Association}
use Rattle.melon_schema.specs.declared.schema.Association.TheVariants.{BelongsTo, HasMany}
use Rattle.melon_raw.specs.declared.datum.Datum.{Datum}
use Rattle.melon_raw.specs.declared.datum.Datum.TheVariants.{Null, Words, Whole, Truth}
use Rattle.melon_query.specs.declared.query.Col.{Col}
use Rattle.melon_query.specs.declared.query.Col.TheVariants.{Id, Cell}
use Rattle.melon_query.specs.declared.query.CompareOp.{CompareOp}
use Rattle.melon_query.specs.declared.query.CompareOp.TheVariants as op
use Rattle.melon_query.specs.declared.query.Right.{Right}
use Rattle.melon_query.specs.declared.query.Right.TheVariants as right
use Rattle.melon_query.specs.declared.query.Compare.{Compare}
use Rattle.melon_query.specs.declared.query.Join.{Join}
use Rattle.melon_query.specs.declared.query.Join.TheVariants.{OwnKey, TheirKey}
use Rattle.melon_query.specs.declared.query.Cond.{Cond}
use Rattle.melon_query.specs.declared.query.Cond.TheVariants as cond
use Rattle.melon_query.specs.declared.query.SortKey.{SortKey}
use Rattle.melon_query.specs.declared.query.Query.{Query}
use Rattle.melon_query.specs.declared.query_fault.QueryFault.{QueryFault}
use Rattle.melon_query.specs.declared.query_fault.QueryFault.TheVariants.{Form, UnknownTable, UnknownColumn, WrongKind, NullInList, NoAssociation, UndeclaredJoin, SkipWithoutTake, Limit}
use Rattle.melon_query.specs.declared.cond_form.RightForm.{RightForm}
use Rattle.melon_query.specs.declared.cond_form.RightForm.TheVariants.{One, Many, Other}
use Rattle.melon_query.specs.declared.cond_form.CompareForm.{CompareForm}
use Rattle.melon_query.specs.declared.cond_form.CondForm.{CondForm, fold-CondForm}
use Rattle.melon_query.specs.declared.cond_form.CondForm.TheOpen.{CondForm-F}
use Rattle.melon_query.specs.declared.query_form.SortForm.{SortForm}
use Rattle.melon_query.specs.declared.query_form.QueryForm.{QueryForm}
use Rattle.melon_query.specs.declared.resolve.Reach.{Reach}
use Rattle.melon_query.specs.declared.resolve.Reach.TheVariants.{Top, Below, Within}
use Rattle.melon_query.specs.QueryForm.{query_form}
use Rattle.melon_query.specs.Limits.{is_within_limits}
use Rattle.melon_query.specs.Kinds.{kind_of, takes_kind, takes_right, lists_null}

-- ---- comparisons

-- a declared column, or the id
abbrev pub col_named : List ℕ → List ColumnSchema → Option Col
col_named name columns = if bytes_eq name (codes "id") then Some Id else option_map Cell (column_named name columns)

abbrev pub right_in : List ColumnSchema → RightForm → Result Right QueryFault
right_in columns (One value) = Ok (right.One value)
right_in columns (Many values) = Ok (right.Many values)
right_in columns (Other name) = or_fault (option_map right.Other (col_named name columns)) UnknownColumn

unfoldable pub compare_in : List ColumnSchema → CompareForm → Result Compare QueryFault
compare_in columns form = do
  column ← or_fault (col_named form.column columns) UnknownColumn
  side ← right_in columns form.right
  fitting ← unless (takes_kind form.op (kind_of column columns) && takes_right form.op (kind_of column columns) columns side) WrongKind
  full ← unless (not (lists_null side)) NullInList
  Ok (record { column = column; op = form.op; right = side })

-- ---- associations

-- the first text column of that name
abbrev pub key_named : List ℕ → List ColumnSchema → Option ℕ
key_named name columns = position (λ c. bytes_eq c.name name && is_words c.kind) columns

abbrev pub other_table : Association → List ℕ
other_table (BelongsTo table key) = table
other_table (HasMany table key) = table

abbrev pub association_with : List ℕ → List Association → Option Association
association_with name associations = find (λ a. bytes_eq (other_table a) name) associations

abbrev pub joined_by : TableSchema → TableSchema → Association → Option Join
joined_by own other (BelongsTo table key) = option_map OwnKey (key_named key own.columns)
joined_by own other (HasMany table key) = option_map TheirKey (key_named key other.columns)

-- how a table is associated with another, which has that name
abbrev pub join_with : TableSchema → TableSchema → List ℕ → Option Join
join_with own other name = option_and_then (joined_by own other) (association_with name own.associations)

-- ---- conditions

-- what the names in the conditions of a query speak of
pub record Names : Type 0 where
  pub tables : List TableSchema
  pub main : TableSchema
  pub joins : List (List ℕ)

abbrev pub is_within : Reach → Bool
is_within Top = false
is_within Below = false
is_within Within = true

-- below `and` or `or` an `on` stands only where `joins` has its table
abbrev pub may_stand : Reach → List ℕ → List (List ℕ) → Bool
may_stand Top table joins = true
may_stand Below table joins = list_any (λ j. bytes_eq j table) joins
may_stand Within table joins = false

-- what the parts of an `and` or an `or` are below
abbrev pub part_of : Reach → Reach
part_of Top = Below
part_of Below = Below
part_of Within = Within

-- an `on`, whose parts over the joined table's columns are read by `parts`
unfoldable pub on_by : Names → List ℕ → Reach → (List ColumnSchema → Result (List Cond) QueryFault) → Result Cond QueryFault
on_by names table reach parts = do
  outer ← unless (not (is_within reach)) Form
  place ← or_fault (table_named table names.tables) UnknownTable
  other ← or_fault (declared_table table names.tables) UnknownTable
  join ← or_fault (join_with names.main other table) NoAssociation
  declared ← unless (may_stand reach table names.joins) UndeclaredJoin
  conds ← parts other.columns
  Ok (cond.On place join conds)

abbrev pub compared : List ColumnSchema → CompareForm → Result Cond QueryFault
compared columns by = compare_in columns by >>= λ c. Ok (cond.Compare c)

abbrev pub all_of : Result (List Cond) QueryFault → Result Cond QueryFault
all_of parts = parts >>= λ cs. Ok (cond.All cs)

abbrev pub any_of : Result (List Cond) QueryFault → Result Cond QueryFault
any_of parts = parts >>= λ cs. Ok (cond.Any cs)

-- the conditions over these columns, read one after another
abbrev pub parts_read : List (List ColumnSchema → Reach → Result Cond QueryFault) → List ColumnSchema → Reach → Result (List Cond) QueryFault
parts_read parts columns reach = each_read (λ part. part columns reach) parts

abbrev pub cond_step : Names → CondForm-F (List ColumnSchema → Reach → Result Cond QueryFault) → List ColumnSchema → Reach → Result Cond QueryFault
cond_step names (CondForm-F.Compare by) columns reach = compared columns by
cond_step names (CondForm-F.All parts) columns reach = all_of (parts_read parts columns (part_of reach))
cond_step names (CondForm-F.Any parts) columns reach = any_of (parts_read parts columns (part_of reach))
cond_step names (CondForm-F.On table parts) columns reach = on_by names table reach (λ others. parts_read parts others Within)

-- a condition over these columns
abbrev pub cond_in : Names → CondForm → List ColumnSchema → Reach → Result Cond QueryFault
cond_in names = fold-CondForm (List ColumnSchema → Reach → Result Cond QueryFault) (cond_step names)

unfoldable pub conds_in : Names → List CondForm → List ColumnSchema → Reach → Result (List Cond) QueryFault
conds_in names forms columns reach = each_read (λ form. cond_in names form columns reach) forms

unfoldable pub on_in : Names → List ℕ → Reach → List CondForm → Result Cond QueryFault
on_in names table reach forms = on_by names table reach (λ others. conds_in names forms others Within)

-- ---- the whole

-- a declared table that is associated with the main one
unfoldable pub join_named : List TableSchema → TableSchema → List ℕ → Result ⊤ QueryFault
join_named tables main name = do
  other ← or_fault (declared_table name tables) UnknownTable
  join ← or_fault (join_with main other name) NoAssociation
  Ok tt

-- each of these
abbrev pub joins_named : List TableSchema → TableSchema → List (List ℕ) → Result ⊤ QueryFault
joins_named tables main [] = Ok tt
joins_named tables main (name ∷ names) = join_named tables main name >>= λ joined. joins_named tables main names

abbrev pub sort_key : List ColumnSchema → SortForm → Result SortKey QueryFault
sort_key columns form = or_fault (option_map (λ column. record { column = column; descending = form.descending }) (col_named form.column columns)) UnknownColumn

unfoldable pub query_in : List TableSchema → List ℕ → QueryForm → Result Query QueryFault
query_in tables table form = do
  place ← or_fault (table_named table tables) UnknownTable
  main ← or_fault (declared_table table tables) UnknownTable
  joins ← joins_named tables main form.joins
  conds ← conds_in (record { tables = tables; main = main; joins = form.joins }) form.conds main.columns Top
  sort ← each_read (sort_key main.columns) form.sort
  paged ← unless (is_none form.skip || is_some form.take) SkipWithoutTake
  Ok (record { table = place; conds = conds; sort = sort; take = form.take; skip = unwrap_or form.skip 0 })

unfoldable pub query_of : List TableSchema → List ℕ → Data → Result Query QueryFault
query_of tables table d = do
  form ← or_fault (query_form d) Form
  small ← unless (is_within_limits form) Limit
  query_in tables table form
