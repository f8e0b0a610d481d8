-- Which columns and which right sides an operator takes.
use Rattle.std.specs.Prelude.{ℕ, List, [], ◌∷◌, Bool, true, false, not, ◌&&◌, Option, Some, None, slice_get}
use Rattle.std.specs.List.{list_all, list_any}
use Rattle.melon_schema.specs.declared.schema.Kind.{Kind}
use Rattle.melon_schema.specs.declared.schema.Kind.TheVariants as kinds
use Rattle.melon_schema.specs.declared.schema.ColumnSchema.{ColumnSchema}
use Rattle.melon_raw.specs.declared.datum.Datum.{Datum}
use Rattle.melon_raw.specs.declared.datum.Datum.TheVariants.{Null, Words, Whole, Truth}
use Rattle.melon_query.specs.declared.query.Col.{Col}
use Rattle.melon_query.specs.declared.query.Col.TheVariants.{Id, Cell}
use Rattle.melon_query.specs.declared.query.CompareOp.{CompareOp}
use Rattle.melon_query.specs.declared.query.CompareOp.TheVariants.{Eq, NotEq, Gt, Gte, WeakGt, Lt, Lte, Between, OneOf, NotIn, Like, NotLike, Includes}
use Rattle.melon_query.specs.declared.query.Right.{Right}
use Rattle.melon_query.specs.declared.query.Right.TheVariants.{One, Many, Other}
use Rattle.melon_query.specs.Truth.{is_null}

abbrev pub kind_at : Option ColumnSchema → Kind
kind_at None = kinds.Words
kind_at (Some column) = column.kind

-- the kind of a column; the id is a text
abbrev pub kind_of : Col → List ColumnSchema → Kind
kind_of Id columns = kinds.Words
kind_of (Cell place) columns = kind_at (slice_get columns place)

abbrev pub is_same_kind : Kind → Kind → Bool
is_same_kind kinds.Words kinds.Words = true
is_same_kind kinds.Whole kinds.Whole = true
is_same_kind kinds.Truth kinds.Truth = true
is_same_kind a b = false

-- which columns
abbrev pub takes_kind : CompareOp → Kind → Bool
takes_kind Eq kind = true
takes_kind NotEq kind = true
takes_kind Gt kind = not (is_same_kind kind kinds.Truth)
takes_kind Gte kind = not (is_same_kind kind kinds.Truth)
takes_kind WeakGt kind = not (is_same_kind kind kinds.Truth)
takes_kind Lt kind = not (is_same_kind kind kinds.Truth)
takes_kind Lte kind = not (is_same_kind kind kinds.Truth)
takes_kind Between kind = is_same_kind kind kinds.Whole
takes_kind OneOf kind = true
takes_kind NotIn kind = true
takes_kind Like kind = is_same_kind kind kinds.Words
takes_kind NotLike kind = is_same_kind kind kinds.Words
takes_kind Includes kind = is_same_kind kind kinds.Words

-- whether one value may stand on the right side
abbrev pub takes_one : CompareOp → Bool
takes_one Between = false
takes_one OneOf = false
takes_one NotIn = false
takes_one other = true

-- whether another column may
abbrev pub takes_column : CompareOp → Bool
takes_column Eq = true
takes_column NotEq = true
takes_column Gt = true
takes_column Gte = true
takes_column WeakGt = true
takes_column Lt = true
takes_column Lte = true
takes_column other = false

-- null, or a value of this kind
abbrev pub is_value_of : Kind → Datum → Bool
is_value_of kind Null = true
is_value_of kind (Words text) = is_same_kind kind kinds.Words
is_value_of kind (Whole z) = is_same_kind kind kinds.Whole
is_value_of kind (Truth b) = is_same_kind kind kinds.Truth

abbrev pub is_number : Datum → Bool
is_number Null = false
is_number (Words text) = false
is_number (Whole z) = true
is_number (Truth b) = false

abbrev pub are_two_numbers : List Datum → Bool
are_two_numbers (a ∷ b ∷ []) = is_number a && is_number b
are_two_numbers other = false

-- whether this list may
abbrev pub takes_list : CompareOp → Kind → List Datum → Bool
takes_list Between kind values = are_two_numbers values
takes_list OneOf kind values = list_all (is_value_of kind) values
takes_list NotIn kind values = list_all (is_value_of kind) values
takes_list other kind values = false

-- whether this right side may stand beside a column of that kind
abbrev pub takes_right : CompareOp → Kind → List ColumnSchema → Right → Bool
takes_right op kind columns (One value) = takes_one op && is_value_of kind value
takes_right op kind columns (Many values) = takes_list op kind values
takes_right op kind columns (Other column) = takes_column op && is_same_kind kind (kind_of column columns)

-- null stands in its list
abbrev pub lists_null : Right → Bool
lists_null (One value) = false
lists_null (Many values) = list_any is_null values
lists_null (Other column) = false
