-- When a comparison is true: `l` is the row's value, `r` the right side.
use Rattle.std.specs.Prelude.{ℕ, List, [], ◌∷◌, Bool, true, false, ◌&&◌, ◌||◌, not, nat_eq}
use Rattle.std.specs.List.{list_any}
use Rattle.std.specs.Ordering.{is_eq, is_lt, is_gt}
use Rattle.std.specs.Str.{chars}
use Rattle.melon_raw.specs.declared.datum.Datum.{Datum}
use Rattle.melon_raw.specs.declared.datum.Datum.TheVariants.{Null, Words, Whole, Truth}
use Rattle.melon_raw.specs.declared.raw.Raw.{Raw}
use Rattle.melon_query.specs.declared.query.Compare.{Compare}
use Rattle.melon_query.specs.declared.query.CompareOp.{CompareOp}
use Rattle.melon_query.specs.declared.query.CompareOp.TheVariants as op
use Rattle.melon_query.specs.declared.query.Right.{Right}
use Rattle.melon_query.specs.declared.query.Right.TheVariants.{One, Many, Other}
use Rattle.melon_query.specs.Like.{meets, some_end}
use Rattle.melon_query.specs.Values.{value_at, value_cmp}

abbrev pub is_null : Datum → Bool
is_null Null = true
is_null (Words t) = false
is_null (Whole z) = false
is_null (Truth b) = false

-- null equals null alone
abbrev pub is_same : Datum → Datum → Bool
is_same l r = is_eq (value_cmp l r)

abbrev pub is_greater : Datum → Datum → Bool
is_greater l r = is_gt (value_cmp l r)

abbrev pub is_less : Datum → Datum → Bool
is_less l r = is_lt (value_cmp l r)

-- neither is null
abbrev pub are_both : Datum → Datum → Bool
are_both l r = not (is_null l) && not (is_null r)

abbrev pub begins_with : List ℕ → List ℕ → Bool
begins_with [] bs = true
begins_with (a ∷ rest) [] = false
begins_with (a ∷ rest) (b ∷ bs) = nat_eq a b && begins_with rest bs

-- the first text stands in the second as it is
abbrev pub stands_in : List ℕ → List ℕ → Bool
stands_in part text = some_end (begins_with part) text

abbrev pub is_like : Datum → Datum → Bool
is_like (Words l) (Words r) = meets (chars r) (chars l)
is_like l r = false

abbrev pub includes : Datum → Datum → Bool
includes (Words l) (Words r) = stands_in r l
includes l r = false

-- the table of the operators whose right side is one value
abbrev pub is_true_of : CompareOp → Datum → Datum → Bool
is_true_of op.Eq l r = is_same l r
is_true_of op.NotEq l r = not (is_same l r)
is_true_of op.Gt l r = are_both l r && is_greater l r
is_true_of op.Gte l r = are_both l r && not (is_less l r)
is_true_of op.WeakGt l r = not (is_null l) && (is_null r || is_greater l r)
is_true_of op.Lt l r = are_both l r && is_less l r
is_true_of op.Lte l r = are_both l r && not (is_greater l r)
is_true_of op.Like l r = is_like l r
is_true_of op.NotLike l r = are_both l r && not (is_like l r)
is_true_of op.Includes l r = includes l r
is_true_of other l r = false

abbrev pub is_between : Datum → List Datum → Bool
is_between l (low ∷ high ∷ []) = not (is_null l) && (not (is_less l low) && not (is_greater l high))
is_between l other = false

-- and of those whose right side is a list
abbrev pub is_true_of_list : CompareOp → Datum → List Datum → Bool
is_true_of_list op.Between l rs = is_between l rs
is_true_of_list op.OneOf l rs = not (is_null l) && list_any (is_same l) rs
is_true_of_list op.NotIn l rs = not (is_null l) && not (list_any (is_same l) rs)
is_true_of_list other l rs = false

abbrev pub is_true_of_right : CompareOp → Datum → Right → Raw → Bool
is_true_of_right op l (One r) row = is_true_of op l r
is_true_of_right op l (Many rs) row = is_true_of_list op l rs
is_true_of_right op l (Other column) row = is_true_of op l (value_at column row)

unfoldable pub compares : Compare → Raw → Bool
compares by row = is_true_of_right by.op (value_at by.column row) by.right row
