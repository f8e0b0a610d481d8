-- The form of a query: which JSON is written as one, before any name in it is judged.
use Rattle.std.specs.Prelude.{ℕ, List, [], ◌∷◌, length, Bool, true, false, not, ◌||◌, ◌==◌, Option, Some, None, option_map, is_some, codes, bytes_eq, if◌then◌else◌}
use Rattle.std.specs.Ordering.{nat_cmp, match_ordering}
use Rattle.std.specs.Cmp.Lexicographic.{slice_cmp}
use Rattle.serde_json.specs.Data.{Data, null, boolean, number, string, array, object, Items, no_items, item, Members, no_members, member}
use Rattle.serde_json.specs.Find.{get, as_str, as_object}
use Rattle.melon_schema.specs.Json.{◌>>=◌, given, each, list_of, has_only, text_at, count_at, list_if_at}
use Rattle.melon_raw.specs.Datum.{datum_of}
use Rattle.melon_query.specs.declared.query.CompareOp.{CompareOp}
use Rattle.melon_query.specs.declared.query.CompareOp.TheVariants.{Eq, NotEq, Gt, Gte, WeakGt, Lt, Lte, Between, OneOf, NotIn, Like, NotLike, Includes}
use Rattle.melon_query.specs.declared.cond_form.RightForm.{RightForm}
use Rattle.melon_query.specs.declared.cond_form.RightForm.TheVariants.{One, Many, Other}
use Rattle.melon_query.specs.declared.cond_form.CompareForm.{CompareForm}
use Rattle.melon_query.specs.declared.cond_form.CondForm.{CondForm}
use Rattle.melon_query.specs.declared.cond_form.CondForm.TheVariants.{Compare, All, Any, On}
use Rattle.melon_query.specs.declared.query_form.SortForm.{SortForm}
use Rattle.melon_query.specs.declared.query_form.QueryForm.{QueryForm}

-- ---- comparisons

abbrev pub op_named : List ℕ → Option CompareOp
op_named word =
    if bytes_eq word (codes "eq") then Some Eq else
    (if bytes_eq word (codes "notEq") then Some NotEq else
    (if bytes_eq word (codes "gt") then Some Gt else
    (if bytes_eq word (codes "gte") then Some Gte else
    (if bytes_eq word (codes "weakGt") then Some WeakGt else
    (if bytes_eq word (codes "lt") then Some Lt else
    (if bytes_eq word (codes "lte") then Some Lte else
    (if bytes_eq word (codes "between") then Some Between else
    (if bytes_eq word (codes "oneOf") then Some OneOf else
    (if bytes_eq word (codes "notIn") then Some NotIn else
    (if bytes_eq word (codes "like") then Some Like else
    (if bytes_eq word (codes "notLike") then Some NotLike else
    (if bytes_eq word (codes "includes") then Some Includes else None))))))))))))

-- the length that a list on the right side of the operator may have
abbrev pub may_have_length : CompareOp → ℕ → Bool
may_have_length Between n = n == 2
may_have_length OneOf n = true
may_have_length NotIn n = true
may_have_length other n = false

-- a list of values
unfoldable pub many_form : CompareOp → List Data → Option RightForm
many_form op ds = do
  listed ← given (may_have_length op (length ds))
  values ← each datum_of ds
  Some (Many values)

abbrev pub value_in : CompareOp → Option (List Data) → Data → Option RightForm
value_in op (Some ds) d = many_form op ds
value_in op None d = option_map One (datum_of d)

-- null, a text, a number, a truth value, or for some operators a list of them
abbrev pub value_form : CompareOp → Data → Option RightForm
value_form op d = value_in op (list_of d) d

-- "value": value, or "other": column
abbrev pub right_form : CompareOp → Data → Option RightForm
right_form op d =
    if has_only (codes "column" ∷ codes "op" ∷ codes "value" ∷ []) d then get (codes "value") d >>= value_form op else
    (if has_only (codes "column" ∷ codes "op" ∷ codes "other" ∷ []) d then option_map Other (text_at (codes "other") d) else None)

-- {"column": column, "op": operator, "value": value} or {"column": column, "op": operator, "other": column}
unfoldable pub compare_form : Data → Option CompareForm
compare_form d = do
  column ← text_at (codes "column") d
  word ← text_at (codes "op") d
  op ← op_named word
  right ← right_form op d
  Some (record { column = column; op = op; right = right })

-- ---- conditions

-- {"on": table, "is": conditions}, where an `on` may stand
abbrev pub on_form : Bool → Data → Option (List CondForm) → Option CondForm
on_form may d conds = do
  allowed ← given may
  table ← text_at (codes "on") d
  parts ← conds
  Some (On table parts)

-- The condition that an object is, whose lists are read by `parts`: that under a key, where an `on` may stand in it or not.
unfoldable pub cond_by : (List ℕ → Bool → Option (List CondForm)) → Bool → Data → Option CondForm
cond_by parts may d =
    if has_only (codes "and" ∷ []) d then option_map All (parts (codes "and") may) else
    (if has_only (codes "or" ∷ []) d then option_map Any (parts (codes "or") may) else
    (if has_only (codes "on" ∷ codes "is" ∷ []) d then on_form may d (parts (codes "is") false) else
    option_map Compare (compare_form d)))

-- The condition that a value is, at a place where an `on` may stand or not, and below it each of a list, and the list under a key.
unfoldable mutual
  pub cond_form : Data → Bool → Option CondForm
  cond_form null may = None
  cond_form (boolean b) may = None
  cond_form (number n) may = None
  cond_form (string s) may = None
  cond_form (array ds) may = None
  cond_form (object ms) may = cond_by (λ key within. conds_under ms key within) may (object ms)

  pub conds_in : Items → Bool → Option (List CondForm)
  conds_in no_items may = Some []
  conds_in (item d ds) may = cond_form d may >>= λ c. option_map (λ cs. c ∷ cs) (conds_in ds may)

  pub conds_under : Members → List ℕ → Bool → Option (List CondForm)
  conds_under no_members key may = None
  conds_under (member k (array ds) ms) key may = match_ordering (slice_cmp nat_cmp key k) (conds_under ms key may) (conds_in ds may) (conds_under ms key may)
  conds_under (member k d ms) key may = match_ordering (slice_cmp nat_cmp key k) (conds_under ms key may) None (conds_under ms key may)

-- ---- the whole

abbrev pub direction_named : List ℕ → Option Bool
direction_named word = if bytes_eq word (codes "asc") then Some false else (if bytes_eq word (codes "desc") then Some true else None)

abbrev pub sort_pair : List Data → Option SortForm
sort_pair (column ∷ word ∷ []) = do
  name ← as_str column
  direction ← as_str word
  descending ← direction_named direction
  Some (record { column = name; descending = descending })
sort_pair other = None

-- [column, "asc"] or [column, "desc"]
abbrev pub sort_form : Data → Option SortForm
sort_form d = list_of d >>= sort_pair

-- an object of any of these keys
unfoldable pub query_form : Data → Option QueryForm
query_form d = do
  keyed ← given (is_some (as_object d))
  known ← given (has_only (codes "where" ∷ codes "joins" ∷ codes "sortBy" ∷ codes "take" ∷ codes "skip" ∷ []) d)
  conds ← list_if_at (λ c. cond_form c true) (codes "where") d
  joins ← list_if_at as_str (codes "joins") d
  sort ← list_if_at sort_form (codes "sortBy") d
  most ← count_at (codes "take") d
  skip ← count_at (codes "skip") d
  Some (record { conds = conds; joins = joins; sort = sort; take = most; skip = skip })
