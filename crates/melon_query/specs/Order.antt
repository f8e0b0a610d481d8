-- The order of an answer.
use Rattle.std.specs.Prelude.{List, [], ◌∷◌, Bool, if◌then◌else◌}
use Rattle.std.specs.Ordering.{is_lt, ordering_then}
use Rattle.std.specs.declared.cmp.Ordering.{Ordering}
use Rattle.melon_raw.specs.declared.raw.Raw.{Raw}
use Rattle.melon_query.specs.declared.query.SortKey.{SortKey}
use Rattle.melon_query.specs.Values.{value_at, value_cmp}
use Rattle.melon_raw.specs.Order.{id_cmp}

-- by one column; descending reverses it, null included
abbrev pub key_cmp : SortKey → Raw → Raw → Ordering
key_cmp key a b = if key.descending then value_cmp (value_at key.column b) (value_at key.column a) else value_cmp (value_at key.column a) (value_at key.column b)

-- by the sort columns in their order, then by id
abbrev pub row_cmp : List SortKey → Raw → Raw → Ordering
row_cmp [] a b = id_cmp a.id b.id
row_cmp (key ∷ keys) a b = ordering_then (key_cmp key a b) (row_cmp keys a b)

-- a row put before the first that doesn't come before it
abbrev pub placed : {X : Type 0} → (X → X → Bool) → X → List X → List X
placed comes_before x [] = x ∷ []
placed comes_before x (y ∷ ys) = if comes_before y x then y ∷ placed comes_before x ys else x ∷ y ∷ ys

-- put in order one after another
abbrev pub in_order : {X : Type 0} → (X → X → Bool) → List X → List X
in_order comes_before [] = []
in_order comes_before (x ∷ xs) = placed comes_before x (in_order comes_before xs)

abbrev pub comes_before : List SortKey → Raw → Raw → Bool
comes_before keys a b = is_lt (row_cmp keys a b)
