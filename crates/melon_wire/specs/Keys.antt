-- Records in order: by the place of their table, and then by id.
use Rattle.std.specs.Prelude.{ℕ, List, [], ◌∷◌, Bool, true, false, not, ◌&&◌, count_by, Option, Some, None, if◌then◌else◌}
use Rattle.std.specs.List.{list_any, list_all}
use Rattle.std.specs.Ordering.{nat_cmp, ordering_then, is_lt}
use Rattle.std.specs.declared.cmp.Ordering.{Ordering}
use Rattle.melon_raw.specs.Order.{id_cmp}
use Rattle.melon_raw.specs.Rows.{Key, is_key}

abbrev pub key_at : ℕ → List ℕ → Key
key_at table id = record { table = table; id = id }

abbrev pub key_cmp : Key → Key → Ordering
key_cmp x y = ordering_then (nat_cmp x.table y.table) (id_cmp x.id y.id)

abbrev pub is_before : Key → Key → Bool
is_before x y = is_lt (key_cmp x y)

-- x among the keys
abbrev pub is_in : Key → List Key → Bool
is_in x keys = list_any (is_key x) keys

-- how often x stands among the keys
abbrev pub times : Key → List Key → ℕ
times x keys = count_by (is_key x) keys

-- no key stands twice
abbrev pub are_apart : List Key → Bool
are_apart [] = true
are_apart (x ∷ xs) = not (is_in x xs) && are_apart xs

-- each key stands before those behind it
abbrev pub do_ascend : List Key → Bool
do_ascend [] = true
do_ascend (x ∷ xs) = list_all (is_before x) xs && do_ascend xs

-- ---- put in order

-- x in its place among keys that ascend, unless it stands there
abbrev pub put_key : Key → List Key → List Key
put_key x [] = x ∷ []
put_key x (y ∷ ys) = if is_before x y then x ∷ y ∷ ys else (if is_key x y then y ∷ ys else y ∷ put_key x ys)

-- the keys by table and then by id, each once
abbrev pub ascending : List Key → List Key
ascending [] = []
ascending (x ∷ xs) = put_key x (ascending xs)

-- no key stands before the one ahead of it
abbrev pub do_rise : List Key → Bool
do_rise [] = true
do_rise (x ∷ []) = true
do_rise (x ∷ y ∷ ys) = not (is_before y x) && do_rise (y ∷ ys)

-- the first key that the next one repeats
abbrev pub first_again : List Key → Option Key
first_again [] = None
first_again (x ∷ []) = None
first_again (x ∷ y ∷ ys) = if is_key x y then Some x else first_again (y ∷ ys)
