-- The part of an answer that is asked for.
use Rattle.std.specs.Prelude.{◌≡◌, ℕ, ◌+◌, ◌-◌, List, length, map, filter, drop, slice_get, Option, Some, None, Bool, true, false, ◌&&◌, nat_le}
use Rattle.std.specs.Option.{option_map_or}
use Rattle.melon_query.specs.declared.query.SortKey.{SortKey}
use Rattle.melon_raw.specs.declared.raw.Raw.{Raw}
use Rattle.melon_query.specs.declared.query.Query.{Query}
use Rattle.melon_query.specs.Fresh.{at_most}
use Rattle.melon_query.specs.Order.{in_order, comes_before}

-- what is left of a list after those skipped, and at most those taken
abbrev pub page_of : {X : Type 0} → Query → List X → List X
page_of q xs = at_most q.take (drop q.skip xs)

-- of these rows those that pass, in the order of the query
abbrev pub ordered : Query → (Raw → Bool) → List Raw → List Raw
ordered q test rows = in_order (comes_before q.sort) (filter test rows)

-- no more than these are skipped or taken
abbrev pub IsLimit : Query → Option ℕ → Type 0
IsLimit q None = Unit {0}
IsLimit q (Some most) = (n : ℕ) × (q.take ≡ Some n) × (most ≡ q.skip + n)

-- so many are enough
abbrev pub is_filled : Option ℕ → ℕ → Bool
is_filled None n = false
is_filled (Some most) n = nat_le most n

-- as many rows are kept as are asked for, and the last of them comes before this one
abbrev pub is_behind : List SortKey → ℕ → Raw → List Raw → Bool
is_behind keys most row kept = nat_le most (length kept) && option_map_or (λ last. comes_before keys last row) (slice_get kept (length kept - 1)) true
