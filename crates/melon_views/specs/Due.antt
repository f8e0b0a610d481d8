-- When an emission is due, and what a turn gives.
use Rattle.std.specs.Prelude.{ℕ, ◌+◌, ◌-◌, length, find, Bool, true, false, not, ◌&&◌, Option, Some, None, bytes_eq, if◌then◌else◌}
use Rattle.std.specs.Cmp.Lexicographic.{pointwise}
use Rattle.std.specs.List.{range_with_len}
use Rattle.melon_raw.specs.Datum.{datum_eq}
use Rattle.melon_query.specs.declared.query.Query.{Query}
use Rattle.melon_query.specs.Simple.{is_simple}
use Rattle.melon_change.specs.History.{History}
use Rattle.melon_views.specs.declared.emission.Shape.{Shape}
use Rattle.melon_query.specs.declared.shown.Shown.{Shown}
use Rattle.melon_views.specs.declared.emission.Emission.{Emission}
use Rattle.melon_views.specs.declared.emission.Emission.TheVariants.{Ids, Rows}
use Rattle.melon_views.specs.declared.emission.Turn.{Turn}
use Rattle.melon_views.specs.declared.emission.Turn.TheVariants.{Emit, Still}
use Rattle.melon_views.specs.Views.{view}

-- ---- equal values

abbrev pub is_same_row : Shown → Shown → Bool
is_same_row a b = bytes_eq a.id b.id && pointwise datum_eq a.cells b.cells

abbrev pub is_same : Emission → Emission → Bool
is_same (Ids a) (Ids b) = pointwise bytes_eq a b
is_same (Ids a) (Rows b) = false
is_same (Rows a) (Ids b) = false
is_same (Rows a) (Rows b) = pointwise is_same_row a b

-- ---- due

module _ (q : Query) (s : Shape) (h : History) where
  -- the view after the first n entries is another than that after the first p
  abbrev pub differs : ℕ → ℕ → Bool
  differs p n = not (is_same (view q s h n) (view q s h p))

  -- the least number above p, and not above the history's length, at which the view differs
  unfoldable pub due : ℕ → Option ℕ
  due p = find (differs p) (range_with_len (p + 1) (length h.entries - p))

  abbrev pub turn_to : Option ℕ → Turn
  turn_to (Some n) = Emit n (view q s h n)
  turn_to None = Still (length h.entries)

  -- a simple observer's turn: the emission that is due, or still at the end
  abbrev pub first_turn : ℕ → Turn
  first_turn p = turn_to (due p)

  -- any other observer's turn: the emission at the end where it differs, or still there
  abbrev pub last_turn : ℕ → Turn
  last_turn p = if differs p (length h.entries) then Emit (length h.entries) (view q s h (length h.entries)) else Still (length h.entries)

  -- the turn of an observer at position p
  abbrev pub turn_from : ℕ → Turn
  turn_from p = if is_simple q then first_turn p else last_turn p

-- the number that a turn tells
abbrev pub number_of : Turn → ℕ
number_of (Emit n e) = n
number_of (Still n) = n
