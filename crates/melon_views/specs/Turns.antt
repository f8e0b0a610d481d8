-- What an observer gives that takes turns until it is still.
use Rattle.std.specs.Prelude.{◌≡◌, ℕ, zero, suc, ◌-◌, ◌<◌, ◌≤◌, List, [], ◌∷◌, length, Bool, true, false}
use Rattle.std.specs.List.{AllByRecursion}
use Rattle.melon_query.specs.declared.query.Query.{Query}
use Rattle.melon_change.specs.History.{History}
use Rattle.melon_views.specs.declared.emission.Shape.{Shape}
use Rattle.melon_views.specs.declared.emission.Turn.{Turn}
use Rattle.melon_views.specs.declared.emission.Turn.TheVariants.{Emit, Still}
use Rattle.melon_views.specs.Views.{view}
use Rattle.melon_views.specs.Due.{turn_from}

-- a turn that is still is the last; behind an emission come the turns from its number on
abbrev pub followed : (ℕ → List Turn) → Turn → List Turn
followed later (Emit n e) = Emit n e ∷ later n
followed later (Still n) = Still n ∷ []

abbrev pub is_still : Turn → Bool
is_still (Emit n e) = false
is_still (Still n) = true

module _ (q : Query) (s : Shape) (h : History) where
  -- turns from a position on until one is still, at most so many
  abbrev pub at_most : ℕ → ℕ → List Turn
  at_most zero p = []
  at_most (suc n) p = followed (at_most n) (turn_from q s h p)

  -- All turns from a position on until one is still. Each emission is at a later entry, so no more come before it than there
  -- are entries after the position.
  unfoldable pub turns_from : ℕ → List Turn
  turns_from p = at_most (suc (length h.entries - p)) p

-- an emission goes ahead, at most to the end, and a turn that is still is there
abbrev pub IsAhead : ℕ → ℕ → Turn → Type 0
IsAhead p end (Emit n e) = (p < n) × (n ≤ end)
IsAhead p end (Still n) = n ≡ end

-- an emission is the view at its number
abbrev pub ShowsView : Query → Shape → History → Turn → Type 0
ShowsView q s h (Emit n e) = e ≡ view q s h n
ShowsView q s h (Still n) = n ≡ length h.entries

-- ---- laws

-- A turn goes ahead.
abbrev pub TurnsGoAhead : Type 0
TurnsGoAhead = (q : Query) (s : Shape) (h : History) (p : ℕ) → p ≤ length h.entries → IsAhead p (length h.entries) (turn_from q s h p)

-- Behind a turn that emits come the turns from its number on,
abbrev pub TurnsFollow : Type 0
TurnsFollow = (q : Query) (s : Shape) (h : History) (p : ℕ) → p ≤ length h.entries → turns_from q s h p ≡ followed (turns_from q s h) (turn_from q s h p)

-- and all of them are ahead and show views.
abbrev pub TurnsShowViews : Type 0
TurnsShowViews = (q : Query) (s : Shape) (h : History) (p : ℕ) → p ≤ length h.entries → AllByRecursion (λ t. IsAhead p (length h.entries) t × ShowsView q s h t) (turns_from q s h p)
