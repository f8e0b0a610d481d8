-- Turns that are taken until one is still.
use Rattle.std.proofs.Common.{◌≡◌, ℕ, zero, suc, ◌+◌, ◌-◌, ◌<◌, ◌≤◌, List, [], ◌∷◌, length, find, Bool, true, false, not, cond, Option, Some, None, refl, sym, ap, ◌∙◌, subst, arith, inl, inr}
use Rattle.std.specs.List.{AllByRecursion, range_with_len}
use Rattle.std.proofs.lemmas.Bool.{false≢true, cases_lt}
use Rattle.melon_table.proofs.Order.{split}
use Rattle.melon_query.specs.declared.query.Query.{Query}
use Rattle.melon_query.specs.Simple.{is_simple}
use Rattle.melon_change.specs.History.{History}
use Rattle.melon_views.specs.declared.emission.Shape.{Shape}
use Rattle.melon_views.specs.declared.emission.Turn.{Turn}
use Rattle.melon_views.specs.declared.emission.Turn.TheVariants.{Emit, Still}
use Rattle.melon_views.specs.Views.{view}
use Rattle.melon_views.specs.Due.{differs, due, turn_to, first_turn, last_turn, turn_from}
use Rattle.melon_views.specs.Turns.{followed, at_most, turns_from, IsAhead, ShowsView, TurnsGoAhead, TurnsFollow, TurnsShowViews}
use Rattle.melon_views.proofs.Same.{is_same-Decides}
use Rattle.melon_views.proofs.Standings.{some_is, found_below}

found_above : (test : ℕ → Bool) (a n m : ℕ) → find test (range_with_len a n) ≡ Some m → a ≤ m
found_above test a zero m f = cc
found_above test a (suc n) m f =
    let ih : find test (range_with_len (a + 1) n) ≡ Some m → a + 1 ≤ m = found_above test (a + 1) n m in
    split (test a)
    (λ e. let same : a ≡ m = some_is a m (rw e at f) in omega (arith, same))
    (λ e. let l : a + 1 ≤ m = ih (rw e at f) in omega (arith, l))

-- ---- one turn

module _ (q : Query) (s : Shape) (h : History) (p : ℕ) (within : p ≤ length h.entries) where
  ahead_due : (n : Option ℕ) → due q s h p ≡ n → IsAhead p (length h.entries) (turn_to q s h n)
  unfolding due
  ahead_due None e = refl
  ahead_due (Some n) e = (
    omega (arith, found_above (differs q s h p) (p + 1) (length h.entries - p) n e),
    omega (arith, within, found_below (differs q s h p) (p + 1) (length h.entries - p) n e),
  )

  same_here : differs q s h p p ≡ false
  same_here = ap not ((is_same-Decides (view q s h p) (view q s h p)).1 refl)

  later_end : differs q s h p (length h.entries) ≡ true → p < length h.entries
  later_end e = elim (cases_lt p (length h.entries)) [
    | inl less ↦ less
    | inr last ↦ let same : length h.entries ≡ p = omega (arith, within, last) in absurd (false≢true (sym (ap (differs q s h p) same ∙ same_here) ∙ e))
  ]

  ahead_last : (b : Bool) → differs q s h p (length h.entries) ≡ b → IsAhead p (length h.entries) (cond b (Emit (length h.entries) (view q s h (length h.entries))) (Still (length h.entries)))
  ahead_last true e = (later_end e, omega arith)
  ahead_last false e = refl

  ahead_by : (b : Bool) → IsAhead p (length h.entries) (cond b (first_turn q s h p) (last_turn q s h p))
  ahead_by true = ahead_due (due q s h p) refl
  ahead_by false = ahead_last (differs q s h p (length h.entries)) refl

  shows_due : (n : Option ℕ) → ShowsView q s h (turn_to q s h n)
  shows_due None = refl
  shows_due (Some n) = refl

  shows_last : (b : Bool) → ShowsView q s h (cond b (Emit (length h.entries) (view q s h (length h.entries))) (Still (length h.entries)))
  shows_last true = refl
  shows_last false = refl

  shows_by : (b : Bool) → ShowsView q s h (cond b (first_turn q s h p) (last_turn q s h p))
  shows_by true = shows_due (due q s h p)
  shows_by false = shows_last (differs q s h p (length h.entries))

pub turn_within : TurnsGoAhead
turn_within q s h p within = ahead_by q s h p within (is_simple q)

pub turn_shows : (q : Query) (s : Shape) (h : History) (p : ℕ) → p ≤ length h.entries → ShowsView q s h (turn_from q s h p)
turn_shows q s h p within = shows_by q s h p within (is_simple q)

-- ---- turns that follow

same_behind : (end p : ℕ) (one other : ℕ → List Turn) (t : Turn) → IsAhead p end t → ((n : ℕ) → p < n → n ≤ end → one n ≡ other n) → followed one t ≡ followed other t
same_behind end p one other (Emit n e) ahead same = ap (λ (ts : List Turn). Emit n e ∷ ts) (same n ahead.0 ahead.1)
same_behind end p one other (Still n) ahead same = refl

module _ (q : Query) (s : Shape) (h : History) where
  -- as many as there are entries are enough
  enough : (k m p : ℕ) → p ≤ length h.entries → length h.entries < p + k → length h.entries < p + m → at_most q s h k p ≡ at_most q s h m p
  enough zero m p within lk lm = absurd (omega (arith, within, lk))
  enough (suc k) zero p within lk lm = absurd (omega (arith, within, lm))
  enough (suc k) (suc m) p within lk lm =
      let ih : (n : ℕ) → n ≤ length h.entries → length h.entries < n + k → length h.entries < n + m → at_most q s h k n ≡ at_most q s h m n = enough k m in
      same_behind (length h.entries) p (at_most q s h k) (at_most q s h m) (turn_from q s h p) (turn_within q s h p within)
      (λ n above end. ih n end (omega (arith, above, lk)) (omega (arith, above, lm)))

  shows_behind : (p k : ℕ) (t : Turn) → IsAhead p (length h.entries) t → ShowsView q s h t
      → ((n : ℕ) → p ≤ n → n ≤ length h.entries → AllByRecursion (λ u. IsAhead p (length h.entries) u × ShowsView q s h u) (at_most q s h k n))
      → AllByRecursion (λ u. IsAhead p (length h.entries) u × ShowsView q s h u) (followed (at_most q s h k) t)
  shows_behind p k (Emit n e) ahead is later = ((ahead, is), later n (omega (arith, ahead.0)) ahead.1)
  shows_behind p k (Still n) ahead is later = ((ahead, is), tt)

  farther : (p n : ℕ) (t : Turn) → p ≤ n → IsAhead n (length h.entries) t → IsAhead p (length h.entries) t
  farther p n (Emit m e) above ahead = (omega (arith, above, ahead.0), ahead.1)
  farther p n (Still m) above ahead = ahead

  shows_behind_from : (p n k : ℕ) (t : Turn) → p ≤ n → IsAhead n (length h.entries) t → ShowsView q s h t
      → ((m : ℕ) → p ≤ m → m ≤ length h.entries → AllByRecursion (λ u. IsAhead p (length h.entries) u × ShowsView q s h u) (at_most q s h k m))
      → AllByRecursion (λ u. IsAhead p (length h.entries) u × ShowsView q s h u) (followed (at_most q s h k) t)
  shows_behind_from p n k t above ahead is later = shows_behind p k t (farther p n t above ahead) is later

  all_show : (p k n : ℕ) → p ≤ n → n ≤ length h.entries → AllByRecursion (λ u. IsAhead p (length h.entries) u × ShowsView q s h u) (at_most q s h k n)
  all_show p zero n above within = tt
  all_show p (suc k) n above within = shows_behind_from p n k (turn_from q s h n) above (turn_within q s h n within) (turn_shows q s h n within) (all_show p k)

pub turns_follow : TurnsFollow
unfolding turns_from
turns_follow q s h p within =
    same_behind (length h.entries) p (at_most q s h (length h.entries - p)) (turns_from q s h) (turn_from q s h p) (turn_within q s h p within)
    (λ n above end. enough q s h (length h.entries - p) (suc (length h.entries - n)) n end (omega (arith, above, end)) (omega (arith, end)))

pub turns_show : TurnsShowViews
unfolding turns_from
turns_show q s h p within = all_show q s h p (suc (length h.entries - p)) p (omega arith) within
