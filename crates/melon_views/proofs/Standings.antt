-- Observers go on standing, whatever comes behind the history and whatever turns they make.
use Rattle.std.proofs.Common.{◌≡◌, ℕ, zero, suc, ◌+◌, ◌-◌, ◌<◌, ◌≤◌, List, [], ◌∷◌, ◌++◌, length, take, find, Bool, true, false, not, cond, Option, Some, None, refl, sym, ap, ◌∙◌, subst, arith, add-zero, length-append}
use Rattle.std.specs.List.{range_with_len}
use Rattle.std.proofs.lemmas.Bool.{not-false, true_from_ne_false}
use Rattle.std.proofs.lemmas.List.{take-append-le}
use Rattle.melon_raw.specs.Rows.{Rows}
use Rattle.melon_table.proofs.Order.{split}
use Rattle.melon_query.specs.declared.query.Query.{Query}
use Rattle.melon_query.specs.Simple.{is_simple}
use Rattle.melon_change.specs.declared.history.Entry.{Entry}
use Rattle.melon_change.specs.History.{History, replay}
use Rattle.melon_views.specs.declared.emission.Shape.{Shape}
use Rattle.melon_views.specs.declared.emission.Turn.{Turn}
use Rattle.melon_views.specs.Views.{shown, view}
use Rattle.melon_views.specs.Due.{is_same, differs, due, turn_to, first_turn, last_turn, turn_from}
use Rattle.melon_views.specs.Standing.{Observed, Stands, moved}
use Rattle.melon_views.specs.Laws.{grown, GrownViewsStay, GrownHistoriesKeepStanding, TurnsKeepStanding}
use Rattle.melon_views.proofs.Same.{is_same-Decides}

pub grown_views : GrownViewsStay
grown_views h more q s n within = ap (λ (es : List Entry). shown q s (replay h.opening es)) (take-append-le n h.entries more within)

pub grown_keeps : GrownHistoriesKeepStanding
grown_keeps h more o stands = record {
  within = omega (arith, stands.within, length-append h.entries more);
  keeps = stands.keeps ∙ sym (grown_views h more o.query o.shape o.at stands.within);
}

-- ---- turns

pub some_is : (a b : ℕ) → Some a ≡ Some b → a ≡ b
some_is a b e = cc

pub found_below : (test : ℕ → Bool) (a n m : ℕ) → find test (range_with_len a n) ≡ Some m → m < a + n
found_below test a zero m f = cc
found_below test a (suc n) m f =
    let ih : find test (range_with_len (a + 1) n) ≡ Some m → m < a + 1 + n = found_below test (a + 1) n m in
    split (test a)
    (λ e. let same : a ≡ m = some_is a m (rw e at f) in omega (arith, same))
    (λ e. let l : m < a + 1 + n = ih (rw e at f) in omega (arith, l))

found_none : (test : ℕ → Bool) (a n i : ℕ) → find test (range_with_len a n) ≡ None → i < n → test (a + i) ≡ false
found_none test a zero i f l = absurd (omega arith)
found_none test a (suc n) zero f l = split (test a) (λ e. absurd (none_some a (sym (rw e at f)))) (λ e. subst (λ (m : ℕ). test m ≡ false) (sym (add-zero a)) e)
  where
    none_some : (m : ℕ) → None ≡ Some m → ⊥
    none_some m e = cc
found_none test a (suc n) (suc i) f l =
    let ih : find test (range_with_len (a + 1) n) ≡ None → test (a + 1 + i) ≡ false = λ g. found_none test (a + 1) n i g (omega arith) in
    let place : a + 1 + i ≡ a + suc i = omega arith in
    split (test a) (λ e. absurd (none_some a (sym (rw e at f)))) (λ e. subst (λ (m : ℕ). test m ≡ false) place (ih (rw e at f)))
  where
    none_some : (m : ℕ) → None ≡ Some m → ⊥
    none_some m e = cc

module _ (h : History) (o : Observed) (stands : Stands h o) where
  same_view : (n : ℕ) → differs o.query o.shape h o.at n ≡ false → view o.query o.shape h n ≡ view o.query o.shape h o.at
  same_view n e = (is_same-Decides (view o.query o.shape h n) (view o.query o.shape h o.at)).0 (not-false (is_same (view o.query o.shape h n) (view o.query o.shape h o.at)) e)

  still_at_end : view o.query o.shape h (length h.entries) ≡ view o.query o.shape h o.at → Stands h (moved (turn_to o.query o.shape h None) o)
  still_at_end same = record { within = omega arith; keeps = stands.keeps ∙ sym same }

  end_view : due o.query o.shape h o.at ≡ None → (d : ℕ) → o.at + d ≡ length h.entries → view o.query o.shape h (length h.entries) ≡ view o.query o.shape h o.at
  unfolding due
  end_view none zero e = ap (view o.query o.shape h) (sym e ∙ add-zero o.at)
  end_view none (suc d) e =
      let place : o.at + 1 + d ≡ length h.entries = omega arith in
      same_view (length h.entries) (subst (λ (m : ℕ). differs o.query o.shape h o.at m ≡ false) place
      (found_none (differs o.query o.shape h o.at) (o.at + 1) (length h.entries - o.at) d none (omega arith)))

  after_due : (n : Option ℕ) → due o.query o.shape h o.at ≡ n → Stands h (moved (turn_to o.query o.shape h n) o)
  unfolding due
  after_due None e = still_at_end (end_view e (length h.entries - o.at) (omega (arith, stands.within)))
  after_due (Some n) e = record { within = omega (arith, stands.within, found_below (differs o.query o.shape h o.at) (o.at + 1) (length h.entries - o.at) n e); keeps = refl }

  after_last : (b : Bool) → differs o.query o.shape h o.at (length h.entries) ≡ b
      → Stands h (moved (cond b (turn_to o.query o.shape h (Some (length h.entries))) (turn_to o.query o.shape h None)) o)
  after_last true e = record { within = omega arith; keeps = refl }
  after_last false e = still_at_end (same_view (length h.entries) e)

  by_kind : (b : Bool) → Stands h (moved (cond b (first_turn o.query o.shape h o.at) (last_turn o.query o.shape h o.at)) o)
  by_kind true = after_due (due o.query o.shape h o.at) refl
  by_kind false = after_last (differs o.query o.shape h o.at (length h.entries)) refl

pub turns_keep : TurnsKeepStanding
turns_keep h o stands = by_kind h o stands (is_simple o.query)
