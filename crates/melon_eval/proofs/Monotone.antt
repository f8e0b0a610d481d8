-- A tuple that meets at least the `on`s that another meets makes at least the conditions true that the other does.
use Rattle.std.proofs.Common.{◌≡◌, List, [], ◌∷◌, ◌++◌, Bool, true, false, ◌&&◌, ◌||◌, map, ap, sym, ◌∙◌, refl, subst}
use Rattle.std.specs.List.{AllByRecursion}
use Rattle.std.proofs.lemmas.Bool.{false≢true}
use Rattle.melon_query.specs.Tuples.{Tuple, member_of}
use Rattle.melon_query.specs.Meaning.{holds, holds_step, every, every_of, some_one}
use Rattle.melon_query.specs.Truth.{compares}
use Rattle.melon_query.specs.declared.query.Cond.{Cond, map-Cond}
use Rattle.melon_query.specs.declared.query.Cond.TheOpen.{Cond-F}
use Rattle.melon_query.specs.declared.query.Cond.TheFolds.{fold-roll-Cond, ind-Cond}
use Rattle.melon_eval.specs.Asking.{Asked, Read, truths, all_asks, read_step, read, is_met}

-- the second tuple meets each of these that the first meets
abbrev pub MeetsMore : Tuple → Tuple → List Asked → Type 0
MeetsMore t u asks = AllByRecursion (λ a. is_met a t ≡ true → is_met a u ≡ true) asks

abbrev pub IsMonotone : Read → Type 0
IsMonotone r = (t u : Tuple) → t.main ≡ u.main → MeetsMore t u r.asks → r.truth t ≡ true → r.truth u ≡ true

pub front : {X : Type 0} (P : X → Type 0) (xs ys : List X) → AllByRecursion P (xs ++ ys) → AllByRecursion P xs
front P [] ys h = tt
front P (x ∷ xs) ys h = (h.0, front P xs ys h.1)

pub back : {X : Type 0} (P : X → Type 0) (xs ys : List X) → AllByRecursion P (xs ++ ys) → AllByRecursion P ys
back P [] ys h = h
back P (x ∷ xs) ys h = back P xs ys h.1

and_both : (a b c d : Bool) → (a ≡ true → c ≡ true) → (b ≡ true → d ≡ true) → a && b ≡ true → c && d ≡ true
and_both true b c d f g e = ap (λ x. x && d) (f refl) ∙ g e
and_both false b c d f g e = absurd (false≢true e)

or_true : (a : Bool) → a || true ≡ true
or_true true = refl
or_true false = refl

or_either : (a b c d : Bool) → (a ≡ true → c ≡ true) → (b ≡ true → d ≡ true) → a || b ≡ true → c || d ≡ true
or_either true b c d f g e = ap (λ x. x || d) (f refl)
or_either false b c d f g e = ap (λ x. c || x) (g e) ∙ or_true c

module _ (t u : Tuple) (same : t.main ≡ u.main) where
  every_kept : (cs : List ((c : Cond) × IsMonotone (read c))) → MeetsMore t u (all_asks (map read (map (λ e. e.0) cs))) → every (truths (map read (map (λ e. e.0) cs))) t ≡ true → every (truths (map read (map (λ e. e.0) cs))) u ≡ true
  every_kept [] more e = refl
  every_kept (c ∷ cs) more e =
      and_both ((read c.0).truth t) (every (truths (map read (map (λ e. e.0) cs))) t) ((read c.0).truth u) (every (truths (map read (map (λ e. e.0) cs))) u)
      (c.1 t u same (front _ (read c.0).asks (all_asks (map read (map (λ e. e.0) cs))) more))
      (every_kept cs (back _ (read c.0).asks (all_asks (map read (map (λ e. e.0) cs))) more)) e

  some_kept : (cs : List ((c : Cond) × IsMonotone (read c))) → MeetsMore t u (all_asks (map read (map (λ e. e.0) cs))) → some_one (truths (map read (map (λ e. e.0) cs))) t ≡ true → some_one (truths (map read (map (λ e. e.0) cs))) u ≡ true
  some_kept [] more e = e
  some_kept (c ∷ cs) more e =
      or_either ((read c.0).truth t) (some_one (truths (map read (map (λ e. e.0) cs))) t) ((read c.0).truth u) (some_one (truths (map read (map (λ e. e.0) cs))) u)
      (c.1 t u same (front _ (read c.0).asks (all_asks (map read (map (λ e. e.0) cs))) more))
      (some_kept cs (back _ (read c.0).asks (all_asks (map read (map (λ e. e.0) cs))) more)) e

kept_step : (y : Cond-F ((c : Cond) × IsMonotone (read c))) → IsMonotone (read_step (map-Cond Cond Read read (map-Cond ((c : Cond) × IsMonotone (read c)) Cond (λ e. e.0) y)))
kept_step (Cond-F.Compare by) t u same more e = sym (ap (compares by) same) ∙ e
kept_step (Cond-F.All parts) t u same more e = every_kept t u same parts more e
kept_step (Cond-F.Any parts) t u same more e = some_kept t u same parts more e
kept_step (Cond-F.On table join parts) t u same more e = more.0 e

-- a tuple that meets at least the `on`s that another meets makes a condition true that the other does
pub read_monotone : (c : Cond) → IsMonotone (read c)
read_monotone = ind-Cond (λ c. IsMonotone (read c)) (λ x y is.
    subst (λ (r : Read). IsMonotone r) (sym (fold-roll-Cond Read read_step x))
    (subst (λ z. IsMonotone (read_step z)) (ap (map-Cond Cond Read read) is) (kept_step y)))

-- what is read of a condition is its truth
truths_are : (cs : List ((c : Cond) × ((read c).truth ≡ holds c))) → truths (map read (map (λ e. e.0) cs)) ≡ map holds (map (λ e. e.0) cs)
truths_are [] = refl
truths_are (c ∷ cs) = ap (λ f. f ∷ truths (map read (map (λ e. e.0) cs))) c.1 ∙ ap (λ fs. holds c.0 ∷ fs) (truths_are cs)

truth_step : (y : Cond-F ((c : Cond) × ((read c).truth ≡ holds c))) → (read_step (map-Cond Cond Read read (map-Cond ((c : Cond) × ((read c).truth ≡ holds c)) Cond (λ e. e.0) y))).truth ≡ holds_step (map-Cond Cond (Tuple → Bool) holds (map-Cond ((c : Cond) × ((read c).truth ≡ holds c)) Cond (λ e. e.0) y))
truth_step (Cond-F.Compare by) = refl
truth_step (Cond-F.All parts) = ap every (truths_are parts)
truth_step (Cond-F.Any parts) = ap some_one (truths_are parts)
truth_step (Cond-F.On table join parts) = ap (λ fs tuple. every_of fs (member_of table tuple.members)) (truths_are parts)

pub truth_is : (c : Cond) → (read c).truth ≡ holds c
truth_is = ind-Cond (λ c. (read c).truth ≡ holds c) (λ x y is.
    ap (λ (r : Read). r.truth) (fold-roll-Cond Read read_step x)
    ∙ subst (λ z. (read_step (map-Cond Cond Read read z)).truth ≡ holds_step (map-Cond Cond (Tuple → Bool) holds z)) is (truth_step y)
    ∙ sym (fold-roll-Cond (Tuple → Bool) holds_step x))
