-- Entries behind a place, and how many changes they have.
use Rattle.std.proofs.Common.{◌≡◌, Bool, false, ℕ, zero, suc, ◌+◌, ◌-◌, ◌<◌, ◌≤◌, List, [], ◌∷◌, length, take, drop, Some, slice_get, refl, sym, ap, ◌∙◌, subst, arith, zero-add, length-drop, inl, inr, ◌⊎◌}
use Rattle.std.specs.List.{sum_by}
use Rattle.std.proofs.lemmas.Bool.{cases_lt}
use Rattle.std.proofs.lemmas.List.{take_all, drop-drop}
use Rattle.std.proofs.lemmas.List.Sums.{sum_by_push, sum_by-append}
use Rattle.std.proofs.Math.Seq.{take-add}
use Rattle.melon_query.specs.declared.query.Query.{Query}
use Rattle.melon_change.specs.declared.history.Entry.{Entry}
use Rattle.melon_eval.proofs.Steps.{taken_at}
use Rattle.melon_views.specs.declared.emission.Shape.{Shape}
use Rattle.melon_views.specs.Members.{matters}
use Rattle.melon_views.specs.Laws.{NoneMatters}
use Rattle.melon_observe.specs.Journals.{IsFirst, changes_between}

pub slice_get-drop : {X : Type 0} (xs : List X) (p i : ℕ) → slice_get (drop p xs) i ≡ slice_get xs (p + i)
slice_get-drop [] zero i = refl
slice_get-drop [] (suc p) i = refl
slice_get-drop (x ∷ xs) zero i = ap (slice_get (x ∷ xs)) (sym (zero-add i))
slice_get-drop (x ∷ xs) (suc p) i = let next : suc (p + i) ≡ suc p + i = omega arith in slice_get-drop xs p i ∙ ap (slice_get (x ∷ xs)) next

-- ---- changes

pub between_none : (p n : ℕ) (es : List Entry) → n ≤ p → changes_between p n es ≡ 0
between_none p n es h = let none : n - p ≡ 0 = omega arith in ap (λ k. sum_by (λ (e : Entry). length e.set) (take k (drop p es))) none

pub between_more : (p k : ℕ) (e : Entry) (es : List Entry) → p ≤ k → slice_get es k ≡ Some e → changes_between p (k + 1) es ≡ changes_between p k es + length e.set
between_more p k e es h f =
    let next : k + 1 - p ≡ k - p + 1 = omega arith in
    let place : p + (k - p) ≡ k = omega arith in
    let there : slice_get (drop p es) (k - p) ≡ Some e = slice_get-drop es p (k - p) ∙ ap (slice_get es) place ∙ f in
    ap (λ n. sum_by (λ (x : Entry). length x.set) (take n (drop p es))) next
    ∙ ap (sum_by (λ (x : Entry). length x.set)) (taken_at (drop p es) (k - p) e there)
    ∙ sum_by_push (λ (x : Entry). length x.set) (take (k - p) (drop p es)) e

pub between_end : (p n : ℕ) (es : List Entry) → length es ≤ n → changes_between p n es ≡ changes_between p (length es) es
between_end p n es h =
    let all : (m : ℕ) → length es ≤ m → take (m - p) (drop p es) ≡ drop p es = λ m l. take_all (m - p) (drop p es) (omega (arith, length-drop p es)) in
    ap (sum_by (λ (x : Entry). length x.set)) (all n h ∙ sym (all (length es) (omega arith)))

-- ---- what was looked at

-- How far was looked for an entry that matters, and what it cost.
pub record Looking (q : Query) (s : Shape) (es : List Entry) (p place start now : ℕ) : Type 0 where
  pub none : NoneMatters q s es p place
  pub cost : now ≤ start + changes_between p place es

pub look_start : (q : Query) (s : Shape) (es : List Entry) (p start : ℕ) → Looking q s es p p start start
look_start q s es p start = record { none = λ k e h l f. absurd (omega arith); cost = omega arith }

-- each entry from place p up to place n fails the test
abbrev pub FailFrom : (Entry → Bool) → List Entry → ℕ → ℕ → Type 0
FailFrom test es p n = (k : ℕ) (e : Entry) → p ≤ k → k < n → slice_get es k ≡ Some e → test e ≡ false

same_entry : (a b : Entry) → Some a ≡ Some b → a ≡ b
same_entry a b e = cc

fails_there : (test : Entry → Bool) (es : List Entry) (p place k : ℕ) (e d : Entry) → slice_get es place ≡ Some e → test e ≡ false → FailFrom test es p place
    → p ≤ k → k < place + 1 → slice_get es k ≡ Some d → (k < place) ⊎ (place ≤ k) → test d ≡ false
fails_there test es p place k e d here miss none h l f (inl less) = none k d h less f
fails_there test es p place k e d here miss none h l f (inr last) =
    let same : place ≡ k = omega arith in
    subst (λ (x : Entry). test x ≡ false) (same_entry e d (sym here ∙ (ap (slice_get es) same ∙ f))) miss

-- one entry more fails
pub fails_more : (test : Entry → Bool) (es : List Entry) (p place : ℕ) (e : Entry) → slice_get es place ≡ Some e → test e ≡ false → FailFrom test es p place → FailFrom test es p (place + 1)
fails_more test es p place e here miss none k d h l f = fails_there test es p place k e d here miss none h l f (cases_lt k place)

pub look_more : (q : Query) (s : Shape) (es : List Entry) (p place start now next : ℕ) (e : Entry) → p ≤ place → slice_get es place ≡ Some e → matters q s e.set ≡ false → next ≡ now + length e.set
    → Looking q s es p place start now → Looking q s es p (place + 1) start next
look_more q s es p place start now next e above here miss counted so_far = record {
  none = fails_more (λ (x : Entry). matters q s x.set) es p place e here miss so_far.none;
  cost = omega (arith, so_far.cost, counted, between_more p place e es above here);
}

pub look_found : (q : Query) (s : Shape) (es : List Entry) (p place start now next : ℕ) (e : Entry) → p ≤ place → slice_get es place ≡ Some e → next ≡ now + length e.set → Looking q s es p place start now → next ≤ start + changes_between p (place + 1) es
look_found q s es p place start now next e above here counted so_far = omega (arith, so_far.cost, counted, between_more p place e es above here)

pub none_up_to : (q : Query) (s : Shape) (es : List Entry) (p m n : ℕ) → n ≤ m → NoneMatters q s es p m → NoneMatters q s es p n
none_up_to q s es p m n l none k e h below f = none k e h (omega arith) f

-- ---- in the part behind a place

module _ (q : Query) (s : Shape) (es tail : List Entry) (p : ℕ) (behind : drop p es ≡ tail) where
  there_in : (i : ℕ) → slice_get tail i ≡ slice_get es (p + i)
  there_in i = ap (λ (xs : List Entry). slice_get xs i) (sym behind) ∙ slice_get-drop es p i

  pub none_behind : (n m : ℕ) → m ≤ p + n → NoneMatters q s tail 0 n → NoneMatters q s es p m
  none_behind n m within none k e h l f =
      let place : p + (k - p) ≡ k = omega arith in
      none (k - p) e (omega arith) (omega arith) (there_in (k - p) ∙ (ap (slice_get es) place ∙ f))

  pub first_behind : (n : ℕ) (e : Entry) → IsFirst q s tail 0 n e → IsFirst q s es p (p + n) e
  first_behind n e first = record {
    place = p + first.place;
    number = omega (arith, first.number);
    later = omega arith;
    there = sym (there_in first.place) ∙ first.there;
    hit = first.hit;
    none_before = none_behind first.place (p + first.place) (omega arith) first.none_before;
  }

  pub length_behind : p ≤ length es → p + length tail ≡ length es
  length_behind within = omega (arith, ap length behind, length-drop p es)

-- ---- parts

-- up to one place, and from there up to another
pub between_parts : (p m n : ℕ) (es : List Entry) → p ≤ m → m ≤ n → changes_between p m es + changes_between m n es ≡ changes_between p n es
between_parts p m n es h l =
    let place : p + (m - p) ≡ m = omega (arith, h) in
    let many : m - p + (n - m) ≡ n - p = omega (arith, h, l) in
    let behind : drop (m - p) (drop p es) ≡ drop m es = drop-drop (m - p) p es ∙ ap (λ (k : ℕ). drop k es) place in
    ap (λ (xs : List Entry). changes_between p m es + sum_by (λ (e : Entry). length e.set) (take (n - m) xs)) (sym behind)
    ∙ sym (sum_by-append (λ (e : Entry). length e.set) (take (m - p) (drop p es)) (take (n - m) (drop (m - p) (drop p es))))
    ∙ ap (sum_by (λ (e : Entry). length e.set)) (sym (take-add (m - p) (n - m) (drop p es)))
    ∙ ap (λ k. sum_by (λ (e : Entry). length e.set) (take k (drop p es))) many

-- up to a place, and from there to the end, wherever the place is
pub between_to_end : (p m : ℕ) (es : List Entry) → p ≤ m → changes_between p m es + changes_between m (length es) es ≡ changes_between p (length es) es
between_to_end p m es h = elim (cases_lt m (length es)) [
  | inl less ↦ between_parts p m (length es) es h (omega (arith, less))
  | inr over ↦ omega (arith, between_none m (length es) es over, between_end p m es over)
]
