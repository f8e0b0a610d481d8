-- What a turn of the search keeps.
use Rattle.std.proofs.Common.{◌≡◌, ℕ, zero, suc, ◌+◌, ◌-◌, ◌/◌, ◌<◌, ◌≤◌, ◌^◌, List, [], ◌∷◌, length, Bool, true, Some, slice_get, arith, inl, inr, subst, sym, ap, ◌∙◌}
use native.Mathlib.Numerals.{unary_clauses}
use Rattle.std.proofs.lemmas.Cmp.{nat_list_cmp_total}
use Rattle.std.proofs.lemmas.Bool.{cases_lt}
use Rattle.std.specs.Ordering.{ordering_reverse, is_eq}
use Rattle.std.specs.List.{list_all}
use Rattle.std.proofs.lemmas.Map.Text.{is_eq-slice_cmp}
use Rattle.std.proofs.lemmas.Slice.Eq.{bytes_eq-Decides}
use Rattle.std.specs.declared.cmp.Ordering.{Ordering}
use Rattle.std.specs.declared.cmp.Ordering.TheVariants.{Less, Equal, Greater}
use Rattle.melon_raw.specs.declared.raw.Raw.{Raw}
use Rattle.melon_raw.specs.Order.{id_cmp, is_below}
use Rattle.melon_raw.specs.Rows.{is_ascending}
use Rattle.melon_table.specs.Places.{AllBefore, AllFrom}
use Rattle.melon_table.proofs.Order.{less_from, and_left, and_right}

-- the ids ascend, place by place
abbrev pub AscendsAt : List Raw → Type 0
AscendsAt rows = (i j : ℕ) (r s : Raw) → i < j → slice_get rows i ≡ Some r → slice_get rows j ≡ Some s → id_cmp r.id s.id ≡ Less

all_at : (p : Raw → Bool) (rows : List Raw) (i : ℕ) (r : Raw) → list_all p rows ≡ true → slice_get rows i ≡ Some r → p r ≡ true
all_at p [] i r h found = cc
all_at p (x ∷ xs) zero r h found = let same : x ≡ r = cc in subst (λ (y : Raw). p y ≡ true) same (and_left (p x) _ h)
all_at p (x ∷ xs) (suc i) r h found = all_at p xs i r (and_right (p x) _ h) found

pub ascends_at : (rows : List Raw) → is_ascending rows ≡ true → AscendsAt rows
ascends_at [] h i j r s l e f = cc
ascends_at (x ∷ xs) h i zero r s l e f = absurd (omega arith)
ascends_at (x ∷ xs) h zero (suc j) r s l e f =
    let same : x ≡ r = cc in
    let low : is_below x.id s.id ≡ true = all_at (λ y. is_below x.id y.id) xs j s (and_left (list_all (λ y. is_below x.id y.id) xs) _ h) f in
    subst (λ (y : Raw). id_cmp y.id s.id ≡ Less) same (less_from _ low)
ascends_at (x ∷ xs) h (suc i) (suc j) r s l e f = ascends_at xs (and_right (list_all (λ y. is_below x.id y.id) xs) _ h) i j r s (omega arith) e f

-- what is left of the steps
abbrev pub Left : ℕ → ℕ → ℕ → ℕ → Type 0
Left n start left now = (d : ℕ) → n < 2 ^ d → (e : ℕ) × (left < 2 ^ e) × (now + e ≤ start + d)

pub record Kept (id : List ℕ) (rows : List Raw) (low high start now : ℕ) : Type 0 where
  pub ordered : low ≤ high
  pub within : high ≤ length rows
  pub before : AllBefore id rows low
  pub after : AllFrom id rows high
  pub cost : Left (length rows) start (high - low) now

half : (n k e : ℕ) → 0 < n → n < 2 ^ e → k ≤ n / 2 → (f : ℕ) × (e ≡ f + 1) × (k < 2 ^ f)
half n k zero some h small = absurd (omega arith)
half n k (suc f) some h small = (f, omega arith, let g = simp unary_clauses at h in omega (arith, g, small))

fewer : (n start left left' now : ℕ) → 0 < left → left' ≤ left / 2 → Left n start left now → Left n start left' (now + 1)
fewer n start left left' now some small cost d h =
    let was = cost d h in
    let is = half left left' was.0 some was.1 small in
    (is.0, is.2, omega (arith, was.2, is.1))

-- two rows at one place are one
pub same_row : (rows : List Raw) (i j : ℕ) (r s : Raw) → i ≡ j → slice_get rows i ≡ Some s → slice_get rows j ≡ Some r → s ≡ r
same_row rows i j r s e found here = let both : Some s ≡ Some r = sym found ∙ ap (slice_get rows) e ∙ here in cc

reversed : (o p : Ordering) → o ≡ ordering_reverse p → p ≡ Less → o ≡ Greater
reversed o p e less = e ∙ ap ordering_reverse less

swapped : (a b : List ℕ) → id_cmp a b ≡ Greater → id_cmp b a ≡ Less
swapped a b more = nat_list_cmp_total.antisymm b a ∙ ap ordering_reverse more

module _ (id : List ℕ) (rows : List Raw) (low high start now m : ℕ) (r : Raw) (sorted : AscendsAt rows) (is_open : low < high) (at : m ≡ low + (high - low) / 2) (here : slice_get rows m ≡ Some r) (kept : Kept id rows low high start now) where
  before_more : id_cmp r.id id ≡ Less → AllBefore id rows (m + 1)
  before_more less i s below found = elim (cases_lt i m) [
    | inl first ↦ nat_list_cmp_total.trans s.id r.id id (sorted i m s r first found here) less
    | inr last ↦ subst (λ (t : Raw). id_cmp t.id id ≡ Less) (sym (same_row rows i m r s (omega arith) found here)) less
  ]

  after_more : id_cmp r.id id ≡ Greater → AllFrom id rows m
  after_more more i s from found = elim (cases_lt m i) [
    | inl later ↦ reversed _ _ (nat_list_cmp_total.antisymm s.id id) (nat_list_cmp_total.trans id r.id s.id (swapped r.id id more) (sorted m i r s later here found))
    | inr same ↦ subst (λ (t : Raw). id_cmp t.id id ≡ Greater) (sym (same_row rows i m r s (omega arith) found here)) more
  ]

  pub go_right : id_cmp r.id id ≡ Less → Kept id rows (m + 1) high start (now + 1)
  go_right less = record {
    ordered = omega (arith, at);
    within = kept.within;
    before = before_more less;
    after = kept.after;
    cost = fewer (length rows) start (high - low) (high - (m + 1)) now (omega arith) (omega (arith, at)) kept.cost;
  }

  pub go_left : id_cmp r.id id ≡ Greater → Kept id rows low m start (now + 1)
  go_left more = record {
    ordered = omega (arith, at);
    within = omega (arith, at, kept.within);
    before = kept.before;
    after = after_more more;
    cost = fewer (length rows) start (high - low) (m - low) now (omega arith) (omega (arith, at)) kept.cost;
  }

pub equal_ids : (a b : List ℕ) → id_cmp a b ≡ Equal → a ≡ b
equal_ids a b e = (bytes_eq-Decides a b).0 (sym (is_eq-slice_cmp a b) ∙ ap is_eq e)
