-- The rows below an id, those above it and the row of the id, from where the id stands.
use Rattle.std.proofs.Common.{◌≡◌, ℕ, zero, suc, ◌≤◌, List, [], ◌∷◌, length, take, drop, find, Bool, true, false, Option, Some, None, slice_get, arith, refl, sym, ap, ◌∙◌, subst}
use Rattle.std.specs.Ordering.{is_lt, ordering_reverse}
use Rattle.std.specs.List.{list_all}
use Rattle.std.proofs.lemmas.Cmp.{nat_list_cmp_total}
use Rattle.std.specs.declared.cmp.Ordering.TheVariants.{Less, Greater}
use Rattle.melon_raw.specs.declared.raw.Raw.{Raw}
use Rattle.melon_raw.specs.Order.{id_cmp, is_below}
use Rattle.melon_raw.specs.Rows.{is_ascending, at_id, below, above}
use Rattle.melon_table.specs.Places.{AllBefore, AllFrom}
use Rattle.melon_table.proofs.Order.{below_asym, bytes_same, below_apart, above_apart, not_below_self, and_left, and_right, filter_none, filter_all}

-- What the rows are on either side of an id, and at it.
pub record Around (id : List ℕ) (rows low high : List Raw) (here : Option Raw) : Type 0 where
  pub lower : below id rows ≡ low
  pub higher : above id rows ≡ high
  pub found : at_id id rows ≡ here

abbrev over : Raw → Raw → Bool
over r x = is_below r.id x.id

-- ---- the first row has the id

find_none : (p : Raw → Bool) (rs : List Raw) → ((i : ℕ) (x : Raw) → slice_get rs i ≡ Some x → p x ≡ false) → find p rs ≡ None
find_none p [] h = refl
find_none p (r ∷ rs) h = rw (h 0 r refl) (find_none p rs (λ i x f. h (suc i) x f))

at_first : (id : List ℕ) (r : Raw) (rs : List Raw) → r.id ≡ id → list_all (over r) rs ≡ true → Around id (r ∷ rs) [] rs (Some r)
at_first id r rs same all =
    let up : (x : Raw) → is_below r.id x.id ≡ true → is_below id x.id ≡ true = λ x h. subst (λ (i : List ℕ). is_below i x.id ≡ true) same h in
    let low : is_below r.id id ≡ false = subst (λ (i : List ℕ). is_below i id ≡ false) (sym same) (not_below_self id) in
    let high : is_below id r.id ≡ false = subst (λ (i : List ℕ). is_below id i ≡ false) (sym same) (not_below_self id) in
    record {
      lower = rw low (filter_none (over r) (λ x. is_below x.id id) rs all (λ x h. below_asym id x.id (up x h)));
      higher = rw high (filter_all (over r) (λ x. is_below id x.id) rs all up);
      found = rw (bytes_same r.id id same) refl;
    }

-- ---- the first row is below the id

later : (id : List ℕ) (r : Raw) (rs low high : List Raw) (here : Option Raw) → is_below r.id id ≡ true → Around id rs low high here → Around id (r ∷ rs) (r ∷ low) high here
later id r rs low high here less rest = record {
  lower = rw less (ap (λ xs. r ∷ xs) rest.lower);
  higher = rw (below_asym r.id id less) rest.higher;
  found = rw (below_apart r.id id less) rest.found;
}

-- the id stands at a place
pub stands : (id : List ℕ) (rows : List Raw) (place : ℕ) (r : Raw) → is_ascending rows ≡ true → slice_get rows place ≡ Some r → r.id ≡ id → Around id rows (take place rows) (drop (suc place) rows) (Some r)
stands id [] place r asc found same = cc
stands id (x ∷ xs) zero r asc found same =
    let first : x ≡ r = cc in
    subst (λ (y : Raw). Around id (x ∷ xs) [] xs (Some y)) first (at_first id x xs (ap (λ (y : Raw). y.id) first ∙ same) (and_left (list_all (over x) xs) _ asc))
stands id (x ∷ xs) (suc place) r asc found same =
    let ih = stands id xs place r (and_right (list_all (over x) xs) _ asc) found same in
    later id x xs (take place xs) (drop (suc place) xs) (Some r) (below_at x xs id place r (and_left (list_all (over x) xs) _ asc) found same) ih
  where
    below_at : (x : Raw) (xs : List Raw) (id : List ℕ) (place : ℕ) (r : Raw) → list_all (over x) xs ≡ true → slice_get xs place ≡ Some r → r.id ≡ id → is_below x.id id ≡ true
    below_at x [] id place r all found same = cc
    below_at x (y ∷ ys) id zero r all found same =
        let first : y ≡ r = cc in subst (λ (i : List ℕ). is_below x.id i ≡ true) (ap (λ (z : Raw). z.id) first ∙ same) (and_left (is_below x.id y.id) _ all)
    below_at x (y ∷ ys) id (suc place) r all found same = below_at x ys id place r (and_right (is_below x.id y.id) _ all) found same

less_is : (a b : List ℕ) → id_cmp a b ≡ Less → is_below a b ≡ true
less_is a b e = ap is_lt e

more_is : (a b : List ℕ) → id_cmp a b ≡ Greater → is_below b a ≡ true
more_is a b e = ap is_lt (nat_list_cmp_total.antisymm b a ∙ ap ordering_reverse e)

-- all rows are above the id
all_above : (id : List ℕ) (rows : List Raw) → AllFrom id rows 0 → Around id rows [] rows None
all_above id [] from = record { lower = refl; higher = refl; found = refl }
all_above id (r ∷ rs) from =
    let ih = all_above id rs (λ i x h f. from (suc i) x (omega arith) f) in
    let high : is_below id r.id ≡ true = more_is r.id id (from 0 r (omega arith) refl) in
    record {
      lower = rw (below_asym id r.id high) ih.lower;
      higher = rw high (ap (λ xs. r ∷ xs) ih.higher);
      found = rw (above_apart r.id id high) ih.found;
    }

-- the id stands nowhere, and would go to a place
pub goes : (id : List ℕ) (rows : List Raw) (place : ℕ) → place ≤ length rows → AllBefore id rows place → AllFrom id rows place → Around id rows (take place rows) (drop place rows) None
goes id rows zero within before from = all_above id rows from
goes id [] (suc place) within before from = absurd (omega arith)
goes id (r ∷ rs) (suc place) within before from =
    later id r rs (take place rs) (drop place rs) None (less_is r.id id (before 0 r (omega arith) refl))
    (goes id rs place (omega arith) (λ i x h f. before (suc i) x (omega arith) f) (λ i x h f. from (suc i) x (omega arith) f))
