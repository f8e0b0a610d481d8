-- How many rows that aren't synced stand below an id, or before a place.
use Rattle.std.proofs.Common.{◌≡◌, ℕ, zero, suc, ◌+◌, ◌<◌, ◌≤◌, List, [], ◌∷◌, length, take, filter, Bool, true, false, Some, slice_get, refl, sym, ap, subst, ◌∙◌, inl, inr, arith}
use Rattle.std.proofs.lemmas.Bool.{cases_lt}
use Rattle.std.proofs.lemmas.Cmp.{nat_list_cmp_total}
use Rattle.std.specs.Ordering.{is_lt}
use Rattle.std.specs.List.{list_all}
use Rattle.melon_raw.specs.declared.raw.Raw.{Raw}
use Rattle.melon_raw.specs.Order.{is_below}
use Rattle.melon_raw.specs.Rows.{is_ascending, below}
use Rattle.melon_table.specs.Dirty.{is_dirty, dirty_rows}
use Rattle.melon_table.proofs.Order.{split, less_from, and_left, and_right, both}
use Rattle.melon_table.proofs.Halving.{AscendsAt, ascends_at, same_row}

-- ---- some of the rows ascend where all do

module _ (p : Raw → Bool) where
  all_some : (q : Raw → Bool) (rows : List Raw) → list_all q rows ≡ true → list_all q (filter p rows) ≡ true
  all_some q [] all = refl
  all_some q (r ∷ rs) all =
      let ih = all_some q rs (and_right (q r) _ all) in
      split (p r)
      (λ e. rw e (both _ _ (and_left (q r) _ all) ih))
      (λ e. rw e ih)

  some_ascend : (rows : List Raw) → is_ascending rows ≡ true → is_ascending (filter p rows) ≡ true
  some_ascend [] up = refl
  some_ascend (r ∷ rs) up =
      let over = all_some (λ x. is_below r.id x.id) rs (and_left (list_all (λ x. is_below r.id x.id) rs) _ up) in
      let ih = some_ascend rs (and_right (list_all (λ x. is_below r.id x.id) rs) _ up) in
      split (p r)
      (λ e. rw e (both _ _ over ih))
      (λ e. rw e ih)

  some_few : (rows : List Raw) → length (filter p rows) ≤ length rows
  some_few [] = omega arith
  some_few (r ∷ rs) =
      let ih = some_few rs in
      split (p r)
      (λ e. rw e (omega (arith, ih)))
      (λ e. rw e (omega (arith, ih)))

  -- where all pass, all of those before a place pass
  pub all_pass : (rows : List Raw) (place : ℕ) → length (filter p rows) ≡ length rows → length (filter p (take place rows)) ≡ length (take place rows)
  all_pass rows zero all = refl
  all_pass [] (suc place) all = refl
  all_pass (r ∷ rs) (suc place) all =
      let few = some_few rs in
      let ih : length (filter p rs) ≡ length rs → length (filter p (take place rs)) ≡ length (take place rs) = all_pass rs place in
      split (p r)
      (λ e. rw e (ap suc (ih (let h = rw e at all in omega (arith, h)))))
      (λ e. absurd (let h = rw e at all in omega (arith, h, few)))

  swapped : (q : Raw → Bool) (rows : List Raw) → filter q (filter p rows) ≡ filter p (filter q rows)
  swapped q [] = refl
  swapped q (r ∷ rs) =
      let ih = swapped q rs in
      split (p r)
      (λ e. split (q r)
      (λ f. rw e (rw f (rw e (ap (λ (l : List Raw). r ∷ l) ih))))
      (λ f. rw e (rw f ih)))
      (λ e. split (q r)
      (λ f. rw e (rw f (rw e ih)))
      (λ f. rw e (rw f ih)))

pub dirty_ascend : (rows : List Raw) → is_ascending rows ≡ true → AscendsAt (dirty_rows rows)
dirty_ascend rows up = ascends_at (dirty_rows rows) (some_ascend (λ r. is_dirty r.status) rows up)

pub below_dirty : (id : List ℕ) (rows : List Raw) → below id (dirty_rows rows) ≡ dirty_rows (below id rows)
below_dirty id rows = swapped (λ r. is_dirty r.status) (λ r. is_below r.id id) rows

-- ---- the search

pub record Cut (id : List ℕ) (rows : List Raw) (low high : ℕ) : Type 0 where
  pub ordered : low ≤ high
  pub within : high ≤ length rows
  pub before : (i : ℕ) (r : Raw) → i < low → slice_get rows i ≡ Some r → is_below r.id id ≡ true
  pub from : (i : ℕ) (r : Raw) → high ≤ i → slice_get rows i ≡ Some r → is_below r.id id ≡ false

module _ (id : List ℕ) (rows : List Raw) (low high m : ℕ) (r : Raw) (sorted : AscendsAt rows) (here : slice_get rows m ≡ Some r) (cut : Cut id rows low high) where
  pub cut_right : is_below r.id id ≡ true → m < high → Cut id rows (m + 1) high
  cut_right less under = record {
    ordered = omega arith;
    within = cut.within;
    before = λ i s low found. elim (cases_lt i m) [
      | inl first ↦ ap is_lt (nat_list_cmp_total.trans s.id r.id id (sorted i m s r first found here) (less_from _ less))
      | inr last ↦ subst (λ (t : Raw). is_below t.id id ≡ true) (sym (same_row rows i m r s (omega (arith, low, last)) found here)) less
    ];
    from = cut.from;
  }

  pub cut_left : is_below r.id id ≡ false → low ≤ m → m < high → Cut id rows low m
  cut_left more over under = record {
    ordered = over;
    within = omega (arith, under, cut.within);
    before = cut.before;
    from = λ i s high found. elim (cases_lt m i) [
      | inl later ↦ split (is_below s.id id)
          (λ e.
          let no : true ≡ false = sym (ap is_lt (nat_list_cmp_total.trans r.id s.id id (sorted m i r s later here found) (less_from _ e))) ∙ more in
          cc)
          (λ e. e)
      | inr same ↦ subst (λ (t : Raw). is_below t.id id ≡ false) (sym (same_row rows i m r s (omega (arith, high, same)) found here)) more
    ];
  }

pub below_count : (id : List ℕ) (rows : List Raw) (n : ℕ) → n ≤ length rows → ((i : ℕ) (r : Raw) → i < n → slice_get rows i ≡ Some r → is_below r.id id ≡ true) → ((i : ℕ) (r : Raw) → n ≤ i → slice_get rows i ≡ Some r → is_below r.id id ≡ false) → length (below id rows) ≡ n
below_count id [] zero within before from = refl
below_count id [] (suc n) within before from = absurd (omega arith)
below_count id (r ∷ rs) zero within before from =
    let e : is_below r.id id ≡ false = from 0 r (omega arith) refl in
    rw e (below_count id rs 0 (omega arith) (λ i s low found. absurd (omega (arith, low))) (λ i s high found. from (suc i) s (omega arith) found))
below_count id (r ∷ rs) (suc n) within before from =
    let e : is_below r.id id ≡ true = before 0 r (omega arith) refl in
    rw e (ap suc (below_count id rs n (omega arith) (λ i s low found. before (suc i) s (omega (arith, low)) found) (λ i s high found. from (suc i) s (omega (arith, high)) found)))
