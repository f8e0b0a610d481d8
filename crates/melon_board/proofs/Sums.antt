-- Sums over the rows of a table: a row put, and a row removed.
use Rattle.std.proofs.Common.{◌≡◌, ℕ, ◌+◌, List, [], ◌∷◌, ◌++◌, filter, find, Bool, true, false, Option, Some, None, bytes_eq, sum_by, refl, ap, sym, ◌∙◌, arith}
use Rattle.std.specs.List.{list_all}
use Rattle.std.proofs.lemmas.List.Sums.{sum_by-cons, sum_by-append}
use Rattle.melon_raw.specs.declared.raw.Raw.{Raw}
use Rattle.melon_raw.specs.Order.{is_below}
use Rattle.melon_raw.specs.Rows.{is_ascending, at_id, below, above, put_row, without_row}
use Rattle.melon_table.proofs.Order.{split, bytes_same, same_bytes, below_asym, below_other, below_apart, above_apart, not_below_self, and_left, and_right}

module _ (f : Raw → ℕ) where
  abbrev pub of_any : Option Raw → ℕ
  of_any None = 0
  of_any (Some row) = f row

  none_above : (id : List ℕ) (rs : List Raw) → list_all (λ x. is_below id x.id) rs ≡ true → at_id id rs ≡ None
  none_above id [] h = refl
  none_above id (x ∷ xs) h =
      let ih : at_id id xs ≡ None = none_above id xs (and_right (is_below id x.id) (list_all (λ x. is_below id x.id) xs) h) in
      rw (above_apart x.id id (and_left (is_below id x.id) (list_all (λ x. is_below id x.id) xs) h)) ih

  abbrev parts : List ℕ → List Raw → ℕ
  parts id rows = (sum_by f (below id rows) + sum_by f (above id rows)) + of_any (at_id id rows)

  low : (id : List ℕ) (r : Raw) (rs : List Raw) → is_below r.id id ≡ true → parts id rs ≡ sum_by f rs → parts id (r ∷ rs) ≡ sum_by f (r ∷ rs)
  low id r rs e ih = rw (e, below_asym r.id id e, below_apart r.id id e) (omega (arith, sum_by-cons f r (below id rs), sum_by-cons f r rs, ih))

  high : (id : List ℕ) (r : Raw) (rs : List Raw) → is_below r.id id ≡ false → is_below id r.id ≡ true → parts id rs ≡ sum_by f rs → parts id (r ∷ rs) ≡ sum_by f (r ∷ rs)
  high id r rs e g ih = rw (e, g, above_apart r.id id g) (omega (arith, sum_by-cons f r (above id rs), sum_by-cons f r rs, ih))

  here : (id : List ℕ) (r : Raw) (rs : List Raw) → r.id ≡ id → at_id id rs ≡ None → parts id rs ≡ sum_by f rs → parts id (r ∷ rs) ≡ sum_by f (r ∷ rs)
  here id r rs same none ih =
      let rest : sum_by f (below id rs) + sum_by f (above id rs) ≡ sum_by f rs = omega (arith, ap of_any none, ih) in
      rw (ap (λ (i : List ℕ). is_below i id) same ∙ not_below_self id, ap (λ (i : List ℕ). is_below id i) same ∙ not_below_self id, bytes_same r.id id same) (omega (arith, sum_by-cons f r rs, rest))

  all_parts : (id : List ℕ) (rows : List Raw) → is_ascending rows ≡ true → parts id rows ≡ sum_by f rows
  all_parts id [] asc = refl
  all_parts id (r ∷ rs) asc =
      let ih : parts id rs ≡ sum_by f rs = all_parts id rs (and_right (list_all (λ x. is_below r.id x.id) rs) (is_ascending rs) asc) in
      let later : list_all (λ x. is_below r.id x.id) rs ≡ true = and_left (list_all (λ x. is_below r.id x.id) rs) (is_ascending rs) asc in
      split (is_below r.id id)
      (λ e. low id r rs e ih)
      (λ e. split (bytes_eq r.id id)
      (λ s. let same : r.id ≡ id = same_bytes r.id id s in here id r rs same (ap (λ (i : List ℕ). at_id i rs) (sym same) ∙ none_above r.id rs later) ih)
      (λ s. high id r rs e (below_other r.id id e s) ih))

  pub sum-without_row : (id : List ℕ) (rows : List Raw) → is_ascending rows ≡ true → sum_by f (without_row id rows) + of_any (at_id id rows) ≡ sum_by f rows
  sum-without_row id rows asc = omega (arith, sum_by-append f (below id rows) (above id rows), all_parts id rows asc)

  pub sum-put_row : (row : Raw) (rows : List Raw) → is_ascending rows ≡ true → sum_by f (put_row row rows) + of_any (at_id row.id rows) ≡ sum_by f rows + f row
  sum-put_row row rows asc = omega (arith, sum_by-append f (below row.id rows) (row ∷ above row.id rows), sum_by-cons f row (above row.id rows), all_parts row.id rows asc)
