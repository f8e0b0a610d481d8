-- Rows that have the same row of each id are the same.
use Rattle.std.proofs.Common.{◌≡◌, ℕ, List, [], ◌∷◌, Bool, true, false, Option, Some, None, bytes_eq, refl, sym, ap, ◌∙◌, subst}
use Rattle.std.specs.List.{list_all}
use Rattle.melon_raw.specs.declared.raw.Raw.{Raw}
use Rattle.melon_raw.specs.Order.{is_below}
use Rattle.melon_raw.specs.Rows.{at_id, is_ascending}
use Rattle.melon_table.proofs.Order.{split, and_left, and_right, bytes_same, same_bytes, below_asym, above_apart}

none_first : (id : List ℕ) (rs : List Raw) → list_all (λ (x : Raw). is_below id x.id) rs ≡ true → at_id id rs ≡ None
none_first id [] above = refl
none_first id (r ∷ rs) above =
    let apart : bytes_eq r.id id ≡ false = above_apart r.id id (and_left (is_below id r.id) _ above) in
    rw apart (none_first id rs (and_right (is_below id r.id) _ above))

above_found : (id : List ℕ) (rs : List Raw) (row : Raw) (low : List ℕ) → list_all (λ (x : Raw). is_below low x.id) rs ≡ true → at_id id rs ≡ Some row → is_below low id ≡ true
above_found id [] row low above found = cc
above_found id (r ∷ rs) row low above found =
    let ih : at_id id rs ≡ Some row → is_below low id ≡ true = above_found id rs row low (and_right (is_below low r.id) _ above) in
    split (bytes_eq r.id id)
    (λ e. subst (λ (i : List ℕ). is_below low i ≡ true) (same_bytes r.id id e) (and_left (is_below low r.id) _ above))
    (λ e. ih (rw e at found))

same_some : (x y : Raw) → Some x ≡ Some y → x ≡ y
same_some x y e = cc

own_first : (x : Raw) (xs : List Raw) → at_id x.id (x ∷ xs) ≡ Some x
own_first x xs = rw (bytes_same x.id x.id refl) refl

module _ (x y : Raw) (xs ys : List Raw) (up : is_ascending (x ∷ xs) ≡ true) (up' : is_ascending (y ∷ ys) ≡ true) (same : (id : List ℕ) → at_id id (x ∷ xs) ≡ at_id id (y ∷ ys)) where
  over_x : list_all (λ (z : Raw). is_below x.id z.id) xs ≡ true
  over_x = and_left (list_all (λ (z : Raw). is_below x.id z.id) xs) (is_ascending xs) up

  over_y : list_all (λ (z : Raw). is_below y.id z.id) ys ≡ true
  over_y = and_left (list_all (λ (z : Raw). is_below y.id z.id) ys) (is_ascending ys) up'

  in_ys : at_id x.id (y ∷ ys) ≡ Some x
  in_ys = sym (same x.id) ∙ own_first x xs

  in_xs : at_id y.id (x ∷ xs) ≡ Some y
  in_xs = same y.id ∙ own_first y ys

  first_same : x ≡ y
  first_same = split (bytes_eq y.id x.id)
      (λ e. sym (same_some y x (rw e at in_ys)))
      (λ e. split (bytes_eq x.id y.id)
      (λ f. same_some x y (rw f at in_xs))
      (λ f.
      let low : is_below y.id x.id ≡ true = above_found x.id ys x y.id over_y (rw e at in_ys) in
      let high : is_below x.id y.id ≡ true = above_found y.id xs y x.id over_x (rw f at in_xs) in
      let no : true ≡ false = sym low ∙ below_asym x.id y.id high in
      cc))

  later_same : (id : List ℕ) → at_id id xs ≡ at_id id ys
  later_same id = split (bytes_eq x.id id)
      (λ e.
      let here : x.id ≡ id = same_bytes x.id id e in
      let there : y.id ≡ id = ap (λ (r : Raw). r.id) (sym first_same) ∙ here in
      none_first id xs (subst (λ (i : List ℕ). list_all (λ (z : Raw). is_below i z.id) xs ≡ true) here over_x)
      ∙ sym (none_first id ys (subst (λ (i : List ℕ). list_all (λ (z : Raw). is_below i z.id) ys ≡ true) there over_y)))
      (λ e.
      let off : bytes_eq y.id id ≡ false = ap (λ (r : Raw). bytes_eq r.id id) (sym first_same) ∙ e in
      rw off at (rw e at (same id)))

pub same_rows : (xs ys : List Raw) → is_ascending xs ≡ true → is_ascending ys ≡ true → ((id : List ℕ) → at_id id xs ≡ at_id id ys) → xs ≡ ys
same_rows [] [] up up' same = refl
same_rows [] (y ∷ ys) up up' same = let no : None ≡ Some y = same y.id ∙ own_first y ys in cc
same_rows (x ∷ xs) [] up up' same = let no : None ≡ Some x = sym (same x.id) ∙ own_first x xs in cc
same_rows (x ∷ xs) (y ∷ ys) up up' same =
    let rest : xs ≡ ys = same_rows xs ys (and_right (list_all (λ (z : Raw). is_below x.id z.id) xs) _ up) (and_right (list_all (λ (z : Raw). is_below y.id z.id) ys) _ up') (later_same x y xs ys up up' same) in
    ap (λ (r : Raw). r ∷ xs) (first_same x y xs ys up up' same) ∙ ap (λ (l : List Raw). y ∷ l) rest
