-- Lists that ascend by an id: what is found by an id, and that this decides the list.
use Rattle.std.proofs.Common.{◌≡◌, ℕ, List, [], ◌∷◌, Bool, true, false, ◌&&◌, cond, Option, Some, None, option_map, map, filter, find, bytes_eq, refl, sym, ap, ◌∙◌, subst}
use Rattle.std.specs.List.{list_all}
use Rattle.melon_raw.specs.declared.raw.Raw.{Raw}
use Rattle.melon_raw.specs.Order.{is_below}
use Rattle.melon_raw.specs.Rows.{is_ascending, at_id}
use Rattle.melon_table.proofs.Order.{split, bytes_same, same_bytes, above_apart, below_trans, below_other, and_left, and_right, both, all_mono}
use Rattle.melon_query.specs.declared.query.Cond.{Cond}
use Rattle.melon_query.specs.declared.shown.Shown.{Shown}
use Rattle.melon_query.specs.Shown.{shown_row}
use Rattle.melon_views.specs.Members.{chooses, chosen}

pub none_some : {X : Type 0} (x : X) → None ≡ Some x → ⊥
none_some x e = cc

pub some_same : {X : Type 0} (x y : X) → Some x ≡ Some y → x ≡ y
some_same x y e = cc

module _ {X : Type 0} (id_of : X → List ℕ) where
  abbrev pub find_id : List ℕ → List X → Option X
  find_id id xs = find (λ x. bytes_eq (id_of x) id) xs

  abbrev pub ascends : List X → Bool
  ascends [] = true
  ascends (x ∷ xs) = list_all (λ y. is_below (id_of x) (id_of y)) xs && ascends xs

  -- none of those above an id has it
  none_above : (id : List ℕ) (xs : List X) → list_all (λ y. is_below id (id_of y)) xs ≡ true → find_id id xs ≡ None
  none_above id [] all = refl
  none_above id (y ∷ ys) all = rw (above_apart (id_of y) id (and_left (is_below id (id_of y)) _ all)) (none_above id ys (and_right (is_below id (id_of y)) _ all))

  own : (x : X) (xs : List X) → find_id (id_of x) (x ∷ xs) ≡ Some x
  own x xs = rw (bytes_same (id_of x) (id_of x) refl) refl

  skip : (id : List ℕ) (x : X) (xs : List X) → bytes_eq (id_of x) id ≡ false → find_id id (x ∷ xs) ≡ find_id id xs
  skip id x xs e = rw e refl

  first_of_all : (x : X) (xs : List X) → ascends (x ∷ xs) ≡ true → list_all (λ y. is_below (id_of x) (id_of y)) xs ≡ true
  first_of_all x xs p = and_left (list_all (λ y. is_below (id_of x) (id_of y)) xs) (ascends xs) p

  rest : (x : X) (xs : List X) → ascends (x ∷ xs) ≡ true → ascends xs ≡ true
  rest x xs p = and_right (list_all (λ y. is_below (id_of x) (id_of y)) xs) (ascends xs) p

  -- what is below the first has no id of the list
  not_in : (id : List ℕ) (y : X) (ys : List X) → is_below id (id_of y) ≡ true → ascends (y ∷ ys) ≡ true → find_id id (y ∷ ys) ≡ None
  not_in id y ys low p =
      none_above id (y ∷ ys) (both (is_below id (id_of y)) _ low (all_mono (λ z. is_below (id_of y) (id_of z)) (λ z. is_below id (id_of z)) ys (first_of_all y ys p) (λ z h. below_trans id (id_of y) (id_of z) low h)))

  heads : (x y : X) (xs ys : List X) → ascends (x ∷ xs) ≡ true → ascends (y ∷ ys) ≡ true → ((id : List ℕ) → find_id id (x ∷ xs) ≡ find_id id (y ∷ ys)) → x ≡ y
  heads x y xs ys p q h = split (is_below (id_of x) (id_of y))
      (λ low. absurd (none_some x (sym (not_in (id_of x) y ys low q) ∙ (sym (h (id_of x)) ∙ own x xs))))
      (λ high. split (bytes_eq (id_of x) (id_of y))
      (λ same. some_same x y (sym (own x xs) ∙ (h (id_of x) ∙ (ap (λ i. find_id i (y ∷ ys)) (same_bytes (id_of x) (id_of y) same) ∙ own y ys))))
      (λ apart. absurd (none_some y (sym (not_in (id_of y) x xs (below_other (id_of x) (id_of y) high apart) p) ∙ (h (id_of y) ∙ own y ys)))))

  none_after : (id : List ℕ) (x : X) (xs : List X) → ascends (x ∷ xs) ≡ true → id_of x ≡ id → find_id id xs ≡ None
  none_after id x xs p same = none_above id xs (subst (λ (i : List ℕ). list_all (λ y. is_below i (id_of y)) xs ≡ true) same (first_of_all x xs p))

  tails : (x y : X) (xs ys : List X) → ascends (x ∷ xs) ≡ true → ascends (y ∷ ys) ≡ true → x ≡ y → ((id : List ℕ) → find_id id (x ∷ xs) ≡ find_id id (y ∷ ys)) → (id : List ℕ) → find_id id xs ≡ find_id id ys
  tails x y xs ys p q head h id = split (bytes_eq (id_of x) id)
      (λ same.
      let is : id_of x ≡ id = same_bytes (id_of x) id same in
      none_after id x xs p is ∙ sym (none_after id y ys q (sym (ap id_of head) ∙ is)))
      (λ apart. sym (skip id x xs apart) ∙ (h id ∙ skip id y ys (subst (λ (z : X). bytes_eq (id_of z) id ≡ false) head apart)))

  -- two lists that ascend and in which the same is found are one
  pub same_by_ids : (xs ys : List X) → ascends xs ≡ true → ascends ys ≡ true → ((id : List ℕ) → find_id id xs ≡ find_id id ys) → xs ≡ ys
  same_by_ids [] [] p q h = refl
  same_by_ids [] (y ∷ ys) p q h = absurd (none_some y (h (id_of y) ∙ own y ys))
  same_by_ids (x ∷ xs) [] p q h = absurd (none_some x (sym (h (id_of x)) ∙ own x xs))
  same_by_ids (x ∷ xs) (y ∷ ys) p q h =
      let head : x ≡ y = heads x y xs ys p q h in
      let tail : xs ≡ ys = same_by_ids xs ys (rest x xs p) (rest y ys q) (tails x y xs ys p q head h) in
      ap (λ (z : X). z ∷ xs) head ∙ ap (λ (zs : List X). y ∷ zs) tail

-- ---- rows

pub ascends_rows : (rows : List Raw) → ascends (λ (r : Raw). r.id) rows ≡ is_ascending rows
ascends_rows [] = refl
ascends_rows (r ∷ rs) = ap (λ b. list_all (λ (x : Raw). is_below r.id x.id) rs && b) (ascends_rows rs)

-- the row of an id, where it passes
abbrev keep : (Raw → Bool) → Option Raw → Option Raw
keep p None = None
keep p (Some r) = cond (p r) (Some r) None

keep_is : (conds : List Cond) (o : Option Raw) → keep (chooses conds) o ≡ chosen conds o
keep_is conds None = refl
keep_is conds (Some r) = refl

kept_step : (p : Raw → Bool) (id : List ℕ) (x : Raw) (xs : List Raw) (b c : Bool) → p x ≡ b → bytes_eq x.id id ≡ c
    → at_id id (filter p xs) ≡ keep p (at_id id xs) → (x.id ≡ id → at_id id xs ≡ None)
    → at_id id (cond b (x ∷ filter p xs) (filter p xs)) ≡ keep p (cond c (Some x) (at_id id xs))
kept_step p id x xs true true f e ih none = ap (λ t. cond t (Some x) (at_id id (filter p xs))) e ∙ sym (ap (λ t. cond t (Some x) None) f)
kept_step p id x xs false true f e ih none = ih ∙ (ap (keep p) (none (same_bytes x.id id e)) ∙ sym (ap (λ t. cond t (Some x) None) f))
kept_step p id x xs true false f e ih none = ap (λ t. cond t (Some x) (at_id id (filter p xs))) e ∙ ih
kept_step p id x xs false false f e ih none = ih

at_kept : (p : Raw → Bool) (id : List ℕ) (rows : List Raw) → is_ascending rows ≡ true → at_id id (filter p rows) ≡ keep p (at_id id rows)
at_kept p id [] asc = refl
at_kept p id (x ∷ xs) asc = kept_step p id x xs (p x) (bytes_eq x.id id) refl refl
    (at_kept p id xs (and_right (list_all (λ (y : Raw). is_below x.id y.id) xs) _ asc))
    (none_after (λ (r : Raw). r.id) id x xs (ascends_rows (x ∷ xs) ∙ asc))

-- of rows that ascend, what is found among those that are chosen
pub at_chosen : (conds : List Cond) (id : List ℕ) (rows : List Raw) → is_ascending rows ≡ true → at_id id (filter (chooses conds) rows) ≡ chosen conds (at_id id rows)
at_chosen conds id rows asc = at_kept (chooses conds) id rows asc ∙ keep_is conds (at_id id rows)

-- ---- shown rows

abbrev pub find_shown : List ℕ → List Shown → Option Shown
find_shown id ms = find_id (λ (m : Shown). m.id) id ms

shown_step : (columns : List ℕ) (id : List ℕ) (x : Raw) (found : Option Raw) (shown : Option Shown) (c : Bool) → shown ≡ option_map (shown_row columns) found
    → cond c (Some (shown_row columns x)) shown ≡ option_map (shown_row columns) (cond c (Some x) found)
shown_step columns id x found shown true h = refl
shown_step columns id x found shown false h = h

pub find_shown_row : (columns : List ℕ) (id : List ℕ) (rows : List Raw) → find_shown id (map (shown_row columns) rows) ≡ option_map (shown_row columns) (at_id id rows)
find_shown_row columns id [] = refl
find_shown_row columns id (x ∷ xs) = shown_step columns id x (at_id id xs) (find_shown id (map (shown_row columns) xs)) (bytes_eq x.id id) (find_shown_row columns id xs)

above_shown : (columns : List ℕ) (id : List ℕ) (rows : List Raw) → list_all (λ (m : Shown). is_below id m.id) (map (shown_row columns) rows) ≡ list_all (λ (r : Raw). is_below id r.id) rows
above_shown columns id [] = refl
above_shown columns id (x ∷ xs) = ap (λ b. is_below id x.id && b) (above_shown columns id xs)

pub ascends_shown : (columns : List ℕ) (rows : List Raw) → ascends (λ (m : Shown). m.id) (map (shown_row columns) rows) ≡ is_ascending rows
ascends_shown columns [] = refl
ascends_shown columns (x ∷ xs) =
    ap (λ b. b && ascends (λ (m : Shown). m.id) (map (shown_row columns) xs)) (above_shown columns x.id xs)
    ∙ ap (λ b. list_all (λ (r : Raw). is_below x.id r.id) xs && b) (ascends_shown columns xs)
