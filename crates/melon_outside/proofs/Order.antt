-- Lists in the order of their keys stay so.
use Rattle.std.proofs.Common.{◌≡◌, ℕ, Bool, true, false, cond, ◌&&◌, List, [], ◌∷◌, ◌++◌, filter, length, slice_get, Option, Some, None, arith, append_assoc, append-nil, Ordering, Less, Equal, Greater, refl, sym, ap, ap₂, ◌∙◌, subst}
use Rattle.std.specs.List.{AllByRecursion, list_all}
use Rattle.std.specs.Ordering.{ordering_reverse, is_lt}
use Rattle.std.specs.Cmp.{IsTotalOrder}
use Rattle.melon_outside.specs.Ascending.{below, above, with_item, without_key, with_items, without_keys, ascends}

pub and_true : (a b : Bool) → (a && b) ≡ true → (a ≡ true) × (b ≡ true)
and_true true b h = (refl, h)
and_true false b h = cc

falls : (a b : Bool) → a ≡ false → (a && b) ≡ a
falls true b h = cc
falls false b h = refl

less_from : (o : Ordering) → is_lt o ≡ true → o ≡ Less
less_from Less h = refl
less_from Equal h = cc
less_from Greater h = cc

module _ {X : Type 0} where
  all_from : (p : X → Bool) (xs : List X) → list_all p xs ≡ true → AllByRecursion (λ x. p x ≡ true) xs
  all_from p [] h = tt
  all_from p (x ∷ xs) h = let both = and_true (p x) (list_all p xs) h in (both.0, all_from p xs both.1)

  all_to : (p : X → Bool) (xs : List X) → AllByRecursion (λ x. p x ≡ true) xs → list_all p xs ≡ true
  all_to p [] h = refl
  all_to p (x ∷ xs) h = rw h.0 (all_to p xs h.1)

  all_map : (P Q : X → Type 0) → ((x : X) → P x → Q x) → (xs : List X) → AllByRecursion P xs → AllByRecursion Q xs
  all_map P Q f [] h = tt
  all_map P Q f (x ∷ xs) h = (f x h.0, all_map P Q f xs h.1)

  all_append : (P : X → Type 0) (xs ys : List X) → AllByRecursion P xs → AllByRecursion P ys → AllByRecursion P (xs ++ ys)
  all_append P [] ys h k = k
  all_append P (x ∷ xs) ys h k = (h.0, all_append P xs ys h.1 k)

  all_filter : (P : X → Type 0) (p : X → Bool) (xs : List X) → AllByRecursion P xs → AllByRecursion P (filter p xs)
  all_filter P p [] h = tt
  all_filter P p (x ∷ xs) h = elim (p x) as (λ b. AllByRecursion P (cond b (x ∷ filter p xs) (filter p xs))) [ true ↦ (h.0, all_filter P p xs h.1) | false ↦ all_filter P p xs h.1 ]

  all_passed : (p : X → Bool) (xs : List X) → AllByRecursion (λ x. p x ≡ true) (filter p xs)
  all_passed p [] = tt
  all_passed p (x ∷ xs) = go (p x) refl (all_passed p xs)
    where
      go : (b : Bool) → p x ≡ b → AllByRecursion (λ x. p x ≡ true) (filter p xs) → AllByRecursion (λ x. p x ≡ true) (cond b (x ∷ filter p xs) (filter p xs))
      go true h later = (h, later)
      go false h later = later

  all_middle : (P : X → Type 0) (xs : List X) (y : X) (ys : List X) → AllByRecursion P (xs ++ y ∷ ys) → P y
  all_middle P [] y ys h = h.0
  all_middle P (x ∷ xs) y ys h = all_middle P xs y ys h.1

module _ {K X : Type 0} (cmp : K → K → Ordering) (key : X → K) (total : IsTotalOrder cmp) where
  abbrev pub Up : List X → Type 0
  Up [] = Unit {0}
  Up (x ∷ xs) = AllByRecursion (λ y. cmp (key x) (key y) ≡ Less) xs × Up xs

  pub up : (xs : List X) → ascends cmp key xs ≡ true → Up xs
  up [] h = tt
  up (x ∷ xs) h =
      let both = and_true (list_all (λ y. is_lt (cmp (key x) (key y))) xs) (ascends cmp key xs) h in
      (all_map (λ y. is_lt (cmp (key x) (key y)) ≡ true) (λ y. cmp (key x) (key y) ≡ Less) (λ y is. less_from (cmp (key x) (key y)) is) xs (all_from (λ y. is_lt (cmp (key x) (key y))) xs both.0), up xs both.1)

  pub ascends-up : (xs : List X) → Up xs → ascends cmp key xs ≡ true
  ascends-up [] h = refl
  ascends-up (x ∷ xs) h = rw (all_to (λ y. is_lt (cmp (key x) (key y))) xs (all_map (λ y. cmp (key x) (key y) ≡ Less) (λ y. is_lt (cmp (key x) (key y)) ≡ true) (λ y is. ap is_lt is) xs h.0)) (ascends-up xs h.1)

  up_filter : (p : X → Bool) (xs : List X) → Up xs → Up (filter p xs)
  up_filter p [] h = tt
  up_filter p (x ∷ xs) h = elim (p x) as (λ b. Up (cond b (x ∷ filter p xs) (filter p xs))) [ true ↦ (all_filter (λ y. cmp (key x) (key y) ≡ Less) p xs h.0, up_filter p xs h.1) | false ↦ up_filter p xs h.1 ]

  up_append : (xs ys : List X) → Up xs → Up ys → AllByRecursion (λ x. AllByRecursion (λ y. cmp (key x) (key y) ≡ Less) ys) xs → Up (xs ++ ys)
  up_append [] ys h k across = k
  up_append (x ∷ xs) ys h k across = (all_append (λ y. cmp (key x) (key y) ≡ Less) xs ys h.0 across.0, up_append xs ys h.1 k across.1)

  below_passed : (k : K) (xs : List X) → AllByRecursion (λ x. cmp (key x) k ≡ Less) (below cmp key k xs)
  below_passed k xs = all_map (λ x. is_lt (cmp (key x) k) ≡ true) (λ x. cmp (key x) k ≡ Less) (λ x is. less_from (cmp (key x) k) is) _ (all_passed (λ x. is_lt (cmp (key x) k)) xs)

  above_passed : (k : K) (xs : List X) → AllByRecursion (λ x. cmp k (key x) ≡ Less) (above cmp key k xs)
  above_passed k xs = all_map (λ x. is_lt (cmp k (key x)) ≡ true) (λ x. cmp k (key x) ≡ Less) (λ x is. less_from (cmp k (key x)) is) _ (all_passed (λ x. is_lt (cmp k (key x))) xs)

  across : (k : K) (xs : List X) → AllByRecursion (λ x. AllByRecursion (λ y. cmp (key x) (key y) ≡ Less) (above cmp key k xs)) (below cmp key k xs)
  across k xs =
      all_map (λ x. cmp (key x) k ≡ Less) (λ x. AllByRecursion (λ y. cmp (key x) (key y) ≡ Less) (above cmp key k xs))
      (λ x low. all_map (λ y. cmp k (key y) ≡ Less) (λ y. cmp (key x) (key y) ≡ Less) (λ y high. total.trans (key x) k (key y) low high) _ (above_passed k xs)) _ (below_passed k xs)

  pub up_without : (k : K) (xs : List X) → Up xs → Up (without_key cmp key k xs)
  up_without k xs h = up_append _ _ (up_filter _ xs h) (up_filter _ xs h) (across k xs)

  both_all : (P Q : X → Type 0) (xs : List X) → AllByRecursion P xs → AllByRecursion Q xs → AllByRecursion (λ x. P x × Q x) xs
  both_all P Q [] h k = tt
  both_all P Q (x ∷ xs) h k = ((h.0, k.0), both_all P Q xs h.1 k.1)

  pub up_with : (x : X) (xs : List X) → Up xs → Up (with_item cmp key x xs)
  up_with x xs h =
      up_append _ (x ∷ above cmp key (key x) xs) (up_filter _ xs h) (above_passed (key x) xs, up_filter _ xs h)
      (both_all (λ y. cmp (key y) (key x) ≡ Less) (λ y. AllByRecursion (λ z. cmp (key y) (key z) ≡ Less) (above cmp key (key x) xs)) _ (below_passed (key x) xs) (across (key x) xs))

  pub up_withs : (news xs : List X) → Up xs → Up (with_items cmp key news xs)
  up_withs [] xs h = h
  up_withs (new ∷ news) xs h = up_withs news (with_item cmp key new xs) (up_with new xs h)

  pub up_withouts : (ks : List K) (xs : List X) → Up xs → Up (without_keys cmp key ks xs)
  up_withouts [] xs h = h
  up_withouts (k ∷ ks) xs h = up_withouts ks (without_key cmp key k xs) (up_without k xs h)

  -- ---- items that come in order

  below_all : (k : K) (xs : List X) → AllByRecursion (λ x. cmp (key x) k ≡ Less) xs → below cmp key k xs ≡ xs
  below_all k [] h = refl
  below_all k (x ∷ xs) h = rw (ap is_lt h.0) (ap (λ rest. x ∷ rest) (below_all k xs h.1))

  above_none : (k : K) (xs : List X) → AllByRecursion (λ x. cmp (key x) k ≡ Less) xs → above cmp key k xs ≡ []
  above_none k [] h = refl
  above_none k (x ∷ xs) h = rw (ap is_lt (total.antisymm k (key x) ∙ ap ordering_reverse h.0)) (above_none k xs h.1)

  pub with_item-last : (x : X) (xs : List X) → AllByRecursion (λ y. cmp (key y) (key x) ≡ Less) xs → with_item cmp key x xs ≡ xs ++ x ∷ []
  with_item-last x xs h = ap₂ (λ front rest. front ++ x ∷ rest) (below_all (key x) xs h) (above_none (key x) xs h)

  front_below : (xs : List X) (y : X) (ys : List X) → Up (xs ++ y ∷ ys) → AllByRecursion (λ x. cmp (key x) (key y) ≡ Less) xs
  front_below [] y ys h = tt
  front_below (x ∷ xs) y ys h = (all_middle (λ z. cmp (key x) (key z) ≡ Less) xs y ys h.0, front_below xs y ys h.1)

  pub with_items-append : (xs ys : List X) → Up (xs ++ ys) → with_items cmp key ys xs ≡ xs ++ ys
  with_items-append xs [] h = sym (append-nil xs)
  with_items-append xs (y ∷ ys) h =
      let e : (xs ++ y ∷ []) ++ ys ≡ xs ++ y ∷ ys = append_assoc xs (y ∷ []) ys in
      ap (with_items cmp key ys) (with_item-last y xs (front_below xs y ys h)) ∙ with_items-append (xs ++ y ∷ []) ys (subst Up (sym e) h) ∙ e

  pub with_items-nil : (xs : List X) → ascends cmp key xs ≡ true → with_items cmp key xs [] ≡ xs
  with_items-nil xs h = with_items-append [] xs (up xs h)

  -- ---- each below the next

  abbrev pub next_ascends : List X → Bool
  next_ascends [] = true
  next_ascends (x ∷ []) = true
  next_ascends (x ∷ y ∷ ys) = is_lt (cmp (key x) (key y)) && next_ascends (y ∷ ys)

  far_above : (x y : X) (ys : List X) → cmp (key x) (key y) ≡ Less → ascends cmp key (y ∷ ys) ≡ true → list_all (λ z. is_lt (cmp (key x) (key z))) ys ≡ true
  far_above x y ys low h =
      all_to (λ z. is_lt (cmp (key x) (key z))) ys (all_map (λ z. cmp (key y) (key z) ≡ Less) (λ z. is_lt (cmp (key x) (key z)) ≡ true) (λ z above. ap is_lt (total.trans (key x) (key y) (key z) low above)) ys (up (y ∷ ys) h).0)

  both_parts : (low all later : Bool) → (low ≡ true → later ≡ true → all ≡ true) → ((low && all) && later) ≡ (low && later)
  both_parts true true later h = refl
  both_parts true false true h = h refl refl
  both_parts true false false h = refl
  both_parts false all later h = refl

  pub ascends-next : (xs : List X) → ascends cmp key xs ≡ next_ascends xs
  ascends-next [] = refl
  ascends-next (x ∷ []) = refl
  ascends-next (x ∷ y ∷ ys) =
      both_parts (is_lt (cmp (key x) (key y))) (list_all (λ z. is_lt (cmp (key x) (key z))) ys) (ascends cmp key (y ∷ ys)) (λ low later. far_above x y ys (less_from (cmp (key x) (key y)) low) later)
      ∙ ap (λ b. is_lt (cmp (key x) (key y)) && b) (ascends-next (y ∷ ys))

  pub none_ascend : (xs : List X) → length xs ≡ 0 → true ≡ next_ascends xs
  none_ascend [] h = refl
  none_ascend (x ∷ xs) h = absurd (omega (arith, h))

  not_next : (x y : X) (later : List X) → Some y ≡ slice_get later 0 → false ≡ is_lt (cmp (key x) (key y)) → false ≡ next_ascends (x ∷ later)
  not_next x y [] found low = cc
  not_next x y (z ∷ zs) found low = let same : y ≡ z = cc in low ∙ ap (λ w. is_lt (cmp (key x) (key w))) same ∙ sym (falls (is_lt (cmp (key x) (key z))) (next_ascends (z ∷ zs)) (sym (low ∙ ap (λ w. is_lt (cmp (key x) (key w))) same)))

  pub not_below : (xs : List X) (x y : X) (later : List X) → xs ≡ x ∷ later → Some y ≡ slice_get later 0 → false ≡ is_lt (cmp (key x) (key y)) → false ≡ next_ascends xs
  not_below xs x y later is found low = not_next x y later found low ∙ ap next_ascends (sym is)
