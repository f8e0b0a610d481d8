-- The item of a key, after an item was put in its place.
use Rattle.std.proofs.Common.{◌≡◌, List, [], ◌∷◌, ◌++◌, filter, find, Bool, true, false, cond, Option, Some, None, Ordering, Less, Equal, Greater, refl, sym, ap, ◌∙◌, subst}
use Rattle.std.specs.Ordering.{ordering_reverse, is_lt, is_eq}
use Rattle.std.specs.Cmp.{IsTotalOrder}
use Rattle.std.specs.List.{list_all}
use Rattle.std.proofs.lemmas.Bool.{and_parts, both_ways}
use Rattle.melon_wire.proofs.KeyOrder.{split}
use Rattle.melon_outside.specs.Ascending.{below, above, with_item, ascends}

some_none : {X : Type 0} (x : X) → Some x ≡ None → ⊥
some_none x e = cc

-- ---- among items one after another

module _ {X : Type 0} (p : X → Bool) where
  find_append : (xs ys : List X) → find p xs ≡ None → find p (xs ++ ys) ≡ find p ys
  find_append [] ys h = refl
  find_append (x ∷ xs) ys h =
      let ih : find p xs ≡ None → find p (xs ++ ys) ≡ find p ys = find_append xs ys in
      split (p x) (λ e. absurd (some_none x (sym (rw e refl) ∙ h))) (λ e. rw e (ih (rw e at h)))

  find_front : (xs ys : List X) → find p ys ≡ None → find p (xs ++ ys) ≡ find p xs
  find_front [] ys h = h
  find_front (x ∷ xs) ys h =
      let ih : find p (xs ++ ys) ≡ find p xs = find_front xs ys h in
      split (p x) (λ e. rw e refl) (λ e. rw e ih)

  find_kept : (q : X → Bool) (xs : List X) → ((x : X) → p x ≡ true → q x ≡ true) → find p (filter q xs) ≡ find p xs
  find_kept q [] keeps = refl
  find_kept q (x ∷ xs) keeps =
      let ih : find p (filter q xs) ≡ find p xs = find_kept q xs keeps in
      split (p x)
      (λ e. rw (keeps x e) (rw e refl))
      (λ e. split (q x) (λ f. rw f (rw e ih)) (λ f. rw f (rw e ih)))

  find_dropped : (q : X → Bool) (xs : List X) → ((x : X) → p x ≡ true → q x ≡ false) → find p (filter q xs) ≡ None
  find_dropped q [] drops = refl
  find_dropped q (x ∷ xs) drops =
      let ih : find p (filter q xs) ≡ None = find_dropped q xs drops in
      split (q x)
      (λ f. rw f (split (p x) (λ e. absurd (both_ways (q x) (drops x e) f)) (λ e. rw e ih)))
      (λ f. rw f ih)

-- ---- in the order of keys

not_less : (o : Ordering) → o ≡ ordering_reverse o → is_lt o ≡ false
not_less Less h = cc
not_less Equal h = refl
not_less Greater h = cc

is_equal : (o : Ordering) → o ≡ ordering_reverse o → is_eq o ≡ true
is_equal Less h = cc
is_equal Equal h = refl
is_equal Greater h = cc

not_above : (o : Ordering) → is_lt o ≡ true → is_lt (ordering_reverse o) ≡ false
not_above Less h = refl
not_above Equal h = cc
not_above Greater h = cc

or_above : (o : Ordering) → is_lt o ≡ false → is_eq o ≡ false → is_lt (ordering_reverse o) ≡ true
or_above Less low same = cc
or_above Equal low same = cc
or_above Greater low same = refl

not_equal : (o : Ordering) → is_lt (ordering_reverse o) ≡ true → is_eq o ≡ false
not_equal Less h = cc
not_equal Equal h = cc
not_equal Greater h = refl

module _ {K X : Type 0} (cmp : K → K → Ordering) (key : X → K) (total : IsTotalOrder cmp) (same : K → K → Bool) (same_is : (a b : K) → is_eq (cmp a b) ≡ same a b) (same_path : (a b : K) → same a b ≡ true → a ≡ b) where
  abbrev pub item_of : K → List X → Option X
  item_of k xs = find (λ x. same (key x) k) xs

  pub same_refl : (k : K) → same k k ≡ true
  same_refl k = sym (same_is k k) ∙ is_equal (cmp k k) (total.antisymm k k)

  self_below : (k : K) → is_lt (cmp k k) ≡ false
  self_below k = not_less (cmp k k) (total.antisymm k k)

  reversed : (a b : K) → is_lt (ordering_reverse (cmp a b)) ≡ is_lt (cmp b a)
  reversed a b = ap is_lt (sym (total.antisymm b a))

  below_keeps : (gone k : K) (xs : List X) → is_lt (cmp k gone) ≡ true → item_of k (below cmp key gone xs) ≡ item_of k xs
  below_keeps gone k xs l = find_kept (λ x. same (key x) k) (λ x. is_lt (cmp (key x) gone)) xs (λ x e. ap (λ (i : K). is_lt (cmp i gone)) (same_path (key x) k e) ∙ l)

  below_drops : (gone k : K) (xs : List X) → is_lt (cmp k gone) ≡ false → item_of k (below cmp key gone xs) ≡ None
  below_drops gone k xs l = find_dropped (λ x. same (key x) k) (λ x. is_lt (cmp (key x) gone)) xs (λ x e. ap (λ (i : K). is_lt (cmp i gone)) (same_path (key x) k e) ∙ l)

  above_keeps : (gone k : K) (xs : List X) → is_lt (cmp gone k) ≡ true → item_of k (above cmp key gone xs) ≡ item_of k xs
  above_keeps gone k xs l = find_kept (λ x. same (key x) k) (λ x. is_lt (cmp gone (key x))) xs (λ x e. ap (λ (i : K). is_lt (cmp gone i)) (same_path (key x) k e) ∙ l)

  above_drops : (gone k : K) (xs : List X) → is_lt (cmp gone k) ≡ false → item_of k (above cmp key gone xs) ≡ None
  above_drops gone k xs l = find_dropped (λ x. same (key x) k) (λ x. is_lt (cmp gone (key x))) xs (λ x e. ap (λ (i : K). is_lt (cmp gone i)) (same_path (key x) k e) ∙ l)

  asym : (a b : K) → is_lt (cmp a b) ≡ true → is_lt (cmp b a) ≡ false
  asym a b l = sym (reversed a b) ∙ not_above (cmp a b) l

  apart_of : (a b : K) → same a b ≡ false → same b a ≡ false
  apart_of a b off = split (same b a) (λ e. absurd (both_ways (same a b) off (subst (λ (i : K). same i b ≡ true) (same_path b a e) (same_refl b)))) (λ e. e)

  other_side : (k gone : K) → is_lt (cmp k gone) ≡ false → same gone k ≡ false → is_lt (cmp gone k) ≡ true
  other_side k gone l off = sym (reversed k gone) ∙ or_above (cmp k gone) l (same_is k gone ∙ apart_of gone k off)

  -- ---- one put in

  with_same : (x : X) (xs : List X) → item_of (key x) (with_item cmp key x xs) ≡ Some x
  with_same x xs =
      find_append (λ y. same (key y) (key x)) (below cmp key (key x) xs) (x ∷ above cmp key (key x) xs) (below_drops (key x) (key x) xs (self_below (key x)))
      ∙ rw (same_refl (key x)) refl

  skip : (x : X) (k : K) (xs : List X) (b : Option X) → same (key x) k ≡ false → item_of k xs ≡ b → item_of k (x ∷ xs) ≡ b
  skip x k xs b off e = rw off e

  with_other : (x : X) (k : K) (xs : List X) → same (key x) k ≡ false → item_of k (with_item cmp key x xs) ≡ item_of k xs
  with_other x k xs off = split (is_lt (cmp k (key x)))
      (λ l.
      find_front (λ y. same (key y) k) (below cmp key (key x) xs) (x ∷ above cmp key (key x) xs) (skip x k (above cmp key (key x) xs) None off (above_drops (key x) k xs (asym k (key x) l)))
      ∙ below_keeps (key x) k xs l)
      (λ l.
      find_append (λ y. same (key y) k) (below cmp key (key x) xs) (x ∷ above cmp key (key x) xs) (below_drops (key x) k xs l)
      ∙ skip x k (above cmp key (key x) xs) (item_of k xs) off (above_keeps (key x) k xs (other_side k (key x) l off)))

  pub item_of-with_item : (x : X) (k : K) (xs : List X) → item_of k (with_item cmp key x xs) ≡ cond (same (key x) k) (Some x) (item_of k xs)
  item_of-with_item x k xs = split (same (key x) k)
      (λ e. rw e (subst (λ (i : K). item_of i (with_item cmp key x xs) ≡ Some x) (same_path (key x) k e) (with_same x xs)))
      (λ e. rw e (with_other x k xs e))

  -- ---- keys that ascend

  none_later : (k : K) (xs : List X) → list_all (λ y. is_lt (cmp k (key y))) xs ≡ true → item_of k xs ≡ None
  none_later k [] all = refl
  none_later k (y ∷ ys) all =
      let here : is_lt (cmp k (key y)) ≡ true = (and_parts (is_lt (cmp k (key y))) (list_all (λ z. is_lt (cmp k (key z))) ys) all).0 in
      let off : same (key y) k ≡ false = sym (same_is (key y) k) ∙ not_equal (cmp (key y) k) (reversed (key y) k ∙ here) in
      let rest : list_all (λ z. is_lt (cmp k (key z))) ys ≡ true = rw here at all in
      rw off (none_later k ys rest)

  -- no later item has the key of the first
  pub first_once : (x : X) (xs : List X) → ascends cmp key (x ∷ xs) ≡ true → item_of (key x) xs ≡ None
  first_once x xs up = none_later (key x) xs (and_parts (list_all (λ y. is_lt (cmp (key x) (key y))) xs) (ascends cmp key xs) up).0
