-- Things put in the order of their names.
use Rattle.std.proofs.Common.{◌≡◌, ℕ, ◌+◌, ◌-◌, ◌<◌, ◌≤◌, List, [], ◌∷◌, ◌++◌, length, map, find, Bool, true, false, cond, ◌||◌, Option, Some, None, refl, sym, ap, ◌∙◌, subst, arith, one-add}
use Rattle.std.specs.List.{insert, prefix_len, range_with_len, list_any, AllByRecursion}
use Rattle.melon_raw.specs.Order.{is_below}
use Rattle.melon_wire.specs.Sent.{put_by_name, by_name}
use Rattle.melon_wire.proofs.KeyOrder.{split}
use Rattle.melon_push.proofs.Lists.{range_front}

module _ {X : Type 0} (name : X → List ℕ) where
  -- a thing is put behind those with names before its own
  pub insert-put : (x : X) (xs : List X) → insert xs (prefix_len (λ y. is_below (name y) (name x)) xs) x ≡ put_by_name name x xs
  insert-put x [] = refl
  insert-put x (y ∷ ys) =
      let ih : insert ys (prefix_len (λ z. is_below (name z) (name x)) ys) x ≡ put_by_name name x ys = insert-put x ys in
      split (is_below (name y) (name x))
      (λ e. rw (e, one-add) (ap (λ rest. y ∷ rest) ih))
      (λ e. rw e refl)

  -- ---- what is among them

  any_put : (p : X → Bool) (x : X) (xs : List X) → list_any p (put_by_name name x xs) ≡ (p x || list_any p xs)
  any_put p x [] = refl
  any_put p x (y ∷ ys) =
      let ih : list_any p (put_by_name name x ys) ≡ (p x || list_any p ys) = any_put p x ys in
      split (is_below (name y) (name x)) (λ e. rw e (rw ih (swapped (p y) (p x) (list_any p ys)))) (λ e. rw e refl)
    where
      swapped : (a b c : Bool) → (a || (b || c)) ≡ (b || (a || c))
      swapped true true c = refl
      swapped true false c = refl
      swapped false b c = refl

  pub any_by_name : (p : X → Bool) (xs : List X) → list_any p (by_name name xs) ≡ list_any p xs
  any_by_name p [] = refl
  any_by_name p (x ∷ xs) = any_put p x (by_name name xs) ∙ ap (λ b. p x || b) (any_by_name p xs)

  each_put : (P : X → Type 0) (x : X) (xs : List X) → P x → AllByRecursion P xs → AllByRecursion P (put_by_name name x xs)
  each_put P x [] h all = (h, tt)
  each_put P x (y ∷ ys) h all = let ih : AllByRecursion P (put_by_name name x ys) = each_put P x ys h all.1 in
      split (is_below (name y) (name x)) (λ e. rw e (all.0, ih)) (λ e. rw e (h, all))

  pub each_by_name : (P : X → Type 0) (xs : List X) → AllByRecursion P xs → AllByRecursion P (by_name name xs)
  each_by_name P [] all = tt
  each_by_name P (x ∷ xs) all = each_put P x (by_name name xs) all.0 (each_by_name P xs all.1)

-- where all that pass a test are one, the first that passes is that one
pub find_only : {X : Type 0} (p : X → Bool) (v : X) (xs : List X) → AllByRecursion (λ x. p x ≡ true → x ≡ v) xs → find p xs ≡ cond (list_any p xs) (Some v) None
find_only p v [] all = refl
find_only p v (x ∷ xs) all = let ih : find p xs ≡ cond (list_any p xs) (Some v) None = find_only p v xs all.1 in
    split (p x) (λ e. rw e (ap Some (all.0 e))) (λ e. rw e ih)

-- ---- of what is made of them

module _ {X Y : Type 0} (name : Y → List ℕ) (f : X → Y) where
  put-map : (x : X) (xs : List X) → put_by_name name (f x) (map f xs) ≡ map f (put_by_name (λ y. name (f y)) x xs)
  put-map x [] = refl
  put-map x (y ∷ ys) = let ih : put_by_name name (f x) (map f ys) ≡ map f (put_by_name (λ z. name (f z)) x ys) = put-map x ys in
      split (is_below (name (f y)) (name (f x))) (λ e. rw e (ap (λ rest. f y ∷ rest) ih)) (λ e. rw e refl)

  pub by_name-map : (xs : List X) → by_name name (map f xs) ≡ map f (by_name (λ y. name (f y)) xs)
  by_name-map [] = refl
  by_name-map (x ∷ xs) = ap (put_by_name name (f x)) (by_name-map xs) ∙ put-map x (by_name (λ y. name (f y)) xs)

-- a place more from the front
pub by_name-front : (name : ℕ → List ℕ) (n i : ℕ) → i < n → by_name name (range_with_len i (n - i)) ≡ put_by_name name i (by_name name (range_with_len (i + 1) (n - (i + 1))))
by_name-front name n i h = ap (by_name name) (range_front i n h)
