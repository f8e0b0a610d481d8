-- Things put in the order of their names.
use Rattle.std.proofs.Common.{◌≡◌, ℕ, suc, ◌+◌, ◌-◌, ◌<◌, List, [], ◌∷◌, refl, ap, arith, one-add}
use Rattle.std.specs.List.{insert, prefix_len, range_with_len, AllByRecursion}
use Rattle.melon_raw.specs.Order.{is_below}
use Rattle.melon_wire.specs.Sent.{put_by_name, by_name}
use Rattle.melon_wire.proofs.KeyOrder.{split}

module _ {X : Type 0} (name : X → List ℕ) where
  -- a thing is put behind those with names before its own
  pub insert-put : (x : X) (xs : List X) → insert xs (prefix_len (λ y. is_below (name y) (name x)) xs) x ≡ put_by_name name x xs
  insert-put x [] = refl
  insert-put x (y ∷ ys) =
      let ih : insert ys (prefix_len (λ z. is_below (name z) (name x)) ys) x ≡ put_by_name name x ys = insert-put x ys in
      split (is_below (name y) (name x))
      (λ e. rw (e, one-add) (ap (λ rest. y ∷ rest) ih))
      (λ e. rw e refl)

  each_put : (P : X → Type 0) (x : X) (xs : List X) → P x → AllByRecursion P xs → AllByRecursion P (put_by_name name x xs)
  each_put P x [] h all = (h, tt)
  each_put P x (y ∷ ys) h all = let ih : AllByRecursion P (put_by_name name x ys) = each_put P x ys h all.1 in
      split (is_below (name y) (name x)) (λ e. rw e (all.0, ih)) (λ e. rw e (h, all))

  pub each_by_name : (P : X → Type 0) (xs : List X) → AllByRecursion P xs → AllByRecursion P (by_name name xs)
  each_by_name P [] all = tt
  each_by_name P (x ∷ xs) all = each_put P x (by_name name xs) all.0 (each_by_name P xs all.1)

range_front : (i n : ℕ) → i < n → range_with_len i (n - i) ≡ i ∷ range_with_len (i + 1) (n - (i + 1))
range_front i n h = let more : n - i ≡ suc (n - (i + 1)) = omega (arith, h) in ap (range_with_len i) more

-- a place more from the front
pub by_name-front : (name : ℕ → List ℕ) (n i : ℕ) → i < n → by_name name (range_with_len i (n - i)) ≡ put_by_name name i (by_name name (range_with_len (i + 1) (n - (i + 1))))
by_name-front name n i h = ap (by_name name) (range_front i n h)
