-- The element at hand in a loop over a list.
use Rattle.std.proofs.Common.{◌≡◌, ℕ, ◌+◌, ◌<◌, suc, List, [], ◌∷◌, ◌++◌, length, get_or, take, drop, add-one, drop-cons, Some, slice_get, ap, sym, ◌∙◌}
use Rattle.std.proofs.lemmas.List.{take_more}
use Rattle.std.proofs.lemmas.Option.{get_or_from_slice_get, slice_get_within}

module _ {X : Type 0} (xs : List X) (i : ℕ) (x : X) (here : i < length xs) (is : x ≡ get_or xs i x) where
  pub taken : take (i + 1) xs ≡ take i xs ++ x ∷ []
  taken = take_more xs i x here ∙ ap (λ (y : X). take i xs ++ y ∷ []) (sym is)

  pub splits : drop i xs ≡ x ∷ drop (i + 1) xs
  splits = drop-cons xs i x here ∙ ap (λ (y : X). y ∷ drop (suc i) xs) (sym is) ∙ ap (λ n. x ∷ drop n xs) (sym (add-one i))

-- the element that was read at a place
pub taken_at : {X : Type 0} (xs : List X) (i : ℕ) (x : X) → slice_get xs i ≡ Some x → take (i + 1) xs ≡ take i xs ++ x ∷ []
taken_at xs i x e = taken xs i x (slice_get_within xs i x e) (sym (get_or_from_slice_get xs i x x e))

pub splits_at : {X : Type 0} (xs : List X) (i : ℕ) (x : X) → slice_get xs i ≡ Some x → drop i xs ≡ x ∷ drop (i + 1) xs
splits_at xs i x e = splits xs i x (slice_get_within xs i x e) (sym (get_or_from_slice_get xs i x x e))
