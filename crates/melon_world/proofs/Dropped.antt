-- Walking a list from a place on.
use Rattle.std.proofs.Common.{◌≡◌, ℕ, zero, suc, ◌+◌, ◌-◌, ◌^◌, min, List, [], ◌∷◌, ◌++◌, drop, length, map, append_assoc, ap, sym, ◌∙◌, arith, ◌<◌, ◌≤◌}
use Rattle.std.specs.Prelude.{Some, slice_get, sum_by}
use Rattle.std.proofs.lemmas.List.{drop_more, drop_all}
use Rattle.std.proofs.lemmas.Option.{get_or_from_slice_get}
use Rattle.std.proofs.lemmas.List.Sums.{sum_by-cons}
use Rattle.melon_raw.specs.declared.raw.Raw.{Raw}
use Rattle.melon_raw.specs.Rows.{Rows}

within_some : {X : Type 0} (xs : List X) (i : ℕ) (x : X) → slice_get xs i ≡ Some x → i < length xs
within_some [] i x h = grind (arith, h)
within_some (y ∷ ys) zero x h = omega arith
within_some (y ∷ ys) (suc i) x h = omega (arith, within_some ys i x h)

pub drop_next : {X : Type 0} (xs : List X) (i : ℕ) (x : X) → slice_get xs i ≡ Some x → drop i xs ≡ x ∷ drop (i + 1) xs
drop_next xs i x h = drop_more xs i x (within_some xs i x h) ∙ ap (λ y. y ∷ drop (i + 1) xs) (get_or_from_slice_get xs i x x h)

pub count_more : (rows : Rows) (i count total : ℕ) (r : List Raw) → slice_get rows i ≡ Some r → min (count + sum_by length (drop i rows)) (2 ^ 64 - 1) ≡ total
    → min (min (count + length r) (2 ^ 64 - 1) + sum_by length (drop (i + 1) rows)) (2 ^ 64 - 1) ≡ total
count_more rows i count total r here h =
    let sums : sum_by length (drop i rows) ≡ length r + sum_by length (drop (i + 1) rows) = ap (sum_by length) (drop_next rows i r here) ∙ sum_by-cons length r (drop (i + 1) rows) in
    omega (arith, sums, h)

-- one more was made of the list
pub map_more : {X Y : Type 0} (f : X → Y) (xs : List X) (i : ℕ) (x : X) (made made' : List Y) (y : Y) (all : List Y) → slice_get xs i ≡ Some x → y ≡ f x → made' ≡ made ++ y ∷ []
    → made ++ map f (drop i xs) ≡ all → made' ++ map f (drop (i + 1) xs) ≡ all
map_more f xs i x made made' y all here is more h =
    ap (λ m. m ++ map f (drop (i + 1) xs)) (more ∙ ap (λ z. made ++ z ∷ []) is)
    ∙ append_assoc made (f x ∷ []) (map f (drop (i + 1) xs))
    ∙ ap (λ ys. made ++ map f ys) (sym (drop_next xs i x here)) ∙ h

pub past_all : {X : Type 0} (xs : List X) (i : ℕ) → length xs ≤ i → drop i xs ≡ []
past_all xs i h = drop_all i xs h
