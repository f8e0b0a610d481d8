-- Lists that are walked.
use Rattle.std.proofs.Common.{◌≡◌, ℕ, zero, suc, ◌<◌, ◌≤◌, List, [], ◌∷◌, length, get_or, filter, Bool, true, None, slice_get, Result, Ok, Err, OnOk, refl, sym, ap, subst, arith}
use Rattle.std.specs.List.{AllByRecursion}
use Rattle.melon_wire.proofs.KeyOrder.{split}

pub past_end : {X : Type 0} (xs : List X) (i : ℕ) → slice_get xs i ≡ None → length xs ≤ i
past_end [] i h = omega arith
past_end (x ∷ xs) zero h = cc
past_end (x ∷ xs) (suc i) h = let ih : length xs ≤ i = past_end xs i h in omega (arith, ih)

pub all_at : (n : ℕ) (xs : List ℕ) (i x : ℕ) → AllByRecursion (λ k. k < n) xs → i < length xs → x ≡ get_or xs i x → x < n
all_at n [] i x all within is = absurd (omega (arith, within))
all_at n (y ∷ ys) zero x all within is = subst (λ (k : ℕ). k < n) (sym is) all.0
all_at n (y ∷ ys) (suc i) x all within is = all_at n ys i x all.1 (omega (arith, within)) is

pub filter-filter : {X : Type 0} (p q : X → Bool) → ((x : X) → p x ≡ true → q x ≡ true) → (xs : List X) → filter p (filter q xs) ≡ filter p xs
filter-filter p q imp [] = refl
filter-filter p q imp (x ∷ xs) =
    let ih : filter p (filter q xs) ≡ filter p xs = filter-filter p q imp xs in
    split (p x)
    (λ e. rw (imp x e) (rw e (ap (λ rest. x ∷ rest) ih)))
    (λ e. split (q x) (λ f. rw f (rw e ih)) (λ f. rw f (rw e ih)))

pub on_ok : {X E : Type 0} {P Q : Type 0} (r : Result X E) → OnOk r P → (P → Q) → OnOk r Q
on_ok (Ok x) p f = f p
on_ok (Err e) p f = tt
