-- Lists that are mapped, filtered and walked.
use Rattle.std.proofs.Common.{◌≡◌, ℕ, zero, suc, ◌+◌, ◌-◌, ◌<◌, ◌≤◌, List, [], ◌∷◌, ◌++◌, length, map, filter, take, drop, get_or, Bool, true, false, cond, Option, Some, None, slice_get, refl, sym, ap, ◌∙◌, subst, arith, append_assoc, append-nil}
use Rattle.std.specs.List.{flat_map, range_with_len, list_all, AllByRecursion}
use Rattle.std.proofs.lemmas.Bool.{and_parts, and_from}
use Rattle.melon_wire.proofs.KeyOrder.{split}

pub filter-append : {X : Type 0} (p : X → Bool) (xs ys : List X) → filter p (xs ++ ys) ≡ filter p xs ++ filter p ys
filter-append p [] ys = refl
filter-append p (x ∷ xs) ys = split (p x) (λ e. rw e (ap (λ rest. x ∷ rest) (filter-append p xs ys))) (λ e. rw e (filter-append p xs ys))

-- a filter that drops what another would drop anyway changes nothing
pub filter-filter : {X : Type 0} (p q : X → Bool) → ((x : X) → p x ≡ true → q x ≡ true) → (xs : List X) → filter p (filter q xs) ≡ filter p xs
filter-filter p q imp [] = refl
filter-filter p q imp (x ∷ xs) =
    let ih : filter p (filter q xs) ≡ filter p xs = filter-filter p q imp xs in
    split (p x)
    (λ e. rw (imp x e) (rw e (ap (λ rest. x ∷ rest) ih)))
    (λ e. split (q x) (λ f. rw f (rw e ih)) (λ f. rw f (rw e ih)))

pub flat_map-append : {X A : Type 0} (f : X → List A) (xs ys : List X) → flat_map f (xs ++ ys) ≡ flat_map f xs ++ flat_map f ys
flat_map-append f [] ys = refl
flat_map-append f (x ∷ xs) ys = ap (λ rest. f x ++ rest) (flat_map-append f xs ys) ∙ sym (append_assoc (f x) (flat_map f xs) (flat_map f ys))

-- one place more
pub range_push : (a n : ℕ) → range_with_len a (suc n) ≡ range_with_len a n ++ (a + n) ∷ []
range_push a zero = ap (λ (k : ℕ). k ∷ []) (omega arith)
range_push a (suc n) = ap (λ rest. a ∷ rest) (range_push (a + 1) n ∙ ap (λ (k : ℕ). range_with_len (a + 1) n ++ k ∷ []) (omega arith))

pub flat_map_push : {A : Type 0} (f : ℕ → List A) (n : ℕ) → flat_map f (range_with_len 0 (n + 1)) ≡ flat_map f (range_with_len 0 n) ++ f n
flat_map_push f n =
    let more : n + 1 ≡ suc n = omega arith in
    let last : 0 + n ≡ n = omega arith in
    ap (λ (k : ℕ). flat_map f (range_with_len 0 k)) more
    ∙ (ap (flat_map f) (range_push 0 n ∙ ap (λ (k : ℕ). range_with_len 0 n ++ k ∷ []) last)
    ∙ (flat_map-append f (range_with_len 0 n) (n ∷ []) ∙ ap (λ ys. flat_map f (range_with_len 0 n) ++ ys) (append-nil (f n))))

pub range_front : (i n : ℕ) → i < n → range_with_len i (n - i) ≡ i ∷ range_with_len (i + 1) (n - (i + 1))
range_front i n h = let more : n - i ≡ suc (n - (i + 1)) = omega (arith, h) in ap (range_with_len i) more

-- ---- all of a list

pub all-append : {X : Type 0} (p : X → Bool) (xs ys : List X) → list_all p xs ≡ true → list_all p ys ≡ true → list_all p (xs ++ ys) ≡ true
all-append p [] ys h k = k
all-append p (x ∷ xs) ys h k =
    let parts : (p x ≡ true) × (list_all p xs ≡ true) = and_parts (p x) (list_all p xs) h in
    and_from (p x) (list_all p (xs ++ ys)) parts.0 (all-append p xs ys parts.1 k)

pub all_parts : {X : Type 0} (p : X → Bool) (xs ys : List X) → list_all p (xs ++ ys) ≡ true → (list_all p xs ≡ true) × (list_all p ys ≡ true)
all_parts p [] ys h = (refl, h)
all_parts p (x ∷ xs) ys h =
    let parts : (p x ≡ true) × (list_all p (xs ++ ys) ≡ true) = and_parts (p x) (list_all p (xs ++ ys)) h in
    let ih : (list_all p xs ≡ true) × (list_all p ys ≡ true) = all_parts p xs ys parts.1 in
    (and_from (p x) (list_all p xs) parts.0 ih.0, ih.1)

pub all_flat : {X A : Type 0} (p : A → Bool) (f : X → List A) → ((x : X) → list_all p (f x) ≡ true) → (xs : List X) → list_all p (flat_map f xs) ≡ true
all_flat p f each [] = refl
all_flat p f each (x ∷ xs) = all-append p (f x) (flat_map f xs) (each x) (all_flat p f each xs)

pub each-append : {X : Type 0} (P : X → Type 0) (xs ys : List X) → AllByRecursion P xs → AllByRecursion P ys → AllByRecursion P (xs ++ ys)
each-append P [] ys h k = k
each-append P (x ∷ xs) ys h k = (h.0, each-append P xs ys h.1 k)

-- ---- taken and dropped

pub take_next : {X : Type 0} (xs : List X) (i : ℕ) (x : X) → slice_get xs i ≡ Some x → take (i + 1) xs ≡ take i xs ++ x ∷ []
take_next xs i x h = let more : i + 1 ≡ suc i = omega arith in ap (λ (k : ℕ). take k xs) more ∙ by xs i h
  where
    by : {X : Type 0} (ys : List X) (j : ℕ) {y : X} → slice_get ys j ≡ Some y → take (suc j) ys ≡ take j ys ++ y ∷ []
    by [] j k = cc
    by (z ∷ zs) zero {y} k = let same : z ≡ y = cc in ap (λ w. w ∷ []) same
    by (z ∷ zs) (suc j) k = ap (λ rest. z ∷ rest) (by zs j k)

pub past_end : {X : Type 0} (xs : List X) (i : ℕ) → slice_get xs i ≡ None → length xs ≤ i
past_end [] i h = omega arith
past_end (x ∷ xs) zero h = cc
past_end (x ∷ xs) (suc i) h = let ih : length xs ≤ i = past_end xs i h in omega (arith, ih)
