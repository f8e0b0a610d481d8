-- One record more among those that are named.
use Rattle.std.proofs.Common.{◌≡◌, ◌≢◌, ℕ, zero, suc, [], ◌∷◌, ◌<◌, ◌==◌, Bool, true, false, not, ◌||◌, ◌&&◌, cond, List, length, set, Option, Some, None, slice_get, bytes_eq, String, Global, string_bytes, refl, sym, ap, ◌∙◌, subst, arith, eqb}
use Rattle.std.specs.HashSet as bag
use Rattle.std.proofs.lemmas.Bool.Decides.{Decides-eqb, not_from_Decides}
use Rattle.std.proofs.lemmas.Option.{slice_get_within}
use Rattle.melon_raw.specs.Rows.{Key, is_key}
use Rattle.melon_table.proofs.Order.{split, bytes_same, bytes_apart, same_bytes}
use Rattle.melon_change.specs.Named.{Ids, has_id, is_named, NamesAlso}
use Rattle.melon_change.specs.Changes.{key}

bytes_turned : (a b : List ℕ) → bytes_eq a b ≡ bytes_eq b a
bytes_turned a b = split (bytes_eq a b)
    (λ e. e ∙ sym (bytes_same b a (sym (same_bytes a b e))))
    (λ e. e ∙ sym (bytes_apart b a (λ f. both_ways (bytes_same a b (sym f)) e)))
  where
    both_ways : bytes_eq a b ≡ true → bytes_eq a b ≡ false → ⊥
    both_ways p q = let no : true ≡ false = sym p ∙ q in cc

cond_or : (a b : Bool) → cond a true b ≡ (a || b)
cond_or true b = refl
cond_or false b = refl

slice_get-set_same : {X : Type 0} (xs : List X) (i : ℕ) (x : X) → i < length xs → slice_get (set xs i x) i ≡ Some x
slice_get-set_same [] i x h = absurd (omega (arith, h))
slice_get-set_same (y ∷ ys) zero x h = refl
slice_get-set_same (y ∷ ys) (suc i) x h = slice_get-set_same ys i x (omega (arith, h))

slice_get-set_other : {X : Type 0} (xs : List X) (i j : ℕ) (x : X) → j ≢ i → slice_get (set xs i x) j ≡ slice_get xs j
slice_get-set_other [] i j x h = refl
slice_get-set_other (y ∷ ys) zero zero x h = absurd (h refl)
slice_get-set_other (y ∷ ys) zero (suc j) x h = refl
slice_get-set_other (y ∷ ys) (suc i) zero x h = refl
slice_get-set_other (y ∷ ys) (suc i) (suc j) x h = slice_get-set_other ys i j x (λ e. h (ap suc e))

module _ (sets : List Ids) (t : ℕ) (old new : Ids) (id : List ℕ) (here : slice_get sets t ≡ Some old) (updates : (cs : List ℕ) → bag.contains_text new cs ≡ cond (bytes_eq id cs) true (bag.contains_text old cs)) where
  pub named_also : NamesAlso sets (set sets t new) (key t id)
  named_also x = by (eqb x.table t) refl
    where
      by : (b : Bool) → eqb x.table t ≡ b → is_named (set sets t new) x ≡ (is_key x (key t id) || is_named sets x)
      by true e =
          let same : x.table ≡ t = (Decides-eqb x.table t).0 e in
          let now : slice_get (set sets t new) x.table ≡ Some new = ap (λ (i : ℕ). slice_get (set sets t new) i) same ∙ slice_get-set_same sets t new (slice_get_within sets t old here) in
          let was : slice_get sets x.table ≡ Some old = ap (λ (i : ℕ). slice_get sets i) same ∙ here in
          ap (λ o. has_id o x.id) now ∙ (updates x.id ∙ (cond_or (bytes_eq id x.id) (bag.contains_text old x.id)
          ∙ (ap (λ b. b || bag.contains_text old x.id) (bytes_turned id x.id)
          ∙ sym (rw (e, was) refl))))
      by false e =
          let apart : x.table ≢ t = not_from_Decides _ (Decides-eqb x.table t) e in
          let now : slice_get (set sets t new) x.table ≡ slice_get sets x.table = slice_get-set_other sets t x.table new apart in
          ap (λ o. has_id o x.id) now ∙ sym (rw e refl)
