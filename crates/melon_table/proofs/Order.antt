-- Laws of the order of ids, and of tests over lists of rows.
use Rattle.std.proofs.Common.{◌≡◌, ◌≢◌, ℕ, List, [], ◌∷◌, ◌++◌, filter, Bool, true, false, cond, ◌&&◌, Ordering, Less, Equal, Greater, bytes_eq, nat_cmp, refl, sym, ap, ◌∙◌}
use Rattle.std.specs.List.{list_all}
use Rattle.std.specs.Ordering.{is_lt, is_eq, ordering_reverse}
use Rattle.std.specs.Cmp.Lexicographic.{slice_cmp}
use Rattle.std.proofs.lemmas.Bool.{false_from_ne_true}
use Rattle.std.proofs.lemmas.Bool.Decides.{not_from_Decides}
use Rattle.std.proofs.lemmas.Cmp.{nat_list_cmp_total}
use Rattle.std.proofs.lemmas.Map.Text.{is_eq-slice_cmp}
use Rattle.std.proofs.lemmas.Slice.Eq.{bytes_eq-Decides}
use Rattle.melon_raw.specs.Order.{is_below}

-- by cases of a test, with what each says
pub split : {P : Type 0} (b : Bool) → (b ≡ true → P) → (b ≡ false → P) → P
split true f g = f refl
split false f g = g refl

pub less_from : (o : Ordering) → is_lt o ≡ true → o ≡ Less
less_from Less h = refl
less_from Equal h = cc
less_from Greater h = cc

pub below_trans : (a b c : List ℕ) → is_below a b ≡ true → is_below b c ≡ true → is_below a c ≡ true
below_trans a b c p q = ap is_lt (nat_list_cmp_total.trans a b c (less_from _ p) (less_from _ q))

pub below_asym : (a b : List ℕ) → is_below a b ≡ true → is_below b a ≡ false
below_asym a b p = ap is_lt (nat_list_cmp_total.antisymm b a ∙ ap ordering_reverse (less_from _ p))

above_or : (o : Ordering) → is_lt o ≡ false → is_eq o ≡ false → is_lt (ordering_reverse o) ≡ true
above_or Less p q = cc
above_or Equal p q = cc
above_or Greater p q = refl

-- of two different ids one is below the other
pub below_other : (a b : List ℕ) → is_below a b ≡ false → bytes_eq a b ≡ false → is_below b a ≡ true
below_other a b p q = ap is_lt (nat_list_cmp_total.antisymm b a) ∙ above_or (slice_cmp nat_cmp a b) p (is_eq-slice_cmp a b ∙ q)

pub bytes_same : (a b : List ℕ) → a ≡ b → bytes_eq a b ≡ true
bytes_same a b = (bytes_eq-Decides a b).1

pub bytes_apart : (a b : List ℕ) → (a ≢ b) → bytes_eq a b ≡ false
bytes_apart a b h = false_from_ne_true (bytes_eq a b) (λ e. h ((bytes_eq-Decides a b).0 e))

pub same_bytes : (a b : List ℕ) → bytes_eq a b ≡ true → a ≡ b
same_bytes a b = (bytes_eq-Decides a b).0

pub apart_bytes : (a b : List ℕ) → bytes_eq a b ≡ false → a ≢ b
apart_bytes a b h = not_from_Decides (bytes_eq a b) (bytes_eq-Decides a b) h

not_less_equal : (o : Ordering) → is_eq o ≡ true → is_lt o ≡ false
not_less_equal Less h = cc
not_less_equal Equal h = refl
not_less_equal Greater h = refl

pub not_below_self : (a : List ℕ) → is_below a a ≡ false
not_below_self a = not_less_equal (slice_cmp nat_cmp a a) (is_eq-slice_cmp a a ∙ bytes_same a a refl)

equal_is : (o : Ordering) → is_lt o ≡ true → is_eq o ≡ false
equal_is Less h = refl
equal_is Equal h = cc
equal_is Greater h = cc

-- an id below another isn't that one
pub below_apart : (a b : List ℕ) → is_below a b ≡ true → bytes_eq a b ≡ false
below_apart a b h = sym (is_eq-slice_cmp a b) ∙ equal_is (slice_cmp nat_cmp a b) h

pub above_apart : (a b : List ℕ) → is_below b a ≡ true → bytes_eq a b ≡ false
above_apart a b h = bytes_apart a b (λ e. apart_bytes b a (below_apart b a h) (sym e))

equal_from : (o : Ordering) → is_eq o ≡ true → o ≡ Equal
equal_from Less h = cc
equal_from Equal h = refl
equal_from Greater h = cc

-- ---- tests over lists

pub and_left : (a b : Bool) → (a && b) ≡ true → a ≡ true
and_left true b h = refl
and_left false b h = h

pub and_right : (a b : Bool) → (a && b) ≡ true → b ≡ true
and_right true b h = h
and_right false b h = cc

pub both : (a b : Bool) → a ≡ true → b ≡ true → (a && b) ≡ true
both true b p q = q
both false b p q = p

module _ {X : Type 0} where
  pub filter_none : (p q : X → Bool) (xs : List X) → list_all p xs ≡ true → ((x : X) → p x ≡ true → q x ≡ false) → filter q xs ≡ []
  filter_none p q [] h imp = refl
  filter_none p q (r ∷ rs) h imp =
      ap (λ b. cond b (r ∷ filter q rs) (filter q rs)) (imp r (and_left (p r) _ h)) ∙ filter_none p q rs (and_right (p r) _ h) imp

  pub filter_all : (p q : X → Bool) (xs : List X) → list_all p xs ≡ true → ((x : X) → p x ≡ true → q x ≡ true) → filter q xs ≡ xs
  filter_all p q [] h imp = refl
  filter_all p q (r ∷ rs) h imp =
      ap (λ b. cond b (r ∷ filter q rs) (filter q rs)) (imp r (and_left (p r) _ h)) ∙ ap (λ rest. r ∷ rest) (filter_all p q rs (and_right (p r) _ h) imp)

  pub all_mono : (p q : X → Bool) (xs : List X) → list_all p xs ≡ true → ((x : X) → p x ≡ true → q x ≡ true) → list_all q xs ≡ true
  all_mono p q [] h imp = refl
  all_mono p q (r ∷ rs) h imp = both _ _ (imp r (and_left (p r) _ h)) (all_mono p q rs (and_right (p r) _ h) imp)

  all_choice : (p : X → Bool) (r : X) (kept : List X) (b : Bool) → p r ≡ true → list_all p kept ≡ true → list_all p (cond b (r ∷ kept) kept) ≡ true
  all_choice p r kept true h k = both _ _ h k
  all_choice p r kept false h k = k

  -- what holds of all holds of those that are kept
  pub all_filter : (p q : X → Bool) (xs : List X) → list_all p xs ≡ true → list_all p (filter q xs) ≡ true
  all_filter p q [] h = refl
  all_filter p q (r ∷ rs) h = all_choice p r (filter q rs) (q r) (and_left (p r) _ h) (all_filter p q rs (and_right (p r) _ h))

  kept_choice : (p : X → Bool) (r : X) (kept : List X) (b : Bool) → p r ≡ b → list_all p kept ≡ true → list_all p (cond b (r ∷ kept) kept) ≡ true
  kept_choice p r kept true h k = both _ _ h k
  kept_choice p r kept false h k = k

  -- all that a filter keeps pass its test
  pub filter_passes : (p : X → Bool) (xs : List X) → list_all p (filter p xs) ≡ true
  filter_passes p [] = refl
  filter_passes p (r ∷ rs) = kept_choice p r (filter p rs) (p r) refl (filter_passes p rs)

  pub all_append : (p : X → Bool) (xs ys : List X) → list_all p xs ≡ true → list_all p ys ≡ true → list_all p (xs ++ ys) ≡ true
  all_append p [] ys h k = k
  all_append p (x ∷ xs) ys h k = both _ _ (and_left (p x) _ h) (all_append p xs ys (and_right (p x) _ h) k)
