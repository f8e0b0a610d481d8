-- Things that stand for records, in the order of these.
use Rattle.std.proofs.Common.{◌≡◌, ℕ, suc, ◌+◌, ◌<◌, ◌≤◌, List, [], ◌∷◌, length, map, Bool, true, false, not, ◌&&◌, ◌||◌, cond, nat_lt, find, Option, Some, None, refl, sym, ap, ◌∙◌, subst, arith}
use native.Mathlib.Numerals.{unary_clauses}
use Rattle.std.specs.List.{list_all, filter_map, cons_option, All, AllByRecursion}
use Rattle.std.specs.List.Sorted.{IsPermutation, IsSortedBy}
use Rattle.std.proofs.lemmas.Bool.{and_parts, and_from, both_ways, false_from_ne_true}
use Rattle.std.proofs.lemmas.Bool.Decides.{nat_tests}
use Rattle.std.proofs.lemmas.List.Elements.{All-nil, All-cons, All-weaker, All-head, All-tail}
use Rattle.std.proofs.lemmas.List.Sorted.{IsPermutation-map, sum_by-IsPermutation, All-permutation}
use Rattle.melon_raw.specs.Rows.{Key, is_key}
use Rattle.melon_wire.specs.Keys.{is_before, is_in, times, are_apart, do_ascend, ascending, do_rise, first_again}
use Rattle.melon_wire.proofs.KeyOrder.{split, is_key_same, is_key_refl, is_key_turned, before_all}
use Rattle.melon_wire.proofs.Ascent.{is_in-ascending, do_ascend-ascending, same_ascent, times_here, times_later, is_in-times, times_ascend, is_twice, none_twice, twice_is_again, rise_ascends}

module _ {C : Type 0} (key : C → Key) where
  abbrev pub has_key : Key → C → Bool
  has_key x c = is_key x (key c)

  -- ---- sorted

  pub rise_from_sorted : (xs : List C) → IsSortedBy (λ a b. is_before (key a) (key b)) xs → do_rise (map key xs) ≡ true
  rise_from_sorted [] h = refl
  rise_from_sorted (x ∷ []) h = refl
  rise_from_sorted (x ∷ y ∷ ys) h =
      let here : is_before (key y) (key x) ≡ false = h 0 x (omega arith) (omega arith) in
      let ih : do_rise (map key (y ∷ ys)) ≡ true = rise_from_sorted (y ∷ ys) (λ k d low high. simp unary_clauses (simp unary_clauses at (h (suc k) d (omega arith) (omega (arith, high))))) in
      and_from (not (is_before (key y) (key x))) (do_rise (map key (y ∷ ys))) (ap not here) ih

  pub short_again : (xs : List C) → length xs ≤ 1 → first_again (map key xs) ≡ None
  short_again [] h = refl
  short_again (x ∷ []) h = refl
  short_again (x ∷ y ∷ ys) h = absurd (omega arith)

  -- ---- the same things in another order

  module _ (xs ys : List C) (moved : IsPermutation xs ys) where
    pub times_moved : (x : Key) → times x (map key ys) ≡ times x (map key xs)
    times_moved x = sum_by-IsPermutation (λ k. cond (is_key x k) 1 0) (map key xs) (map key ys) (IsPermutation-map key xs ys moved)

    pub in_moved : (x : Key) → is_in x (map key ys) ≡ is_in x (map key xs)
    in_moved x = is_in-times x (map key ys) ∙ (ap (nat_lt 0) (times_moved x) ∙ sym (is_in-times x (map key xs)))

    -- they are put in one order
    pub ascending_moved : ascending (map key xs) ≡ ascending (map key ys)
    ascending_moved = same_ascent (ascending (map key xs)) (ascending (map key ys)) (do_ascend-ascending (map key xs)) (do_ascend-ascending (map key ys))
        (λ z. is_in-ascending z (map key xs) ∙ (sym (in_moved z) ∙ sym (is_in-ascending z (map key ys))))

    -- the first record that stands twice is the first that the next one repeats
    pub again_moved : do_rise (map key ys) ≡ true → find (is_twice (map key xs)) (ascending (map key xs)) ≡ first_again (map key ys)
    again_moved rising =
        let same : is_twice (map key xs) ≡ is_twice (map key ys) = λ i. λ x. nat_lt 1 (sym (times_moved x) i) in
        ap (λ (p : Key → Bool). find p (ascending (map key xs))) same ∙ (ap (find (is_twice (map key ys))) ascending_moved ∙ twice_is_again (map key ys) rising)

  -- ---- found by their records

  some_times : (x : Key) (c : C) (xs : List C) → find (has_key x) xs ≡ Some c → 0 < times x (map key xs)
  some_times x c [] h = cc
  some_times x c (y ∷ ys) h =
      let ih : find (has_key x) ys ≡ Some c → 0 < times x (map key ys) = some_times x c ys in
      split (is_key x (key y))
      (λ e. let n : times x (map key (y ∷ ys)) ≡ 1 + times x (map key ys) = times_here x (key y) (map key ys) e in omega (arith, n))
      (λ e. let n : times x (map key (y ∷ ys)) ≡ times x (map key ys) = times_later x (key y) (map key ys) e in let m : 0 < times x (map key ys) = ih (rw e at h) in omega (arith, n, m))

  abbrev pub IsFound : List C → C → Type 0
  IsFound xs c = find (has_key (key c)) xs ≡ Some c

  -- where no record stands twice each thing is the one that is found by its record
  found_apart : (xs : List C) → ((x : Key) → times x (map key xs) ≤ 1) → All (IsFound xs) xs
  found_apart [] once = All-nil (IsFound [])
  found_apart (y ∷ ys) once =
      let first : IsFound (y ∷ ys) y = rw (is_key_refl (key y)) refl in
      All-cons (IsFound (y ∷ ys)) y ys first (All-weaker (IsFound ys) (IsFound (y ∷ ys)) later ys (found_apart ys fewer))
    where
      fewer : (x : Key) → times x (map key ys) ≤ 1
      fewer x = split (is_key x (key y))
          (λ e. omega (arith, once x, times_here x (key y) (map key ys) e))
          (λ e. omega (arith, once x, times_later x (key y) (map key ys) e))

      later : (c : C) → IsFound ys c → IsFound (y ∷ ys) c
      later c f = split (is_key (key c) (key y))
          (λ e. absurd (omega (arith, once (key c), times_here (key c) (key y) (map key ys) e, some_times (key c) c ys f)))
          (λ e. rw e f)

  -- the same of things in another order that ascend
  pub found_moved : (xs ys : List C) → IsPermutation xs ys → do_ascend (map key ys) ≡ true → All (IsFound xs) ys
  found_moved xs ys moved up = All-permutation (IsFound xs) xs ys moved (found_apart xs (λ x. subst (λ (n : ℕ). n ≤ 1) (times_moved xs ys moved x) (times_ascend x (map key ys) up)))

  -- ---- made of records

  -- P holds of each thing, and none stands for the record of another
  abbrev pub AllApart : (C → Type 0) → List C → Type 0
  AllApart P [] = Unit {0}
  AllApart P (c ∷ cs) = P c × (find (has_key (key c)) cs ≡ None) × AllApart P cs

  module _ (make : Key → Option C) (own : (x : Key) (c : C) → make x ≡ Some c → key c ≡ x) where
    none_either : (b : Bool) (o : Option C) → o ≡ None → cond b o None ≡ None
    none_either true o e = e
    none_either false o e = refl

    -- a thing more, made of y
    found_more : (x y : Key) (m : Bool) (o : Option C) (rest : List C) → make y ≡ o → find (has_key x) rest ≡ cond m (make x) None → find (has_key x) (cons_option o rest) ≡ cond (is_key x y || m) (make x) None
    found_more x y m None rest made found = split (is_key x y)
        (λ e. let none : make x ≡ None = ap make (is_key_same x y e) ∙ made in
        found ∙ (none_either m (make x) none ∙ sym (ap (λ b. cond (b || m) (make x) None) e ∙ none)))
        (λ e. found ∙ sym (ap (λ b. cond (b || m) (make x) None) e))
    found_more x y m (Some c) rest made found =
        let at : key c ≡ y = own y c made in
        split (is_key x y)
        (λ e. let here : is_key x (key c) ≡ true = ap (λ (k : Key). is_key x k) at ∙ e in
        ap (λ b. cond b (Some c) (find (has_key x) rest)) here ∙ sym (ap (λ b. cond (b || m) (make x) None) e ∙ (ap make (is_key_same x y e) ∙ made)))
        (λ e. let off : is_key x (key c) ≡ false = ap (λ (k : Key). is_key x k) at ∙ e in
        ap (λ b. cond b (Some c) (find (has_key x) rest)) off ∙ (found ∙ sym (ap (λ b. cond (b || m) (make x) None) e)))

    -- what is made of x is found by it
    pub found_made : (x : Key) (ks : List Key) → find (has_key x) (filter_map make ks) ≡ cond (is_in x ks) (make x) None
    found_made x [] = refl
    found_made x (y ∷ ys) = found_more x y (is_in x ys) (make y) (filter_map make ys) refl (found_made x ys)

    -- nothing is made of a key that stands before all
    pub none_made : (x : Key) (ks : List Key) → list_all (is_before x) ks ≡ true → find (has_key x) (filter_map make ks) ≡ None
    none_made x ks h = found_made x ks ∙ ap (λ b. cond b (make x) None) (before_all x ks h)

    -- so of what is made of keys that ascend, where it holds of each that is made of a key of which R holds
    module _ (R : Key → Bool) (Q P : C → Type 0) (each : (x : Key) (c : C) → R x ≡ true → make x ≡ Some c → Q c → P c) where
      one_apart : (x : Key) (ks : List Key) (o : Option C) → make x ≡ o → R x ≡ true → list_all (is_before x) ks ≡ true → AllByRecursion Q (cons_option o (filter_map make ks)) → (AllByRecursion Q (filter_map make ks) → AllApart P (filter_map make ks))
          → AllApart P (cons_option o (filter_map make ks))
      one_apart x ks None is r before q ih = ih q
      one_apart x ks (Some c) is r before q ih = (each x c r is q.0, ap (λ (k : Key). find (has_key k) (filter_map make ks)) (own x c is) ∙ none_made x ks before, ih q.1)

      pub all_apart : (ks : List Key) → do_ascend ks ≡ true → list_all R ks ≡ true → AllByRecursion Q (filter_map make ks) → AllApart P (filter_map make ks)
      all_apart [] up r q = tt
      all_apart (x ∷ ks) up r q =
          let ups : (list_all (is_before x) ks ≡ true) × (do_ascend ks ≡ true) = and_parts (list_all (is_before x) ks) (do_ascend ks) up in
          let rs : (R x ≡ true) × (list_all R ks ≡ true) = and_parts (R x) (list_all R ks) r in
          one_apart x ks (make x) refl rs.0 ups.0 q (all_apart ks ups.1 rs.1)

  -- ---- in the order of their records

  -- what f makes of the records is what g makes of the things that stand for them
  pub filter_map-keyed : {Y : Type 0} (f : Key → Option Y) (g : C → Option Y) (cs : List C) → All (λ c. f (key c) ≡ g c) cs → filter_map f (map key cs) ≡ filter_map g cs
  filter_map-keyed f g [] all = refl
  filter_map-keyed f g (c ∷ cs) all = let same : f (key c) ≡ g c = All-head (λ d. f (key d) ≡ g d) c cs all in
      rw same (ap (cons_option (g c)) (filter_map-keyed f g cs (All-tail (λ d. f (key d) ≡ g d) c cs all)))

  -- things put in the order of their records, where no record stands twice
  module _ (xs ys : List C) (moved : IsPermutation xs ys) (rising : do_rise (map key ys) ≡ true) (once : first_again (map key ys) ≡ None) where
    pub in_order : ascending (map key xs) ≡ map key ys
    in_order = ascending_moved xs ys moved ∙ rise_ascends (map key ys) rising once

    pub found_in_order : All (IsFound xs) ys
    found_in_order = found_moved xs ys moved (subst (λ (ks : List Key). do_ascend ks ≡ true) in_order (do_ascend-ascending (map key xs)))

  -- no record of them stands twice
  pub once_from : (xs ys : List C) → IsPermutation xs ys → do_rise (map key ys) ≡ true → are_apart (map key xs) ≡ true → first_again (map key ys) ≡ None
  once_from xs ys moved rising apart = sym (again_moved xs ys moved rising) ∙ none_twice (map key xs) apart (ascending (map key xs))

-- nothing of its kind holds of any thing
pub all_unit : {C : Type 0} (cs : List C) → AllByRecursion (λ (c : C). Unit {0}) cs
all_unit [] = tt
all_unit (c ∷ cs) = (tt, all_unit cs)
