-- Keys that ascend: there is one such list of the same keys, and what stands twice stands side by side.
use Rattle.std.proofs.Common.{◌≡◌, ℕ, ◌+◌, ◌≤◌, List, [], ◌∷◌, Bool, true, false, not, ◌&&◌, ◌||◌, cond, nat_lt, find, Option, Some, None, refl, sym, ap, ◌∙◌, subst, arith}
use Rattle.std.specs.List.{list_all, list_any}
use Rattle.std.proofs.lemmas.Bool.{and_parts, and_from, both_ways, false_from_ne_true, or_parts, not-true}
use Rattle.std.proofs.lemmas.Bool.Decides.{nat_tests}
use Rattle.std.proofs.lemmas.List.Sums.{sum_by-cons}
use Rattle.melon_raw.specs.Rows.{Key, is_key}
use Rattle.melon_wire.specs.Keys.{is_before, is_in, times, are_apart, do_ascend, put_key, ascending, do_rise, first_again}
use Rattle.melon_wire.proofs.KeyOrder.{split, is_key_same, is_key_refl, is_key_turned, before_trans, before_asym, before_other, before_apart, all_mono, all_in, before_all}

-- ---- what is put in order

or_swapped : (a b c : Bool) → (a || (b || c)) ≡ (b || (a || c))
or_swapped true true c = refl
or_swapped true false c = refl
or_swapped false b c = refl

or_again : (a b : Bool) → (a || b) ≡ (a || (a || b))
or_again true b = refl
or_again false b = refl

is_in-put_key : (z x : Key) (ks : List Key) → is_in z (put_key x ks) ≡ (is_key z x || is_in z ks)
is_in-put_key z x [] = refl
is_in-put_key z x (y ∷ ys) =
    let ih : is_in z (put_key x ys) ≡ (is_key z x || is_in z ys) = is_in-put_key z x ys in
    split (is_before x y)
    (λ e. rw e refl)
    (λ e. split (is_key x y)
    (λ f. rw (e, f) (or_again (is_key z y) (is_in z ys) ∙ ap (λ (k : Key). is_key z k || (is_key z y || is_in z ys)) (sym (is_key_same x y f))))
    (λ f. rw (e, f) (rw ih (or_swapped (is_key z y) (is_key z x) (is_in z ys)))))

pub is_in-ascending : (z : Key) (ks : List Key) → is_in z (ascending ks) ≡ is_in z ks
is_in-ascending z [] = refl
is_in-ascending z (x ∷ xs) = is_in-put_key z x (ascending xs) ∙ ap (λ b. is_key z x || b) (is_in-ascending z xs)

all_put : (y x : Key) (ks : List Key) → is_before y x ≡ true → list_all (is_before y) ks ≡ true → list_all (is_before y) (put_key x ks) ≡ true
all_put y x [] b h = and_from (is_before y x) true b refl
all_put y x (k ∷ ks) b h =
    let parts : (is_before y k ≡ true) × (list_all (is_before y) ks ≡ true) = and_parts (is_before y k) (list_all (is_before y) ks) h in
    let ih : list_all (is_before y) (put_key x ks) ≡ true = all_put y x ks b parts.1 in
    split (is_before x k)
    (λ e. rw e (and_from (is_before y x) _ b h))
    (λ e. split (is_key x k) (λ f. rw (e, f) h) (λ f. rw (e, f) (and_from (is_before y k) _ parts.0 ih)))

ascend_put : (x : Key) (ks : List Key) → do_ascend ks ≡ true → do_ascend (put_key x ks) ≡ true
ascend_put x [] h = refl
ascend_put x (y ∷ ys) h =
    let parts : (list_all (is_before y) ys ≡ true) × (do_ascend ys ≡ true) = and_parts (list_all (is_before y) ys) (do_ascend ys) h in
    let ih : do_ascend (put_key x ys) ≡ true = ascend_put x ys parts.1 in
    split (is_before x y)
    (λ e. rw e (and_from (is_before x y && list_all (is_before x) ys) (do_ascend (y ∷ ys)) (and_from (is_before x y) _ e (all_mono (is_before y) (is_before x) ys parts.0 (λ z l. before_trans x y z e l))) h))
    (λ e. split (is_key x y)
    (λ f. rw (e, f) h)
    (λ f. rw (e, f) (and_from (list_all (is_before y) (put_key x ys)) (do_ascend (put_key x ys)) (all_put y x ys (before_other x y e f) parts.0) ih)))

pub do_ascend-ascending : (ks : List Key) → do_ascend (ascending ks) ≡ true
do_ascend-ascending [] = refl
do_ascend-ascending (x ∷ xs) = ascend_put x (ascending xs) (do_ascend-ascending xs)

all_put_key : (p : Key → Bool) (x : Key) (ks : List Key) → p x ≡ true → list_all p ks ≡ true → list_all p (put_key x ks) ≡ true
all_put_key p x [] h k = and_from (p x) true h refl
all_put_key p x (y ∷ ys) h k =
    let parts : (p y ≡ true) × (list_all p ys ≡ true) = and_parts (p y) (list_all p ys) k in
    let ih : list_all p (put_key x ys) ≡ true = all_put_key p x ys h parts.1 in
    split (is_before x y)
    (λ e. rw e (and_from (p x) _ h k))
    (λ e. split (is_key x y) (λ f. rw (e, f) k) (λ f. rw (e, f) (and_from (p y) _ parts.0 ih)))

-- what holds of all keys holds of them in order
pub all_ascending : (p : Key → Bool) (ks : List Key) → list_all p ks ≡ true → list_all p (ascending ks) ≡ true
all_ascending p [] h = refl
all_ascending p (x ∷ xs) h =
    let parts : (p x ≡ true) × (list_all p xs ≡ true) = and_parts (p x) (list_all p xs) h in
    all_put_key p x (ascending xs) parts.0 (all_ascending p xs parts.1)

-- ---- one list of the same keys ascends

pub same_ascent : (xs ys : List Key) → do_ascend xs ≡ true → do_ascend ys ≡ true → ((z : Key) → is_in z xs ≡ is_in z ys) → xs ≡ ys
same_ascent [] [] h k same = refl
same_ascent [] (y ∷ ys) h k same = absurd (both_ways false refl (same y ∙ ap (λ b. b || is_in y ys) (is_key_refl y)))
same_ascent (x ∷ xs) [] h k same = absurd (both_ways false refl (sym (same x) ∙ ap (λ b. b || is_in x xs) (is_key_refl x)))
same_ascent (x ∷ xs) (y ∷ ys) h k same = split (is_key x y) (one (same_ascent xs ys ours.1 theirs.1)) two
  where
    ours : (list_all (is_before x) xs ≡ true) × (do_ascend xs ≡ true)
    ours = and_parts (list_all (is_before x) xs) (do_ascend xs) h

    theirs : (list_all (is_before y) ys ≡ true) × (do_ascend ys ≡ true)
    theirs = and_parts (list_all (is_before y) ys) (do_ascend ys) k

    tails : x ≡ y → (z : Key) → is_in z xs ≡ is_in z ys
    tails e z = split (is_key z x)
        (λ f. let at : z ≡ x = is_key_same z x f in
        ap (λ (w : Key). is_in w xs) at ∙ before_all x xs ours.0 ∙ sym (ap (λ (w : Key). is_in w ys) (at ∙ e) ∙ before_all y ys theirs.0))
        (λ f. let g : is_key z y ≡ false = ap (λ (w : Key). is_key z w) (sym e) ∙ f in
        ap (λ b. b || is_in z xs) (sym f) ∙ (same z ∙ ap (λ b. b || is_in z ys) g))

    one : (((z : Key) → is_in z xs ≡ is_in z ys) → xs ≡ ys) → is_key x y ≡ true → (x ∷ xs) ≡ (y ∷ ys)
    one ih e = let at : x ≡ y = is_key_same x y e in
        let rest : xs ≡ ys = ih (tails at) in
        λ i. at i ∷ rest i

    two : is_key x y ≡ false → (x ∷ xs) ≡ (y ∷ ys)
    two e =
        let down : is_before y x ≡ true = all_in (is_before y) x ys theirs.0 (ap (λ b. b || is_in x ys) (sym e) ∙ (sym (same x) ∙ ap (λ b. b || is_in x xs) (is_key_refl x))) in
        let up : is_before x y ≡ true = all_in (is_before x) y xs ours.0 (ap (λ b. b || is_in y xs) (sym (is_key_turned x y e)) ∙ (same y ∙ ap (λ b. b || is_in y ys) (is_key_refl y))) in
        absurd (both_ways (is_before y x) (before_asym x y up) down)

-- ---- how often a key stands

pub times-cons : (x y : Key) (ys : List Key) → times x (y ∷ ys) ≡ cond (is_key x y) 1 0 + times x ys
times-cons x y ys = sum_by-cons (λ k. cond (is_key x k) 1 0) y ys

pub times_here : (x y : Key) (ys : List Key) → is_key x y ≡ true → times x (y ∷ ys) ≡ 1 + times x ys
times_here x y ys e = times-cons x y ys ∙ ap (λ b. cond b 1 0 + times x ys) e

pub times_later : (x y : Key) (ys : List Key) → is_key x y ≡ false → times x (y ∷ ys) ≡ times x ys
times_later x y ys e = times-cons x y ys ∙ (ap (λ b. cond b 1 0 + times x ys) e ∙ omega arith)

-- a key stands among others where it stands there at least once
pub is_in-times : (x : Key) (ks : List Key) → is_in x ks ≡ nat_lt 0 (times x ks)
is_in-times x [] = refl
is_in-times x (y ∷ ys) = split (is_key x y)
    (λ e. let n : times x (y ∷ ys) ≡ 1 + times x ys = times_here x y ys e in
    ap (λ b. b || is_in x ys) e ∙ sym (ap (nat_lt 0) n ∙ some (times x ys)))
    (λ e. ap (λ b. b || is_in x ys) e ∙ (is_in-times x ys ∙ sym (ap (nat_lt 0) (times_later x y ys e))))
  where
    some : (n : ℕ) → nat_lt 0 (1 + n) ≡ true
    some n = grind (arith, nat_tests)

pub times_none : (x : Key) (ks : List Key) → is_in x ks ≡ false → times x ks ≡ 0
times_none x ks h = let t : nat_lt 0 (times x ks) ≡ false = sym (is_in-times x ks) ∙ h in grind (arith, nat_tests)

-- keys that ascend stand once
pub times_ascend : (x : Key) (ks : List Key) → do_ascend ks ≡ true → times x ks ≤ 1
times_ascend x [] h = omega arith
times_ascend x (y ∷ ys) h =
    let parts : (list_all (is_before y) ys ≡ true) × (do_ascend ys ≡ true) = and_parts (list_all (is_before y) ys) (do_ascend ys) h in
    let ih : times x ys ≤ 1 = times_ascend x ys parts.1 in
    split (is_key x y)
    (λ e. let none : times x ys ≡ 0 = times_none x ys (ap (λ (w : Key). is_in w ys) (is_key_same x y e) ∙ before_all y ys parts.0) in
    omega (arith, times_here x y ys e, none))
    (λ e. omega (arith, times_later x y ys e, ih))

-- ---- keys of which none stands before the one ahead

-- the first of them is the least
least : (y : Key) (ys : List Key) → do_rise (y ∷ ys) ≡ true → (rest : List Key) × (ascending (y ∷ ys) ≡ y ∷ rest)
least y [] h = ([], refl)
least y (z ∷ zs) h =
    let parts : (not (is_before z y) ≡ true) × (do_rise (z ∷ zs) ≡ true) = and_parts (not (is_before z y)) (do_rise (z ∷ zs)) h in
    let ih : (rest : List Key) × (ascending (z ∷ zs) ≡ z ∷ rest) = least z zs parts.1 in
    let put : ascending (y ∷ z ∷ zs) ≡ put_key y (z ∷ ih.0) = ap (put_key y) ih.1 in
    split (is_before y z)
    (λ e. (z ∷ ih.0, put ∙ rw e refl))
    (λ e. let same : is_key y z ≡ true = one e (not_from _ parts.0) in (ih.0, put ∙ (rw (e, same) (ap (λ (k : Key). k ∷ ih.0) (sym (is_key_same y z same))))))
  where
    not_from : (b : Bool) → not b ≡ true → b ≡ false
    not_from true k = cc
    not_from false k = refl

    one : is_before y z ≡ false → is_before z y ≡ false → is_key y z ≡ true
    one e f = split (is_key y z) (λ g. g) (λ g. absurd (both_ways (is_before z y) f (before_other y z e g)))

-- a first key that isn't repeated stands before all others
module _ (x y : Key) (ys : List Key) (rising : do_rise (x ∷ y ∷ ys) ≡ true) (apart : is_key x y ≡ false) where
  later : do_rise (y ∷ ys) ≡ true
  later = (and_parts (not (is_before y x)) (do_rise (y ∷ ys)) rising).1

  ahead : is_before x y ≡ true
  ahead = split (is_before x y) (λ e. e) (λ e. absurd (both_ways (not (is_before y x)) (ap not (before_other x y e apart)) (and_parts (not (is_before y x)) (do_rise (y ∷ ys)) rising).0))

  climbs : ascending (x ∷ y ∷ ys) ≡ x ∷ ascending (y ∷ ys)
  climbs = let first : (rest : List Key) × (ascending (y ∷ ys) ≡ y ∷ rest) = least y ys later in
      let put : put_key x (y ∷ first.0) ≡ x ∷ y ∷ first.0 = rw ahead refl in
      ap (put_key x) first.1 ∙ (put ∙ ap (λ (ks : List Key). x ∷ ks) (sym first.1))

  ahead_of_all : list_all (is_before x) (ascending (y ∷ ys)) ≡ true
  ahead_of_all = let first : (rest : List Key) × (ascending (y ∷ ys) ≡ y ∷ rest) = least y ys later in
      let up : do_ascend (y ∷ first.0) ≡ true = subst (λ (ks : List Key). do_ascend ks ≡ true) first.1 (do_ascend-ascending (y ∷ ys)) in
      let all : list_all (is_before y) first.0 ≡ true = (and_parts (list_all (is_before y) first.0) (do_ascend first.0) up).0 in
      subst (λ (ks : List Key). list_all (is_before x) ks ≡ true) (sym first.1) (and_from (is_before x y) _ ahead (all_mono (is_before y) (is_before x) first.0 all (λ z l. before_trans x y z ahead l)))

  alone : is_in x (y ∷ ys) ≡ false
  alone = sym (is_in-ascending x (y ∷ ys)) ∙ before_all x (ascending (y ∷ ys)) ahead_of_all

find_same : (p q r : Key → Bool) (ks : List Key) → list_all r ks ≡ true → ((k : Key) → r k ≡ true → p k ≡ q k) → find p ks ≡ find q ks
find_same p q r [] h same = refl
find_same p q r (k ∷ ks) h same =
    let parts : (r k ≡ true) × (list_all r ks ≡ true) = and_parts (r k) (list_all r ks) h in
    rw (same k parts.0) (ap (λ o. cond (q k) (Some k) o) (find_same p q r ks parts.1 same))

abbrev pub is_twice : List Key → Key → Bool
is_twice all k = nat_lt 1 (times k all)

-- keys that are apart stand once
pub times_apart : (x : Key) (ks : List Key) → are_apart ks ≡ true → times x ks ≤ 1
times_apart x [] h = omega arith
times_apart x (y ∷ ys) h =
    let parts : (not (is_in y ys) ≡ true) × (are_apart ys ≡ true) = and_parts (not (is_in y ys)) (are_apart ys) h in
    let ih : times x ys ≤ 1 = times_apart x ys parts.1 in
    split (is_key x y)
    (λ e. let none : times x ys ≡ 0 = times_none x ys (ap (λ (w : Key). is_in w ys) (is_key_same x y e) ∙ not-true (is_in y ys) parts.0) in
    omega (arith, times_here x y ys e, none))
    (λ e. omega (arith, times_later x y ys e, ih))

pub none_twice : (all : List Key) → are_apart all ≡ true → (ks : List Key) → find (is_twice all) ks ≡ None
none_twice all apart [] = refl
none_twice all apart (k ∷ ks) = rw (below (times k all) (times_apart k all apart)) (none_twice all apart ks)
  where
    below : (n : ℕ) → n ≤ 1 → nat_lt 1 n ≡ false
    below n h = grind (arith, nat_tests)

-- the first key that stands twice is the first that the next one repeats
pub twice_is_again : (ks : List Key) → do_rise ks ≡ true → find (is_twice ks) (ascending ks) ≡ first_again ks
twice_is_again [] h = refl
twice_is_again (x ∷ []) h = let one : times x (x ∷ []) ≡ 1 = times_here x x [] (is_key_refl x) in rw one refl
twice_is_again (x ∷ y ∷ ys) h =
    let rest : do_rise (y ∷ ys) ≡ true = (and_parts (not (is_before y x)) (do_rise (y ∷ ys)) h).1 in
    let ih : find (is_twice (y ∷ ys)) (ascending (y ∷ ys)) ≡ first_again (y ∷ ys) = twice_is_again (y ∷ ys) rest in
    split (is_key x y) (repeated rest) (λ e. once e ih)
  where
    repeated : do_rise (y ∷ ys) ≡ true → is_key x y ≡ true → find (is_twice (x ∷ y ∷ ys)) (ascending (x ∷ y ∷ ys)) ≡ first_again (x ∷ y ∷ ys)
    repeated rest e =
        let at : x ≡ y = is_key_same x y e in
        let first : (more : List Key) × (ascending (x ∷ y ∷ ys) ≡ x ∷ more) = least x (y ∷ ys) h in
        let twice : is_twice (x ∷ y ∷ ys) x ≡ true = two (times x ys) (times x (x ∷ y ∷ ys)) (times_here x x (y ∷ ys) (is_key_refl x) ∙ ap (λ n. 1 + n) (times_here x y ys e)) in
        ap (find (is_twice (x ∷ y ∷ ys))) first.1 ∙ (rw twice (sym (rw e refl)))
      where
        two : (n m : ℕ) → m ≡ 1 + (1 + n) → nat_lt 1 m ≡ true
        two n m f = grind (arith, nat_tests)

    once : is_key x y ≡ false → find (is_twice (y ∷ ys)) (ascending (y ∷ ys)) ≡ first_again (y ∷ ys) → find (is_twice (x ∷ y ∷ ys)) (ascending (x ∷ y ∷ ys)) ≡ first_again (x ∷ y ∷ ys)
    once e ih =
        let single : times x (x ∷ y ∷ ys) ≡ 1 = times_here x x (y ∷ ys) (is_key_refl x) ∙ ap (λ n. 1 + n) (times_none x (y ∷ ys) (alone x y ys h e)) in
        let not_twice : is_twice (x ∷ y ∷ ys) x ≡ false = ap (nat_lt 1) single in
        let others : find (is_twice (x ∷ y ∷ ys)) (ascending (y ∷ ys)) ≡ find (is_twice (y ∷ ys)) (ascending (y ∷ ys)) =
        find_same (is_twice (x ∷ y ∷ ys)) (is_twice (y ∷ ys)) (is_before x) (ascending (y ∷ ys)) (ahead_of_all x y ys h e) (λ k l. ap (nat_lt 1) (times_later k x (y ∷ ys) (is_key_turned x k (before_apart x k l)))) in
        ap (find (is_twice (x ∷ y ∷ ys))) (climbs x y ys h e) ∙ (rw not_twice (others ∙ (ih ∙ sym (rw e refl))))

-- where none is repeated they ascend
pub rise_ascends : (ks : List Key) → do_rise ks ≡ true → first_again ks ≡ None → ascending ks ≡ ks
rise_ascends [] h none = refl
rise_ascends (x ∷ []) h none = refl
rise_ascends (x ∷ y ∷ ys) h none =
    let ih : first_again (y ∷ ys) ≡ None → ascending (y ∷ ys) ≡ y ∷ ys = rise_ascends (y ∷ ys) (and_parts (not (is_before y x)) (do_rise (y ∷ ys)) h).1 in
    split (is_key x y)
    (λ e. absurd (some_none (rw e at none)))
    (λ e. climbs x y ys h e ∙ ap (λ (ks : List Key). x ∷ ks) (ih (rw e at none)))
  where
    some_none : Some x ≡ None → ⊥
    some_none e = cc
