-- Laws of the order of records.
use Rattle.std.proofs.Common.{◌≡◌, ◌≢◌, ℕ, List, [], ◌∷◌, Bool, true, false, not, ◌&&◌, ◌||◌, cond, ◌==◌, eqb, nat_lt, Ordering, Less, Equal, Greater, bytes_eq, nat_cmp, refl, sym, ap, ◌∙◌, arith}
use Rattle.std.specs.List.{list_all, list_any}
use Rattle.std.specs.Ordering.{is_lt, is_eq, ordering_then, ordering_reverse}
use Rattle.std.specs.Cmp.{IsTotalOrder}
use Rattle.std.specs.Cmp.Lexicographic.{slice_cmp}
use Rattle.std.proofs.lemmas.Bool.{and_parts, and_from, both_ways, false_from_ne_true}
use Rattle.std.proofs.lemmas.Bool.Decides.{Decides-eqb, not_from_Decides, nat_tests}
use Rattle.std.proofs.lemmas.Cmp.{nat_cmp_total, nat_list_cmp_total, on_total, then_total}
use Rattle.std.proofs.lemmas.Map.Text.{is_eq-slice_cmp}
use Rattle.std.proofs.lemmas.Slice.Eq.{bytes_eq-Decides}
use Rattle.melon_raw.specs.Order.{id_cmp}
use Rattle.melon_raw.specs.Rows.{Key, is_key}
use Rattle.melon_wire.specs.Keys.{key_cmp, is_before, is_in}

-- by cases of a test, with what each says
pub split : {P : Type 0} (b : Bool) → (b ≡ true → P) → (b ≡ false → P) → P
split true f g = f refl
split false f g = g refl

-- ---- equal texts and keys

pub bytes_same : (a b : List ℕ) → a ≡ b → bytes_eq a b ≡ true
bytes_same a b = (bytes_eq-Decides a b).1

pub same_bytes : (a b : List ℕ) → bytes_eq a b ≡ true → a ≡ b
same_bytes a b = (bytes_eq-Decides a b).0

pub key_path : (x y : Key) → x.table ≡ y.table → x.id ≡ y.id → x ≡ y
key_path x y p q = λ i. record { table = p i; id = q i }

pub is_key_same : (x y : Key) → is_key x y ≡ true → x ≡ y
is_key_same x y h =
    let parts : (eqb x.table y.table ≡ true) × (bytes_eq x.id y.id ≡ true) = and_parts _ _ h in
    key_path x y ((Decides-eqb x.table y.table).0 parts.0) (same_bytes x.id y.id parts.1)

pub is_key_refl : (x : Key) → is_key x x ≡ true
is_key_refl x = and_from _ _ ((Decides-eqb x.table x.table).1 refl) (bytes_same x.id x.id refl)

pub is_key_turned : (x y : Key) → is_key x y ≡ false → is_key y x ≡ false
is_key_turned x y h = false_from_ne_true (is_key y x) (λ e. both_ways (is_key x y) h (ap (λ (z : Key). is_key x z) (is_key_same y x e) ∙ is_key_refl x))

-- ---- which stands first

pub key_total : IsTotalOrder key_cmp
key_total = then_total (on_total (λ (k : Key). k.table) nat_cmp_total) (on_total (λ (k : Key). k.id) nat_list_cmp_total)

less_from : (o : Ordering) → is_lt o ≡ true → o ≡ Less
less_from Less h = refl
less_from Equal h = cc
less_from Greater h = cc

equal_then : (m n : ℕ) (o : Ordering) → is_eq (ordering_then (nat_cmp m n) o) ≡ ((m == n) && is_eq o)
equal_then m n o = split (nat_lt m n)
    (λ e. let apart : (m == n) ≡ false = grind (arith, nat_tests) in rw (e, apart) refl)
    (λ e. split (m == n) (λ f. rw (e, f) refl) (λ f. rw (e, f) refl))

-- the order says that they are one just where they are
pub equal_is_key : (x y : Key) → is_eq (key_cmp x y) ≡ is_key x y
equal_is_key x y = equal_then x.table y.table (id_cmp x.id y.id) ∙ ap (λ b. (x.table == y.table) && b) (is_eq-slice_cmp x.id y.id)

pub before_trans : (x y z : Key) → is_before x y ≡ true → is_before y z ≡ true → is_before x z ≡ true
before_trans x y z p q = ap is_lt (key_total.trans x y z (less_from _ p) (less_from _ q))

pub before_asym : (x y : Key) → is_before x y ≡ true → is_before y x ≡ false
before_asym x y p = ap is_lt (key_total.antisymm y x ∙ ap ordering_reverse (less_from _ p))

above_or : (o : Ordering) → is_lt o ≡ false → is_eq o ≡ false → is_lt (ordering_reverse o) ≡ true
above_or Less p q = cc
above_or Equal p q = cc
above_or Greater p q = refl

-- of two different keys one stands before the other
pub before_other : (x y : Key) → is_before x y ≡ false → is_key x y ≡ false → is_before y x ≡ true
before_other x y p q = ap is_lt (key_total.antisymm y x) ∙ above_or (key_cmp x y) p (equal_is_key x y ∙ q)

unequal_is : (o : Ordering) → is_lt o ≡ true → is_eq o ≡ false
unequal_is Less h = refl
unequal_is Equal h = cc
unequal_is Greater h = cc

-- a key that stands before another isn't that one
pub before_apart : (x y : Key) → is_before x y ≡ true → is_key x y ≡ false
before_apart x y h = sym (equal_is_key x y) ∙ unequal_is (key_cmp x y) h

-- ---- tests of all

pub all_mono : {X : Type 0} (p q : X → Bool) (xs : List X) → list_all p xs ≡ true → ((x : X) → p x ≡ true → q x ≡ true) → list_all q xs ≡ true
all_mono p q [] h imp = refl
all_mono p q (x ∷ xs) h imp =
    let parts : (p x ≡ true) × (list_all p xs ≡ true) = and_parts (p x) (list_all p xs) h in
    and_from (q x) (list_all q xs) (imp x parts.0) (all_mono p q xs parts.1 imp)

-- what holds of all holds of one that is among them
pub all_in : (p : Key → Bool) (z : Key) (xs : List Key) → list_all p xs ≡ true → is_in z xs ≡ true → p z ≡ true
all_in p z [] h m = cc
all_in p z (x ∷ xs) h m =
    let parts : (p x ≡ true) × (list_all p xs ≡ true) = and_parts (p x) (list_all p xs) h in
    let ih : is_in z xs ≡ true → p z ≡ true = all_in p z xs parts.1 in
    split (is_key z x) (λ e. ap p (is_key_same z x e) ∙ parts.0) (λ e. ih (rw e at m))

-- a key that stands before all isn't among them
pub before_all : (x : Key) (xs : List Key) → list_all (is_before x) xs ≡ true → is_in x xs ≡ false
before_all x xs h = false_from_ne_true (is_in x xs) (λ m. let self : is_before x x ≡ true = all_in (is_before x) x xs h m in both_ways (is_before x x) (before_asym x x self) self)
