-- Members on both sides of a gap, as it moves.
use Rattle.std.proofs.Common.{◌≡◌, ℕ, List, [], ◌∷◌, ◌++◌, reverse, filter, Bool, true, false, not, refl, sym, ap, ◌∙◌, subst, append-nil, append_assoc}
use Rattle.std.specs.List.{list_all}
use Rattle.std.specs.Ordering.{is_lt, is_ne, ordering_reverse}
use Rattle.std.specs.declared.cmp.Ordering.{Ordering}
use Rattle.std.specs.declared.cmp.Ordering.TheVariants.{Less, Equal, Greater}
use Rattle.std.proofs.lemmas.Cmp.{nat_list_cmp_total}
use Rattle.std.proofs.lemmas.List.{reverse-append}
use Rattle.std.proofs.lemmas.List.Elements.{filter-append}
use Rattle.melon_raw.specs.Order.{id_cmp, is_below}
use Rattle.melon_table.proofs.Order.{below_trans, below_asym, not_below_self, and_left, and_right, both, filter_none, filter_all, all_mono, all_append}
use Rattle.melon_table.proofs.Halving.{equal_ids}
use Rattle.melon_query.specs.declared.shown.Shown.{Shown}
use Rattle.melon_observe.specs.Members.{is_ascending, below, above, are_below, are_not_below}
use Rattle.melon_observe.specs.Gap.{whole}

abbrev over : Shown → Shown → Bool
over m n = is_below m.id n.id

-- ---- a member moves past the gap

-- from before it to behind it
pub moved : (xs : List Shown) (m : Shown) (behind : List Shown) → whole xs (behind ++ m ∷ []) ≡ whole (xs ++ m ∷ []) behind
moved xs m behind = ap (λ l. xs ++ l) (reverse-append behind (m ∷ [])) ∙ sym (append_assoc xs (m ∷ []) (reverse behind))

-- nothing is behind the gap
pub none_behind : (ms behind : List Shown) → behind ≡ [] → whole ms behind ≡ ms
none_behind ms behind none = ap (λ (l : List Shown). ms ++ reverse l) none ∙ append-nil ms

-- the last of a list is the first of it turned round
pub turned : (xs : List Shown) (m : Shown) → reverse (xs ++ m ∷ []) ≡ m ∷ reverse xs
turned xs m = reverse-append xs (m ∷ [])

-- ---- members that ascend

over_middle : (p : Shown → Bool) (xs : List Shown) (m : Shown) (ys : List Shown) → list_all p (xs ++ m ∷ ys) ≡ true → p m ≡ true
over_middle p [] m ys h = and_left (p m) _ h
over_middle p (x ∷ xs) m ys h = over_middle p xs m ys (and_right (p x) _ h)

lower : (xs : List Shown) (m : Shown) (ys : List Shown) → is_ascending (xs ++ m ∷ ys) ≡ true → are_below m.id xs ≡ true
lower [] m ys asc = refl
lower (x ∷ xs) m ys asc = both _ _ (over_middle (over x) xs m ys (and_left (list_all (over x) (xs ++ m ∷ ys)) _ asc)) (lower xs m ys (and_right (list_all (over x) (xs ++ m ∷ ys)) _ asc))

pub ascending_behind : (xs ys : List Shown) → is_ascending (xs ++ ys) ≡ true → is_ascending ys ≡ true
ascending_behind [] ys asc = asc
ascending_behind (x ∷ xs) ys asc = ascending_behind xs ys (and_right (list_all (over x) (xs ++ ys)) _ asc)

-- members up to one that is below an id
pub down_to : (id : List ℕ) (xs : List Shown) (m : Shown) (ys : List Shown) → is_ascending (xs ++ m ∷ ys) ≡ true → is_below m.id id ≡ true → are_below id (xs ++ m ∷ []) ≡ true
down_to id xs m ys asc low =
    all_append (λ n. is_below n.id id) xs (m ∷ []) (all_mono (λ n. is_below n.id m.id) (λ n. is_below n.id id) xs (lower xs m ys asc) (λ n h. below_trans n.id m.id id h low)) (both _ _ low refl)

-- one member more
pub more_below : (id : List ℕ) (xs : List Shown) (m : Shown) → are_below id xs ≡ true → is_below m.id id ≡ true → are_below id (xs ++ m ∷ []) ≡ true
more_below id xs m all low = all_append (λ n. is_below n.id id) xs (m ∷ []) all (both _ _ low refl)

over_not : (id : List ℕ) (m n : Shown) (b : Bool) → is_below n.id id ≡ b → is_below m.id n.id ≡ true → is_below m.id id ≡ false → not b ≡ true
over_not id m n true e h high = let t : is_below m.id id ≡ true = below_trans m.id n.id id h e in cc
over_not id m n false e h high = refl

-- members from one on that isn't below an id
pub up_from : (id : List ℕ) (m : Shown) (rs : List Shown) → is_ascending (m ∷ rs) ≡ true → is_below m.id id ≡ false → are_not_below id (m ∷ rs) ≡ true
up_from id m rs asc high =
    both _ _ (ap not high) (all_mono (over m) (λ n. not (is_below n.id id)) rs (and_left (list_all (over m) rs) _ asc) (λ n h. over_not id m n (is_below n.id id) refl h high))

-- ---- the member of an id

-- the first behind the gap has it
pub same_dropped : (id : List ℕ) (m : Shown) (rs : List Shown) → is_ascending (m ∷ rs) ≡ true → id_cmp m.id id ≡ Equal → above id (m ∷ rs) ≡ rs
same_dropped id m rs asc e =
    let same : m.id ≡ id = equal_ids m.id id e in
    let all : list_all (over m) rs ≡ true = and_left (list_all (over m) rs) _ asc in
    let high : is_below id m.id ≡ false = subst (λ (i : List ℕ). is_below id i ≡ false) (sym same) (not_below_self id) in
    rw high (filter_all (over m) (λ n. is_below id n.id) rs all (λ n h. subst (λ (i : List ℕ). is_below i n.id ≡ true) same h))

higher : (a b : List ℕ) (o : Ordering) → id_cmp a b ≡ o → is_lt o ≡ false → is_ne o ≡ true → is_below b a ≡ true
higher a b Less e high apart = cc
higher a b Equal e high apart = cc
higher a b Greater e high apart = ap is_lt (nat_list_cmp_total.antisymm b a ∙ ap ordering_reverse e)

-- it is above it
pub other_kept : (id : List ℕ) (m : Shown) (rs : List Shown) → is_ascending (m ∷ rs) ≡ true → is_below m.id id ≡ false → is_ne (id_cmp m.id id) ≡ true → above id (m ∷ rs) ≡ m ∷ rs
other_kept id m rs asc high apart =
    let up : is_below id m.id ≡ true = higher m.id id (id_cmp m.id id) refl high apart in
    filter_all (λ n. is_below id n.id) (λ n. is_below id n.id) (m ∷ rs) (both _ _ up (all_mono (over m) (λ n. is_below id n.id) rs (and_left (list_all (over m) rs) _ asc) (λ n h. below_trans id m.id n.id up h))) (λ n h. h)

pub false_from_not : (b : Bool) → not b ≡ true → b ≡ false
false_from_not true h = cc
false_from_not false h = refl

equal_from : (o : Ordering) → is_ne o ≡ false → o ≡ Equal
equal_from Less h = cc
equal_from Equal h = refl
equal_from Greater h = cc

-- ---- the last of a list leaves it

-- and comes back to those before the gap
pub down_to_last : (id : List ℕ) (was rest new behind : List Shown) (m : Shown) → was ≡ rest ++ m ∷ [] → new ≡ rest ++ m ∷ [] → is_ascending (whole was behind) ≡ true → is_below m.id id ≡ true → are_below id new ≡ true
down_to_last id was rest new behind m left back asc low =
    let all : is_ascending (rest ++ m ∷ reverse behind) ≡ true =
    subst (λ (l : List Shown). is_ascending l ≡ true) (ap (λ (l : List Shown). l ++ reverse behind) left ∙ append_assoc rest (m ∷ []) (reverse behind)) asc in
    subst (λ (l : List Shown). are_below id l ≡ true) (sym back) (down_to id rest m (reverse behind) all low)

-- and comes back to those behind it
pub up_to_last : (id : List ℕ) (was rest new before : List Shown) (m : Shown) → was ≡ rest ++ m ∷ [] → new ≡ rest ++ m ∷ [] → is_ascending (whole before was) ≡ true → is_below m.id id ≡ false → are_not_below id (reverse new) ≡ true
up_to_last id was rest new before m left back asc high =
    let all : is_ascending (m ∷ reverse rest) ≡ true = subst (λ (l : List Shown). is_ascending l ≡ true) (ap reverse left ∙ turned rest m) (ascending_behind before (reverse was) asc) in
    subst (λ (l : List Shown). are_not_below id l ≡ true) (sym (ap reverse back ∙ turned rest m)) (up_from id m (reverse rest) all high)

module _ (id : List ℕ) (was rest : List Shown) (m : Shown) (left : was ≡ rest ++ m ∷ []) (asc : is_ascending (reverse was) ≡ true) where
  turn : reverse was ≡ m ∷ reverse rest
  turn = ap reverse left ∙ turned rest m

  all : is_ascending (m ∷ reverse rest) ≡ true
  all = subst (λ (l : List Shown). is_ascending l ≡ true) turn asc

  pub keeps_other : (new : List Shown) → new ≡ rest ++ m ∷ [] → are_not_below id (reverse was) ≡ true → is_ne (id_cmp m.id id) ≡ true → reverse new ≡ above id (reverse was)
  keeps_other new back high apart =
      let first : not (is_below m.id id) ≡ true = and_left (not (is_below m.id id)) _ (subst (λ (l : List Shown). are_not_below id l ≡ true) turn high) in
      ap reverse back ∙ (turned rest m ∙ (sym (other_kept id m (reverse rest) all (false_from_not (is_below m.id id) first) apart) ∙ ap (above id) (sym turn)))

  pub drops_same : is_ne (id_cmp m.id id) ≡ false → reverse rest ≡ above id (reverse was)
  drops_same same = sym (same_dropped id m (reverse rest) all (equal_from (id_cmp m.id id) same)) ∙ ap (above id) (sym turn)

-- ---- the gap at an id

pub parted_below : (id : List ℕ) (xs ys : List Shown) → are_below id xs ≡ true → are_not_below id ys ≡ true → xs ≡ below id (xs ++ ys)
parted_below id xs ys low high =
    let test = λ (m : Shown). is_below m.id id in
    sym (
    filter-append test xs ys
    ∙ ap (λ l. l ++ filter test ys) (filter_all test test xs low (λ m h. h))
    ∙ ap (λ l. xs ++ l) (filter_none (λ m. not (test m)) test ys high (λ m h. false_from_not (test m) h))
    ∙ append-nil xs
    )

pub parted_above : (id : List ℕ) (xs ys : List Shown) → are_below id xs ≡ true → above id ys ≡ above id (xs ++ ys)
parted_above id xs ys low =
    let test = λ (m : Shown). is_below id m.id in
    sym (filter-append test xs ys ∙ ap (λ l. l ++ filter test ys) (filter_none (λ m. is_below m.id id) test xs low (λ m h. below_asym m.id id h)))
