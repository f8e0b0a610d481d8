-- Rows by id: found where they are made of records, and one list of the same rows ascends.
use Rattle.std.proofs.Common.{◌≡◌, ℕ, ◌==◌, List, [], ◌∷◌, filter, Bool, true, false, ◌&&◌, ◌||◌, cond, Option, Some, None, Ordering, Equal, bytes_eq, nat_cmp, refl, sym, ap, ◌∙◌, subst}
use Rattle.std.specs.List.{list_all, filter_map, cons_option, AllByRecursion}
use Rattle.std.specs.Option.{option_and_then}
use Rattle.std.specs.Ordering.{is_lt, ordering_then}
use Rattle.std.proofs.lemmas.Bool.{and_parts, and_from, both_ways, false_from_ne_true}
use Rattle.std.proofs.lemmas.Bool.Decides.{Decides-eqb}
use Rattle.std.proofs.lemmas.Cmp.{nat_cmp_total, tied_itself}
use Rattle.melon_raw.specs.Order.{id_cmp, is_below}
use Rattle.melon_raw.specs.Rows.{Key, is_key}
use Rattle.melon_wire.specs.Forms.{names_ascend}
use Rattle.melon_wire.specs.Keys.{key_at, is_before, is_in, do_ascend, put_key, ascending}
use Rattle.melon_wire.proofs.KeyOrder.{split, bytes_same, same_bytes, is_key_same, before_trans, before_asym, before_other, before_apart}
use Rattle.melon_log.specs.declared.server_row.ServerRow.{ServerRow}
use Rattle.melon_log.specs.ServerRows.{id_of, at_id}

pub some_same : {A : Type 0} (a b : A) → Some a ≡ Some b → a ≡ b
some_same a b e = cc

pub none_some : {A : Type 0} (a : A) → None ≡ Some a → ⊥
none_some a e = cc

-- a row that is found has the id
pub id-at_id : (id : List ℕ) (rows : List ServerRow) (row : ServerRow) → at_id id rows ≡ Some row → row.id ≡ id
id-at_id id [] row found = cc
id-at_id id (r ∷ rs) row found =
    let ih : at_id id rs ≡ Some row → row.id ≡ id = id-at_id id rs row in
    split (bytes_eq id r.id) (λ e. subst (λ (x : ServerRow). x.id ≡ id) (some_same r row (rw e at found)) (sym (same_bytes id r.id e))) (λ e. ih (rw e at found))

-- ---- order of ids

-- records of one table go by their ids
pub before_is_below : (x y : Key) → x.table ≡ y.table → is_before x y ≡ is_below x.id y.id
before_is_below x y same =
    let tie : nat_cmp x.table y.table ≡ Equal = subst (λ (n : ℕ). nat_cmp x.table n ≡ Equal) same (tied_itself nat_cmp_total x.table) in
    ap (λ (o : Ordering). is_lt (ordering_then o (id_cmp x.id y.id))) tie

pub below_trans : (a b c : List ℕ) → is_below a b ≡ true → is_below b c ≡ true → is_below a c ≡ true
below_trans a b c p q =
    sym (before_is_below (key_at 0 a) (key_at 0 c) refl)
    ∙ before_trans (key_at 0 a) (key_at 0 b) (key_at 0 c) (before_is_below (key_at 0 a) (key_at 0 b) refl ∙ p) (before_is_below (key_at 0 b) (key_at 0 c) refl ∙ q)

pub below_asym : (a b : List ℕ) → is_below a b ≡ true → is_below b a ≡ false
below_asym a b p = sym (before_is_below (key_at 0 b) (key_at 0 a) refl) ∙ before_asym (key_at 0 a) (key_at 0 b) (before_is_below (key_at 0 a) (key_at 0 b) refl ∙ p)

pub below_apart : (a b : List ℕ) → is_below a b ≡ true → bytes_eq a b ≡ false
below_apart a b p = before_apart (key_at 0 a) (key_at 0 b) (before_is_below (key_at 0 a) (key_at 0 b) refl ∙ p)

pub below_other : (a b : List ℕ) → is_below a b ≡ false → bytes_eq a b ≡ false → is_below b a ≡ true
below_other a b p q = sym (before_is_below (key_at 0 b) (key_at 0 a) refl) ∙ before_other (key_at 0 a) (key_at 0 b) (before_is_below (key_at 0 a) (key_at 0 b) refl ∙ p) q

pub bytes_turned : (a b : List ℕ) → bytes_eq a b ≡ false → bytes_eq b a ≡ false
bytes_turned a b h = false_from_ne_true (bytes_eq b a) (λ e. both_ways (bytes_eq a b) h (bytes_same a b (sym (same_bytes b a e))))

-- ---- one list of the same rows ascends

-- an id below all of them has no row
pub none_above : (id : List ℕ) (rows : List ServerRow) → list_all (λ r. is_below id r.id) rows ≡ true → at_id id rows ≡ None
none_above id [] h = refl
none_above id (r ∷ rs) h =
    let t = and_parts (is_below id r.id) (list_all (λ x. is_below id x.id) rs) h in
    ap (λ (b : Bool). cond b (Some r) (at_id id rs)) (below_apart id r.id t.0) ∙ none_above id rs t.1

above_more : (a b : List ℕ) (rows : List ServerRow) → is_below a b ≡ true → list_all (λ r. is_below b r.id) rows ≡ true → list_all (λ r. is_below a r.id) rows ≡ true
above_more a b [] l h = refl
above_more a b (r ∷ rs) l h =
    let t = and_parts (is_below b r.id) (list_all (λ x. is_below b x.id) rs) h in
    and_from (is_below a r.id) (list_all (λ x. is_below a x.id) rs) (below_trans a b r.id l t.0) (above_more a b rs l t.1)

here : (r : ServerRow) (rs : List ServerRow) → at_id r.id (r ∷ rs) ≡ Some r
here r rs = ap (λ (b : Bool). cond b (Some r) (at_id r.id rs)) (bytes_same r.id r.id refl)

later : (id : List ℕ) (r : ServerRow) (rs : List ServerRow) → bytes_eq id r.id ≡ false → at_id id (r ∷ rs) ≡ at_id id rs
later id r rs h = ap (λ (b : Bool). cond b (Some r) (at_id id rs)) h

-- a row ahead of all others isn't among them
ahead : (x y : ServerRow) (xs ys : List ServerRow) → is_below x.id y.id ≡ true → list_all (λ r. is_below y.id r.id) ys ≡ true → ((id : List ℕ) → at_id id (x ∷ xs) ≡ at_id id (y ∷ ys)) → ⊥
ahead x y xs ys l h same =
    let none : at_id x.id (y ∷ ys) ≡ None = none_above x.id (y ∷ ys) (and_from (is_below x.id y.id) _ l (above_more x.id y.id ys l h)) in
    none_some x (sym none ∙ (sym (same x.id) ∙ here x xs))

pub same_rows : (xs ys : List ServerRow) → names_ascend id_of xs ≡ true → names_ascend id_of ys ≡ true → ((id : List ℕ) → at_id id xs ≡ at_id id ys) → xs ≡ ys
same_rows [] [] h k same = refl
same_rows [] (y ∷ ys) h k same = absurd (none_some y (same y.id ∙ here y ys))
same_rows (x ∷ xs) [] h k same = absurd (none_some x (sym (same x.id) ∙ here x xs))
same_rows (x ∷ xs) (y ∷ ys) h k same = split (bytes_eq x.id y.id) (one (same_rows xs ys ours.1 theirs.1)) two
  where
    ours : (list_all (λ r. is_below x.id r.id) xs ≡ true) × (names_ascend id_of xs ≡ true)
    ours = and_parts (list_all (λ r. is_below x.id r.id) xs) (names_ascend id_of xs) h

    theirs : (list_all (λ r. is_below y.id r.id) ys ≡ true) × (names_ascend id_of ys ≡ true)
    theirs = and_parts (list_all (λ r. is_below y.id r.id) ys) (names_ascend id_of ys) k

    tails : x.id ≡ y.id → (id : List ℕ) → at_id id xs ≡ at_id id ys
    tails e id = split (bytes_eq id x.id)
        (λ f. let at : id ≡ x.id = same_bytes id x.id f in
        ap (λ (i : List ℕ). at_id i xs) at ∙ none_above x.id xs ours.0 ∙ sym (ap (λ (i : List ℕ). at_id i ys) (at ∙ e) ∙ none_above y.id ys theirs.0))
        (λ f. sym (later id x xs f) ∙ (same id ∙ later id y ys (ap (λ (i : List ℕ). bytes_eq id i) (sym e) ∙ f)))

    one : (((id : List ℕ) → at_id id xs ≡ at_id id ys) → xs ≡ ys) → bytes_eq x.id y.id ≡ true → (x ∷ xs) ≡ (y ∷ ys)
    one ih e =
        let rest : xs ≡ ys = ih (tails (same_bytes x.id y.id e)) in
        let first : x ≡ y = some_same x y (sym (here x xs) ∙ (same x.id ∙ ap (λ (b : Bool). cond b (Some y) (at_id x.id ys)) e)) in
        λ i. first i ∷ rest i

    two : bytes_eq x.id y.id ≡ false → (x ∷ xs) ≡ (y ∷ ys)
    two e = absurd (split (is_below x.id y.id)
        (λ l. ahead x y xs ys l theirs.0 same)
        (λ l. ahead y x ys xs (below_other x.id y.id l e) ours.0 (λ id. sym (same id))))

-- ---- keys of one table

abbrev pub AllAt : ℕ → List Key → Type 0
AllAt i ks = AllByRecursion (λ (k : Key). k.table ≡ i) ks

put_all : (P : Key → Type 0) (x : Key) (ks : List Key) → P x → AllByRecursion P ks → AllByRecursion P (put_key x ks)
put_all P x [] p h = (p, tt)
put_all P x (y ∷ ys) p h = go (is_before x y) (is_key x y) (put_all P x ys p h.1)
  where
    go : (b c : Bool) → AllByRecursion P (put_key x ys) → AllByRecursion P (cond b (x ∷ y ∷ ys) (cond c (y ∷ ys) (y ∷ put_key x ys)))
    go true c ih = (p, h)
    go false true ih = h
    go false false ih = (h.0, ih)

pub all_ascending : (P : Key → Type 0) (ks : List Key) → AllByRecursion P ks → AllByRecursion P (ascending ks)
all_ascending P [] h = tt
all_ascending P (x ∷ xs) h = put_all P x (ascending xs) h.0 (all_ascending P xs h.1)

-- ---- rows made of the records of one table

module _ (row : Key → Option ServerRow) (own : (x : Key) (r : ServerRow) → row x ≡ Some r → r.id ≡ x.id) (i : ℕ) where
  at_step : (id : List ℕ) (k : Key) (o : Option ServerRow) (m : Bool) (rest : List ServerRow) → k.table ≡ i → row k ≡ o → at_id id rest ≡ cond m (row (key_at i id)) None
      → at_id id (cons_option o rest) ≡ cond (is_key (key_at i id) k || m) (row (key_at i id)) None
  at_step id k None m rest place is ih = split (is_key (key_at i id) k)
      (λ e. let none : row (key_at i id) ≡ None = ap row (is_key_same (key_at i id) k e) ∙ is in
      ih ∙ (either m none ∙ sym (ap (λ (b : Bool). cond (b || m) (row (key_at i id)) None) e ∙ none)))
      (λ e. ih ∙ sym (ap (λ (b : Bool). cond (b || m) (row (key_at i id)) None) e))
    where
      either : (b : Bool) → row (key_at i id) ≡ None → cond b (row (key_at i id)) None ≡ None
      either true none = none
      either false none = refl
  at_step id k (Some r) m rest place is ih =
      let same : r.id ≡ k.id = own k r is in
      let there : is_key (key_at i id) k ≡ bytes_eq id r.id =
      ap (λ (n : ℕ). (i == n) && bytes_eq id k.id) place ∙ (ap (λ (b : Bool). b && bytes_eq id k.id) ((Decides-eqb i i).1 refl) ∙ ap (λ (j : List ℕ). bytes_eq id j) (sym same)) in
      split (bytes_eq id r.id)
      (λ e. ap (λ (b : Bool). cond b (Some r) (at_id id rest)) e
      ∙ sym (ap (λ (b : Bool). cond (b || m) (row (key_at i id)) None) (there ∙ e) ∙ (ap row (is_key_same (key_at i id) k (there ∙ e)) ∙ is)))
      (λ e. ap (λ (b : Bool). cond b (Some r) (at_id id rest)) e ∙ (ih ∙ sym (ap (λ (b : Bool). cond (b || m) (row (key_at i id)) None) (there ∙ e))))

  pub at_id-made : (id : List ℕ) (ks : List Key) → AllAt i ks → at_id id (filter_map row ks) ≡ cond (is_in (key_at i id) ks) (row (key_at i id)) None
  at_id-made id [] all = refl
  at_id-made id (k ∷ ks) all = at_step id k (row k) (is_in (key_at i id) ks) (filter_map row ks) all.0 refl (at_id-made id ks all.1)

  above_step : (k j : Key) (o : Option ServerRow) (rest : List ServerRow) → j.table ≡ k.table → row j ≡ o → is_before k j ≡ true → list_all (λ r. is_below k.id r.id) rest ≡ true → list_all (λ r. is_below k.id r.id) (cons_option o rest) ≡ true
  above_step k j None rest place is l ih = ih
  above_step k j (Some r) rest place is l ih =
      and_from (is_below k.id r.id) (list_all (λ x. is_below k.id x.id) rest)
      (ap (λ (n : List ℕ). is_below k.id n) (own j r is) ∙ (sym (before_is_below k j (sym place)) ∙ l)) ih

  all_above : (k : Key) (ks : List Key) → k.table ≡ i → AllAt i ks → list_all (is_before k) ks ≡ true → list_all (λ r. is_below k.id r.id) (filter_map row ks) ≡ true
  all_above k [] place all h = refl
  all_above k (j ∷ js) place all h =
      let t = and_parts (is_before k j) (list_all (is_before k) js) h in
      above_step k j (row j) (filter_map row js) (all.0 ∙ sym place) refl t.0 (all_above k js place all.1 t.1)

  ascend_step : (k : Key) (o : Option ServerRow) (rest : List ServerRow) → row k ≡ o → list_all (λ r. is_below k.id r.id) rest ≡ true → names_ascend id_of rest ≡ true → names_ascend id_of (cons_option o rest) ≡ true
  ascend_step k None rest is above ih = ih
  ascend_step k (Some r) rest is above ih =
      and_from (list_all (λ x. is_below r.id x.id) rest) (names_ascend id_of rest) (subst (λ (n : List ℕ). list_all (λ x. is_below n x.id) rest ≡ true) (sym (own k r is)) above) ih

  pub ascend-made : (ks : List Key) → AllAt i ks → do_ascend ks ≡ true → names_ascend id_of (filter_map row ks) ≡ true
  ascend-made [] all h = refl
  ascend-made (k ∷ ks) all h =
      let t = and_parts (list_all (is_before k) ks) (do_ascend ks) h in
      ascend_step k (row k) (filter_map row ks) refl (all_above k ks all.0 all.1 t.0) (ascend-made ks all.1 t.1)

-- ---- rows that pass a test

abbrev pub if_passes : (ServerRow → Bool) → ServerRow → Option ServerRow
if_passes p r = cond (p r) (Some r) None

-- an id without a row has none among those that pass
none_passes : (p : ServerRow → Bool) (id : List ℕ) (rows : List ServerRow) → at_id id rows ≡ None → at_id id (filter p rows) ≡ None
none_passes p id [] none = refl
none_passes p id (x ∷ xs) none =
    let ih : at_id id xs ≡ None → at_id id (filter p xs) ≡ None = none_passes p id xs in
    split (bytes_eq id x.id)
    (λ e. absurd (none_some x (sym none ∙ ap (λ (b : Bool). cond b (Some x) (at_id id xs)) e)))
    (λ e. go (p x) e (ih (sym (later id x xs e) ∙ none)))
  where
    go : (b : Bool) → bytes_eq id x.id ≡ false → at_id id (filter p xs) ≡ None → at_id id (cond b (x ∷ filter p xs) (filter p xs)) ≡ None
    go true e rest = later id x (filter p xs) e ∙ rest
    go false e rest = rest

passed : (p : ServerRow → Bool) (id : List ℕ) (r : ServerRow) (rest : List ServerRow) (b : Bool) → p r ≡ b → bytes_eq id r.id ≡ true → at_id id rest ≡ None → at_id id (cond b (r ∷ rest) rest) ≡ if_passes p r
passed p id r rest true is e none = ap (λ (c : Bool). cond c (Some r) (at_id id rest)) e ∙ sym (ap (λ (c : Bool). cond c (Some r) None) is)
passed p id r rest false is e none = none ∙ sym (ap (λ (c : Bool). cond c (Some r) None) is)

unpassed : (id : List ℕ) (r : ServerRow) (rest : List ServerRow) (b : Bool) → bytes_eq id r.id ≡ false → at_id id (cond b (r ∷ rest) rest) ≡ at_id id rest
unpassed id r rest true e = later id r rest e
unpassed id r rest false e = refl

pub at_id-filter : (p : ServerRow → Bool) (id : List ℕ) (rows : List ServerRow) → names_ascend id_of rows ≡ true → at_id id (filter p rows) ≡ option_and_then (if_passes p) (at_id id rows)
at_id-filter p id [] h = refl
at_id-filter p id (r ∷ rs) h =
    let t = and_parts (list_all (λ x. is_below r.id x.id) rs) (names_ascend id_of rs) h in
    let ih : at_id id (filter p rs) ≡ option_and_then (if_passes p) (at_id id rs) = at_id-filter p id rs t.1 in
    split (bytes_eq id r.id)
    (λ e. let none : at_id id rs ≡ None = ap (λ (i : List ℕ). at_id i rs) (same_bytes id r.id e) ∙ none_above r.id rs t.0 in
    passed p id r (filter p rs) (p r) refl e (none_passes p id rs none) ∙ sym (ap (λ (c : Bool). option_and_then (if_passes p) (cond c (Some r) (at_id id rs))) e))
    (λ e. unpassed id r (filter p rs) (p r) e ∙ (ih ∙ sym (ap (λ (c : Bool). option_and_then (if_passes p) (cond c (Some r) (at_id id rs))) e)))
