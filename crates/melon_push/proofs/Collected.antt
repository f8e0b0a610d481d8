-- What is collected has the form of a fetch, and is made of copies of the rows.
use Rattle.std.proofs.Common.{◌≡◌, ℕ, zero, suc, ◌+◌, ◌<◌, ◌≤◌, ◌==◌, nat_lt, nat_le, List, [], ◌∷◌, ◌++◌, length, map, filter, get_or, set, Bool, true, false, not, ◌&&◌, ◌||◌, cond, Option, Some, None, find, bytes_eq, Ordering, Equal, refl, sym, ap, ◌∙◌, subst, arith}
use Rattle.std.specs.Bool.{⊤}
use Rattle.std.specs.Ordering.{nat_cmp, is_lt, ordering_then}
use Rattle.std.specs.List.{flat_map, range_with_len, list_all, list_any, AllByRecursion}
use Rattle.std.proofs.lemmas.Bool.{and_parts, and_from, both_ways, or_from, or_cases}
use Rattle.std.proofs.lemmas.Bool.Decides.{nat_tests}
use Rattle.std.proofs.lemmas.List.{map-append}
use Rattle.melon_raw.specs.declared.raw.Status.{Status}
use Rattle.melon_raw.specs.declared.raw.Status.TheVariants.{Created, Updated, Deleted, Synced}
use Rattle.melon_raw.specs.declared.raw.Raw.{Raw}
use Rattle.melon_raw.specs.Order.{id_cmp, is_below}
use Rattle.melon_raw.specs.Rows.{Key, Rows, is_key, at, at_id, is_ascending}
use Rattle.melon_table.proofs.Order.{below_apart, bytes_same}
use Rattle.melon_table.proofs.ById.{is_ascending-filter, is_ascending-put_row, is_ascending-without_row}
use Rattle.melon_change.specs.declared.change.Change.{Change}
use Rattle.melon_change.specs.Changes.{with_after, after_change, after_set}
use Rattle.melon_wire.specs.declared.fetch.Held.{Held}
use Rattle.melon_wire.specs.declared.fetch.Gone.{Gone}
use Rattle.melon_wire.specs.declared.fetch.Fetch.{Fetch}
use Rattle.melon_wire.specs.Keys.{key_at, is_before, is_in, are_apart, do_ascend}
use Rattle.melon_raw.specs.Same.{status_eq}
use Rattle.melon_wire.specs.Collected.{has_status, held_at, gone_at, rows_with, held_key, gone_key, keys_fetched, collected, IsFetch, is_within}
use Rattle.melon_wire.proofs.KeyOrder.{split, is_key_same, is_key_refl, before_all, all_mono}
use Rattle.melon_raw.proofs.Equals.{status_same}
use Rattle.melon_push.specs.Laws.{AllAscend, IsCopy, IsMarked, IsCollected, CollectedIsFetch, RowsStayInOrder}
use Rattle.melon_push.proofs.Lists.{all-append, all_flat, each-append}

-- ---- keys of rows that ascend

abbrev key_in : ℕ → Raw → Key
key_in i r = key_at i r.id

same_cmp : (i : ℕ) → nat_cmp i i ≡ Equal
same_cmp i = let low : nat_lt i i ≡ false = grind (arith, nat_tests) in let same : (i == i) ≡ true = grind (arith, nat_tests) in rw (low, same) refl

before_here : (i : ℕ) (a b : List ℕ) → is_below a b ≡ true → is_before (key_at i a) (key_at i b) ≡ true
before_here i a b h = ap (λ o. is_lt (ordering_then o (id_cmp a b))) (same_cmp i) ∙ h

before_later : (x y : Key) → x.table < y.table → is_before x y ≡ true
before_later x y h = let low : nat_lt x.table y.table ≡ true = grind (arith, nat_tests) in rw low refl

all_before : (i : ℕ) (r : Raw) (rs : List Raw) → list_all (λ s. is_below r.id s.id) rs ≡ true → list_all (is_before (key_in i r)) (map (key_in i) rs) ≡ true
all_before i r [] h = refl
all_before i r (s ∷ rs) h =
    let parts : (is_below r.id s.id ≡ true) × (list_all (λ t. is_below r.id t.id) rs ≡ true) = and_parts (is_below r.id s.id) (list_all (λ t. is_below r.id t.id) rs) h in
    and_from (is_before (key_in i r) (key_in i s)) (list_all (is_before (key_in i r)) (map (key_in i) rs)) (before_here i r.id s.id parts.0) (all_before i r rs parts.1)

keys_ascend : (i : ℕ) (rs : List Raw) → is_ascending rs ≡ true → do_ascend (map (key_in i) rs) ≡ true
keys_ascend i [] h = refl
keys_ascend i (r ∷ rs) h =
    let parts : (list_all (λ s. is_below r.id s.id) rs ≡ true) × (is_ascending rs ≡ true) = and_parts (list_all (λ s. is_below r.id s.id) rs) (is_ascending rs) h in
    and_from (list_all (is_before (key_in i r)) (map (key_in i) rs)) (do_ascend (map (key_in i) rs)) (all_before i r rs parts.0) (keys_ascend i rs parts.1)

ascend-append : (xs ys : List Key) → do_ascend xs ≡ true → do_ascend ys ≡ true → list_all (λ x. list_all (is_before x) ys) xs ≡ true → do_ascend (xs ++ ys) ≡ true
ascend-append [] ys h k all = k
ascend-append (x ∷ xs) ys h k all =
    let hs : (list_all (is_before x) xs ≡ true) × (do_ascend xs ≡ true) = and_parts (list_all (is_before x) xs) (do_ascend xs) h in
    let as' : (list_all (is_before x) ys ≡ true) × (list_all (λ z. list_all (is_before z) ys) xs ≡ true) = and_parts (list_all (is_before x) ys) (list_all (λ z. list_all (is_before z) ys) xs) all in
    and_from (list_all (is_before x) (xs ++ ys)) (do_ascend (xs ++ ys)) (all-append (is_before x) xs ys hs.0 as'.0) (ascend-append xs ys hs.1 k as'.1)

-- ---- the rows of one status, table by table

ascends_at : (rows : Rows) (i : ℕ) → AllAscend rows → is_ascending (get_or rows i []) ≡ true
ascends_at [] i h = refl
ascends_at (rs ∷ rows) zero h = h.0
ascends_at (rs ∷ rows) (suc i) h = ascends_at rows i h.1

module _ (rows : Rows) (s : Status) where
  abbrev pub keys_with : ℕ → List Key
  keys_with i = map (key_in i) (rows_with s rows i)

  in_table : (i : ℕ) (rs : List Raw) (p : Key → Bool) → ((r : Raw) → p (key_in i r) ≡ true) → list_all p (map (key_in i) rs) ≡ true
  in_table i [] p h = refl
  in_table i (r ∷ rs) p h = and_from (p (key_in i r)) (list_all p (map (key_in i) rs)) (h r) (in_table i rs p h)

  from_table : (a n : ℕ) → list_all (λ y. nat_le a y.table) (flat_map keys_with (range_with_len a n)) ≡ true
  from_table a zero = refl
  from_table a (suc n) = all-append (λ y. nat_le a y.table) (keys_with a) (flat_map keys_with (range_with_len (a + 1) n))
      (in_table a (rows_with s rows a) (λ y. nat_le a y.table) (λ r. own a))
      (all_mono (λ y. nat_le (a + 1) y.table) (λ y. nat_le a y.table) (flat_map keys_with (range_with_len (a + 1) n)) (from_table (a + 1) n) (λ y h. lower a y.table h))
    where
      own : (k : ℕ) → nat_le k k ≡ true
      own k = grind (arith, nat_tests)

      lower : (k m : ℕ) → nat_le (k + 1) m ≡ true → nat_le k m ≡ true
      lower k m h = grind (arith, nat_tests)

  below_table : (a n m : ℕ) → a + n ≤ m → list_all (λ y. nat_lt y.table m) (flat_map keys_with (range_with_len a n)) ≡ true
  below_table a zero m h = refl
  below_table a (suc n) m h = all-append (λ y. nat_lt y.table m) (keys_with a) (flat_map keys_with (range_with_len (a + 1) n)) (in_table a (rows_with s rows a) (λ y. nat_lt y.table m) (λ r. low (omega arith))) (below_table (a + 1) n m (omega arith))
    where
      low : a < m → nat_lt a m ≡ true
      low k = grind (arith, nat_tests)

  module _ (up : AllAscend rows) where
    all_ascend : (a n : ℕ) → do_ascend (flat_map keys_with (range_with_len a n)) ≡ true
    all_ascend a zero = refl
    all_ascend a (suc n) = ascend-append (keys_with a) (flat_map keys_with (range_with_len (a + 1) n))
        (keys_ascend a (rows_with s rows a) (is_ascending-filter (has_status s) (get_or rows a []) (ascends_at rows a up)))
        (all_ascend (a + 1) n)
        (in_table a (rows_with s rows a) (λ x. list_all (is_before x) (flat_map keys_with (range_with_len (a + 1) n)))
        (λ r. all_mono (λ y. nat_le (a + 1) y.table) (is_before (key_in a r)) (flat_map keys_with (range_with_len (a + 1) n)) (from_table (a + 1) n) (λ y h. before_later (key_in a r) y (later y.table h))))
      where
        later : (m : ℕ) → nat_le (a + 1) m ≡ true → a < m
        later m h = grind (arith, nat_tests)

-- ---- their keys

held_keys : (i : ℕ) (rs : List Raw) → map held_key (map (λ r. record { table = i; row = r }) rs) ≡ map (key_in i) rs
held_keys i [] = refl
held_keys i (r ∷ rs) = ap (λ ks. key_in i r ∷ ks) (held_keys i rs)

gone_keys : (i : ℕ) (rs : List Raw) → map gone_key (map (λ r. record { table = i; id = r.id }) rs) ≡ map (key_in i) rs
gone_keys i [] = refl
gone_keys i (r ∷ rs) = ap (λ ks. key_in i r ∷ ks) (gone_keys i rs)

all_held_keys : (s : Status) (rows : Rows) (places : List ℕ) → map held_key (flat_map (held_at s rows) places) ≡ flat_map (keys_with rows s) places
all_held_keys s rows [] = refl
all_held_keys s rows (i ∷ is) = map-append held_key (held_at s rows i) (flat_map (held_at s rows) is) ∙ (rw (held_keys i (rows_with s rows i)) (ap (λ ks. keys_with rows s i ++ ks) (all_held_keys s rows is)))

all_gone_keys : (rows : Rows) (places : List ℕ) → map gone_key (flat_map (gone_at rows) places) ≡ flat_map (keys_with rows Deleted) places
all_gone_keys rows [] = refl
all_gone_keys rows (i ∷ is) = map-append gone_key (gone_at rows i) (flat_map (gone_at rows) is) ∙ (rw (gone_keys i (rows_with Deleted rows i)) (ap (λ ks. keys_with rows Deleted i ++ ks) (all_gone_keys rows is)))

-- ---- copies

-- r is the row of its id among rs
abbrev IsOwn : List Raw → Raw → Type 0
IsOwn rs r = at_id r.id rs ≡ Some r

own_later : (r : Raw) (rs later : List Raw) → list_all (λ s. is_below r.id s.id) later ≡ true → AllByRecursion (IsOwn rs) later → AllByRecursion (IsOwn (r ∷ rs)) later
own_later r rs [] h all = tt
own_later r rs (s ∷ later) h all =
    let parts : (is_below r.id s.id ≡ true) × (list_all (λ t. is_below r.id t.id) later ≡ true) = and_parts (is_below r.id s.id) (list_all (λ t. is_below r.id t.id) later) h in
    (rw (below_apart r.id s.id parts.0) all.0, own_later r rs later parts.1 all.1)

-- each row of rows that ascend is that of its id
own_rows : (rs : List Raw) → is_ascending rs ≡ true → AllByRecursion (IsOwn rs) rs
own_rows [] h = tt
own_rows (r ∷ rs) h =
    let parts : (list_all (λ s. is_below r.id s.id) rs ≡ true) × (is_ascending rs ≡ true) = and_parts (list_all (λ s. is_below r.id s.id) rs) (is_ascending rs) h in
    let first : IsOwn (r ∷ rs) r = rw (bytes_same r.id r.id refl) refl in
    (first, own_later r rs rs parts.0 (own_rows rs parts.1))

copies_here : (rows : Rows) (s : Status) (i : ℕ) (rs : List Raw) → AllByRecursion (IsOwn (get_or rows i [])) rs → AllByRecursion (IsCopy rows) (map (λ r. record { table = i; row = r }) (filter (has_status s) rs))
copies_here rows s i [] all = tt
copies_here rows s i (r ∷ rs) all = let ih : AllByRecursion (IsCopy rows) (map (λ t. record { table = i; row = t }) (filter (has_status s) rs)) = copies_here rows s i rs all.1 in
    split (has_status s r) (λ e. rw e (all.0, ih)) (λ e. rw e ih)

marked_here : (rows : Rows) (i : ℕ) (rs : List Raw) → AllByRecursion (IsOwn (get_or rows i [])) rs → AllByRecursion (IsMarked rows) (map (λ r. record { table = i; id = r.id }) (filter (has_status Deleted) rs))
marked_here rows i [] all = tt
marked_here rows i (r ∷ rs) all = let ih : AllByRecursion (IsMarked rows) (map (λ t. record { table = i; id = t.id }) (filter (has_status Deleted) rs)) = marked_here rows i rs all.1 in
    split (has_status Deleted r) (λ e. rw e ((r, all.0, e), ih)) (λ e. rw e ih)

copies_all : (rows : Rows) (s : Status) → AllAscend rows → (places : List ℕ) → AllByRecursion (IsCopy rows) (flat_map (held_at s rows) places)
copies_all rows s up [] = tt
copies_all rows s up (i ∷ is) = each-append (IsCopy rows) (held_at s rows i) (flat_map (held_at s rows) is) (copies_here rows s i (get_or rows i []) (own_rows (get_or rows i []) (ascends_at rows i up))) (copies_all rows s up is)

marked_all : (rows : Rows) → AllAscend rows → (places : List ℕ) → AllByRecursion (IsMarked rows) (flat_map (gone_at rows) places)
marked_all rows up [] = tt
marked_all rows up (i ∷ is) = each-append (IsMarked rows) (gone_at rows i) (flat_map (gone_at rows) is) (marked_here rows i (get_or rows i []) (own_rows (get_or rows i []) (ascends_at rows i up))) (marked_all rows up is)

-- ---- statuses

abbrev has_held : Status → Held → Bool
has_held s h = has_status s h.row

status_here : (s : Status) (i : ℕ) (rs : List Raw) → list_all (has_held s) (map (λ r. record { table = i; row = r }) (filter (has_status s) rs)) ≡ true
status_here s i [] = refl
status_here s i (r ∷ rs) = let ih : list_all (has_held s) (map (λ t. record { table = i; row = t }) (filter (has_status s) rs)) ≡ true = status_here s i rs in
    split (has_status s r) (λ e. rw e (and_from (has_status s r) _ e ih)) (λ e. rw e ih)

-- ---- no record stands in two lists

-- x has a row of the status
abbrev HasRow : Rows → Status → Key → Type 0
HasRow rows s x = (row : Raw) × (at rows x ≡ Some row) × (has_status s row ≡ true)

found_held : (rows : Rows) (s : Status) (x : Key) (held : List Held) → AllByRecursion (IsCopy rows) held → list_all (λ h. has_status s h.row) held ≡ true → is_in x (map held_key held) ≡ true → HasRow rows s x
found_held rows s x [] all is m = cc
found_held rows s x (h ∷ held) all is m =
    let parts : (has_status s h.row ≡ true) × (list_all (λ g. has_status s g.row) held ≡ true) = and_parts (has_status s h.row) (list_all (λ g. has_status s g.row) held) is in
    let ih : is_in x (map held_key held) ≡ true → HasRow rows s x = found_held rows s x held all.1 parts.1 in
    split (is_key x (held_key h)) (λ e. (h.row, ap (at rows) (is_key_same x (held_key h) e) ∙ all.0, parts.0)) (λ e. ih (rw e at m))

found_gone : (rows : Rows) (x : Key) (gone : List Gone) → AllByRecursion (IsMarked rows) gone → is_in x (map gone_key gone) ≡ true → HasRow rows Deleted x
found_gone rows x [] all m = cc
found_gone rows x (g ∷ gone) all m =
    let ih : is_in x (map gone_key gone) ≡ true → HasRow rows Deleted x = found_gone rows x gone all.1 in
    split (is_key x (gone_key g)) (λ e. (all.0.0, ap (at rows) (is_key_same x (gone_key g) e) ∙ all.0.1, all.0.2)) (λ e. ih (rw e at m))

one_status : (rows : Rows) (x : Key) (s t : Status) → HasRow rows s x → HasRow rows t x → s ≡ t
one_status rows x s t h k =
    let same : h.0 ≡ k.0 = some_same (sym h.1 ∙ k.1) in
    sym (status_same h.0.status s h.2) ∙ (ap (λ (r : Raw). r.status) same ∙ status_same k.0.status t k.2)
  where
    some_same : {A : Type 0} {a b : A} → Some a ≡ Some b → a ≡ b
    some_same e = cc

in-append : (x : Key) (xs ys : List Key) → is_in x (xs ++ ys) ≡ (is_in x xs || is_in x ys)
in-append x [] ys = refl
in-append x (k ∷ xs) ys = let ih : is_in x (xs ++ ys) ≡ (is_in x xs || is_in x ys) = in-append x xs ys in split (is_key x k) (λ e. rw e refl) (λ e. rw e ih)

apart-append : (xs ys : List Key) → are_apart xs ≡ true → are_apart ys ≡ true → ((x : Key) → is_in x xs ≡ true → is_in x ys ≡ false) → are_apart (xs ++ ys) ≡ true
apart-append [] ys h k off = k
apart-append (x ∷ xs) ys h k off =
    let parts : (not (is_in x xs) ≡ true) × (are_apart xs ≡ true) = and_parts (not (is_in x xs)) (are_apart xs) h in
    let here : is_in x ys ≡ false = off x (ap (λ b. b || is_in x xs) (is_key_refl x)) in
    let whole : is_in x (xs ++ ys) ≡ false = in-append x xs ys ∙ or_from (is_in x xs) (is_in x ys) (from_not (is_in x xs) parts.0) here in
    and_from (not (is_in x (xs ++ ys))) (are_apart (xs ++ ys)) (ap not whole) (apart-append xs ys parts.1 k (λ z m. off z (more z m)))
  where
    from_not : (b : Bool) → not b ≡ true → b ≡ false
    from_not true e = cc
    from_not false e = refl

    more : (z : Key) → is_in z xs ≡ true → (is_key z x || is_in z xs) ≡ true
    more z m = split (is_key z x) (λ e. rw e refl) (λ e. rw e m)

apart_from_ascent : (ks : List Key) → do_ascend ks ≡ true → are_apart ks ≡ true
apart_from_ascent [] h = refl
apart_from_ascent (x ∷ xs) h =
    let parts : (list_all (is_before x) xs ≡ true) × (do_ascend xs ≡ true) = and_parts (list_all (is_before x) xs) (do_ascend xs) h in
    and_from (not (is_in x xs)) (are_apart xs) (ap not (before_all x xs parts.0)) (apart_from_ascent xs parts.1)

not_in : (x : Key) (ks : List Key) → (is_in x ks ≡ true → ⊥) → is_in x ks ≡ false
not_in x ks h = split (is_in x ks) (λ e. absurd (h e)) (λ e. e)

-- ---- the whole

module _ (rows : Rows) (up : AllAscend rows) where
  abbrev created : List Held
  created = flat_map (held_at Created rows) (range_with_len 0 (length rows))

  abbrev updated : List Held
  updated = flat_map (held_at Updated rows) (range_with_len 0 (length rows))

  abbrev deleted : List Gone
  deleted = flat_map (gone_at rows) (range_with_len 0 (length rows))

  held_up : (s : Status) → do_ascend (map held_key (flat_map (held_at s rows) (range_with_len 0 (length rows)))) ≡ true
  held_up s = ap do_ascend (all_held_keys s rows (range_with_len 0 (length rows))) ∙ all_ascend rows s up 0 (length rows)

  gone_up : do_ascend (map gone_key deleted) ≡ true
  gone_up = ap do_ascend (all_gone_keys rows (range_with_len 0 (length rows))) ∙ all_ascend rows Deleted up 0 (length rows)

  statuses : (s : Status) → list_all (has_held s) (flat_map (held_at s rows) (range_with_len 0 (length rows))) ≡ true
  statuses s = all_flat (has_held s) (held_at s rows) (λ i. status_here s i (get_or rows i [])) (range_with_len 0 (length rows))

  held_row : (s : Status) (x : Key) → is_in x (map held_key (flat_map (held_at s rows) (range_with_len 0 (length rows)))) ≡ true → HasRow rows s x
  held_row s x m = found_held rows s x (flat_map (held_at s rows) (range_with_len 0 (length rows))) (copies_all rows s up (range_with_len 0 (length rows))) (statuses s) m

  gone_row : (x : Key) → is_in x (map gone_key deleted) ≡ true → HasRow rows Deleted x
  gone_row x m = found_gone rows x deleted (marked_all rows up (range_with_len 0 (length rows))) m

  apart : are_apart (map held_key created ++ (map held_key updated ++ map gone_key deleted)) ≡ true
  apart = apart-append (map held_key created) (map held_key updated ++ map gone_key deleted)
      (apart_from_ascent (map held_key created) (held_up Created))
      (apart-append (map held_key updated) (map gone_key deleted) (apart_from_ascent (map held_key updated) (held_up Updated)) (apart_from_ascent (map gone_key deleted) gone_up)
      (λ x m. not_in x (map gone_key deleted) (λ k. no_updated (one_status rows x Updated Deleted (held_row Updated x m) (gone_row x k)))))
      (λ x m. in-append x (map held_key updated) (map gone_key deleted)
      ∙ or_from (is_in x (map held_key updated)) (is_in x (map gone_key deleted))
      (not_in x (map held_key updated) (λ k. no_created (one_status rows x Created Updated (held_row Created x m) (held_row Updated x k))))
      (not_in x (map gone_key deleted) (λ k. no_gone (one_status rows x Created Deleted (held_row Created x m) (gone_row x k)))))
    where
      no_updated : Updated ≡ Deleted → ⊥
      no_updated e = cc

      no_created : Created ≡ Updated → ⊥
      no_created e = cc

      no_gone : Created ≡ Deleted → ⊥
      no_gone e = cc

  held_within : (s : Status) → list_all (λ x. nat_lt x.table (length rows)) (map held_key (flat_map (held_at s rows) (range_with_len 0 (length rows)))) ≡ true
  held_within s = ap (list_all (λ (x : Key). nat_lt x.table (length rows))) (all_held_keys s rows (range_with_len 0 (length rows))) ∙ below_table rows s 0 (length rows) (length rows) (omega arith)

  gone_within : list_all (λ x. nat_lt x.table (length rows)) (map gone_key deleted) ≡ true
  gone_within = ap (list_all (λ (x : Key). nat_lt x.table (length rows))) (all_gone_keys rows (range_with_len 0 (length rows))) ∙ below_table rows Deleted 0 (length rows) (length rows) (omega arith)

  pub is_collected : IsCollected rows (collected rows)
  unfolding collected
  is_collected = record {
    form = record { created = statuses Created; updated = statuses Updated; created_ascend = held_up Created; updated_ascend = held_up Updated; deleted_ascend = gone_up; apart = apart };
    within = all-append (λ (x : Key). nat_lt x.table (length rows)) (map held_key created) (map held_key updated ++ map gone_key deleted) (held_within Created) (all-append (λ (x : Key). nat_lt x.table (length rows)) (map held_key updated) (map gone_key deleted) (held_within Updated) gone_within);
    created = copies_all rows Created up (range_with_len 0 (length rows));
    updated = copies_all rows Updated up (range_with_len 0 (length rows));
    deleted = marked_all rows up (range_with_len 0 (length rows));
  }

pub collected_fetch : CollectedIsFetch
collected_fetch rows up = is_collected rows up

-- ---- rows stay in order

with_order : (id : List ℕ) (after : Option Raw) (rs : List Raw) → is_ascending rs ≡ true → is_ascending (with_after id after rs) ≡ true
with_order id None rs h = is_ascending-without_row id rs h
with_order id (Some row) rs h = is_ascending-put_row row rs h

set_order : (rows : Rows) (i : ℕ) (rs : List Raw) → AllAscend rows → is_ascending rs ≡ true → AllAscend (set rows i rs)
set_order [] i rs h k = tt
set_order (ss ∷ rows) zero rs h k = (k, h.1)
set_order (ss ∷ rows) (suc i) rs h k = (h.0, set_order rows i rs h.1 k)

pub stay_in_order : RowsStayInOrder
stay_in_order rows [] h = h
stay_in_order rows (c ∷ cs) h = stay_in_order (after_change rows c) cs (set_order rows c.table _ h (with_order c.id c.after (get_or rows c.table []) (ascends_at rows c.table h)))
