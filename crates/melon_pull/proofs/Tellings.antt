-- All that is told: its records, and in which list each stands.
use Rattle.std.proofs.Common.{◌≡◌, ◌≢◌, ℕ, zero, suc, ◌+◌, ◌<◌, ◌≤◌, List, [], ◌∷◌, ◌++◌, length, map, find, Bool, true, false, ◌&&◌, cond, nat_lt, Option, Some, None, option_map, slice_get, refl, sym, ap, ◌∙◌, subst, arith, eqb, ◌==◌, bytes_eq, inl, inr, ◌⊎◌}
use Rattle.std.specs.Option.{option_or}
use Rattle.std.specs.List.{All, list_all, list_any, flat_map, range_with_len}
use Rattle.std.proofs.lemmas.Bool.{false_from_ne_true, cases_lt, and_parts, and_from}
use Rattle.std.proofs.lemmas.Bool.Decides.{Decides-eqb, not_from_Decides, nat_tests}
use Rattle.std.proofs.lemmas.List.{map-append}
use Rattle.std.proofs.lemmas.List.Elements.{All-nil, All-append, All-map}
use Rattle.std.proofs.lemmas.Option.{slice_get-get_or, slice_get_past}
use Rattle.melon_schema.specs.Names.{is_id}
use Rattle.melon_schema.specs.declared.schema.TableSchema.{TableSchema}
use Rattle.melon_raw.specs.Rows.{Key, is_key, table_at, no_table}
use Rattle.melon_wire.specs.declared.changes.Remote.{Remote}
use Rattle.melon_wire.specs.declared.changes.TableChanges.{TableChanges}
use Rattle.melon_wire.specs.declared.changes.Changes.{Changes}
use Rattle.melon_wire.specs.Keys.{key_at}
use Rattle.melon_wire.specs.Standing.{Standing, in_no_list, no_changes, changes_for, sent_in, is_listed, stands, standing_in, standing_for, standing, ids_listed, keys_at, keys_listed, has_ids}
use Rattle.melon_wire.proofs.KeyOrder.{split, same_bytes}
use Rattle.melon_pull.specs.Listing.{Telling, key_told, created_told, updated_told, deleted_told, told_at, told_of, tellings}
use Rattle.melon_pull.proofs.Seen.{IsDeclared}

-- ---- lists

map_both : {A B C : Type 0} (f : B → C) (g : A → B) (h : A → C) → ((a : A) → f (g a) ≡ h a) → (xs : List A) → map f (map g xs) ≡ map h xs
map_both f g h same [] = refl
map_both f g h same (x ∷ xs) = rw (same x) (ap (λ ys. h x ∷ ys) (map_both f g h same xs))

map-flat_map : {A B C : Type 0} (f : B → C) (g : A → List B) (h : A → List C) → ((a : A) → map f (g a) ≡ h a) → (xs : List A) → map f (flat_map g xs) ≡ flat_map h xs
map-flat_map f g h same [] = refl
map-flat_map f g h same (x ∷ xs) = map-append f (g x) (flat_map g xs) ∙ (rw (same x) (ap (λ ys. h x ++ ys) (map-flat_map f g h same xs)))

all-append : {X : Type 0} (p : X → Bool) (xs ys : List X) → list_all p xs ≡ true → list_all p ys ≡ true → list_all p (xs ++ ys) ≡ true
all-append p [] ys h k = k
all-append p (x ∷ xs) ys h k =
    let parts : (p x ≡ true) × (list_all p xs ≡ true) = and_parts (p x) (list_all p xs) h in
    and_from (p x) (list_all p (xs ++ ys)) parts.0 (all-append p xs ys parts.1 k)

find-append : {X : Type 0} (p : X → Bool) (xs ys : List X) → find p (xs ++ ys) ≡ option_or (find p xs) (find p ys)
find-append p [] ys = refl
find-append p (x ∷ xs) ys = split (p x) (λ e. rw e refl) (λ e. rw e (find-append p xs ys))

-- ---- the records

created_keys : (i : ℕ) (rows : List Remote) → map key_told (map (created_told i) rows) ≡ map (key_at i) (map (λ r. r.id) rows)
created_keys i [] = refl
created_keys i (r ∷ rs) = ap (λ ks. key_at i r.id ∷ ks) (created_keys i rs)

updated_keys : (i : ℕ) (rows : List Remote) → map key_told (map (updated_told i) rows) ≡ map (key_at i) (map (λ r. r.id) rows)
updated_keys i [] = refl
updated_keys i (r ∷ rs) = ap (λ ks. key_at i r.id ∷ ks) (updated_keys i rs)

deleted_keys : (i : ℕ) (ids : List (List ℕ)) → map key_told (map (deleted_told i) ids) ≡ map (key_at i) ids
deleted_keys i [] = refl
deleted_keys i (d ∷ ds) = ap (λ ks. key_at i d ∷ ks) (deleted_keys i ds)

keys_told_at : (i : ℕ) (t : TableChanges) → map key_told (told_at i t) ≡ map (key_at i) (ids_listed t)
keys_told_at i t =
    let created : List (List ℕ) = map (λ r. r.id) t.created in
    let updated : List (List ℕ) = map (λ r. r.id) t.updated in
    map-append key_told (map (created_told i) t.created) (map (updated_told i) t.updated ++ map (deleted_told i) t.deleted)
    ∙ (rw (created_keys i t.created) (ap (λ ks. map (key_at i) created ++ ks)
    (map-append key_told (map (updated_told i) t.updated) (map (deleted_told i) t.deleted) ∙ (rw (updated_keys i t.updated, deleted_keys i t.deleted) (sym (map-append (key_at i) updated t.deleted)))))
    ∙ sym (map-append (key_at i) created (updated ++ t.deleted)))

pub keys_tellings : (schema : List TableSchema) (changes : Changes) → map key_told (tellings schema changes) ≡ keys_listed schema changes
keys_tellings schema changes = map-flat_map key_told (told_of schema changes) (keys_at schema changes) (λ i. keys_told_at i (changes_for changes (table_at schema i).name)) (range_with_len 0 (length schema))

-- ---- they are of declared tables

told_declared : (n i : ℕ) (t : TableChanges) → i < n → All (IsDeclared n) (told_at i t)
told_declared n i t h =
    All-append (IsDeclared n) (map (created_told i) t.created) (map (updated_told i) t.updated ++ map (deleted_told i) t.deleted) (All-map (IsDeclared n) (created_told i) t.created (λ k d l. h))
    (All-append (IsDeclared n) (map (updated_told i) t.updated) (map (deleted_told i) t.deleted) (All-map (IsDeclared n) (updated_told i) t.updated (λ k d l. h)) (All-map (IsDeclared n) (deleted_told i) t.deleted (λ k d l. h)))

all_declared : (schema : List TableSchema) (changes : Changes) (n a m : ℕ) → a + m ≤ n → All (IsDeclared n) (flat_map (told_of schema changes) (range_with_len a m))
all_declared schema changes n a zero h = All-nil (IsDeclared n)
all_declared schema changes n a (suc m) h = All-append (IsDeclared n) (told_of schema changes a) (flat_map (told_of schema changes) (range_with_len (a + 1) m)) (told_declared n a (changes_for changes (table_at schema a).name) (omega arith)) (all_declared schema changes n (a + 1) m (omega arith))

pub tellings_declared : (schema : List TableSchema) (changes : Changes) → All (IsDeclared (length schema)) (tellings schema changes)
tellings_declared schema changes = all_declared schema changes (length schema) 0 (length schema) (omega arith)

-- ---- and their ids are ids

module _ (p : Key → Bool) where
  all_keys_at : (i : ℕ) (ids : List (List ℕ)) → list_all (λ id. p (key_at i id)) ids ≡ true → list_all p (map (key_at i) ids) ≡ true
  all_keys_at i [] h = refl
  all_keys_at i (d ∷ ds) h =
      let parts : (p (key_at i d) ≡ true) × (list_all (λ id. p (key_at i id)) ds ≡ true) = and_parts (p (key_at i d)) (list_all (λ id. p (key_at i id)) ds) h in
      and_from (p (key_at i d)) (list_all p (map (key_at i) ds)) parts.0 (all_keys_at i ds parts.1)

  all_keys_from : (schema : List TableSchema) (changes : Changes) (n a m : ℕ) → a + m ≤ n → ((i : ℕ) → i < n → list_all (λ id. p (key_at i id)) (ids_listed (changes_for changes (table_at schema i).name)) ≡ true)
      → list_all p (flat_map (keys_at schema changes) (range_with_len a m)) ≡ true
  all_keys_from schema changes n a zero h each = refl
  all_keys_from schema changes n a (suc m) h each = all-append p (keys_at schema changes a) (flat_map (keys_at schema changes) (range_with_len (a + 1) m)) (all_keys_at a (ids_listed (changes_for changes (table_at schema a).name)) (each a (omega arith)))
      (all_keys_from schema changes n (a + 1) m (omega arith) each)

  -- what holds of each listed id of each declared table holds of all records
  pub all_listed : (schema : List TableSchema) (changes : Changes) → ((i : ℕ) → i < length schema → list_all (λ id. p (key_at i id)) (ids_listed (changes_for changes (table_at schema i).name)) ≡ true) → list_all p (keys_listed schema changes) ≡ true
  all_listed schema changes each = all_keys_from schema changes (length schema) 0 (length schema) (omega arith) each

all_given : {X : Type 0} (b : Bool) (xs : List X) → b ≡ true → list_all (λ x. b) xs ≡ true
all_given b [] h = refl
all_given b (x ∷ xs) h = and_from b (list_all (λ y. b) xs) h (all_given b xs h)

pub listed_declared : (schema : List TableSchema) (changes : Changes) (n : ℕ) → length schema ≡ n → list_all (λ x. nat_lt x.table n) (keys_listed schema changes) ≡ true
listed_declared schema changes n same = all_listed (λ x. nat_lt x.table n) schema changes (λ i l. all_given (nat_lt i n) (ids_listed (changes_for changes (table_at schema i).name)) (below i l))
  where
    below : (i : ℕ) → i < length schema → nat_lt i n ≡ true
    below i l = let m : i < n = subst (λ (k : ℕ). i < k) same l in grind (arith, nat_tests)

ids_for : (name : List ℕ) (ts : List TableChanges) (o : Option TableChanges) → find (λ t. bytes_eq t.table name) ts ≡ o → list_all (λ t. list_all is_id (ids_listed t)) ts ≡ true → (t : TableChanges) → o ≡ Some t → list_all is_id (ids_listed t) ≡ true
ids_for name [] o f h t is = let e : None ≡ Some t = f ∙ is in cc
ids_for name (s ∷ ss) o f h t is =
    let parts : (list_all is_id (ids_listed s) ≡ true) × (list_all (λ u. list_all is_id (ids_listed u)) ss ≡ true) = and_parts (list_all is_id (ids_listed s)) (list_all (λ u. list_all is_id (ids_listed u)) ss) h in
    let ih : find (λ u. bytes_eq u.table name) ss ≡ o → list_all is_id (ids_listed t) ≡ true = λ g. ids_for name ss o g parts.1 t is in
    split (bytes_eq s.table name)
    (λ e. subst (λ (u : TableChanges). list_all is_id (ids_listed u) ≡ true) (some_same (rw e at f ∙ is)) parts.0)
    (λ e. ih (rw e at f))
  where
    some_same : Some s ≡ Some t → s ≡ t
    some_same e = cc

ids_at : (changes : Changes) (name : List ℕ) → has_ids changes ≡ true → list_all is_id (ids_listed (changes_for changes name)) ≡ true
ids_at changes name h = by (find (λ t. bytes_eq t.table name) changes.tables) refl
  where
    by : (o : Option TableChanges) → find (λ t. bytes_eq t.table name) changes.tables ≡ o → list_all is_id (ids_listed (changes_for changes name)) ≡ true
    by None e = rw e refl
    by (Some t) e = rw e (ids_for name changes.tables (Some t) e h t refl)

pub listed_ids : (schema : List TableSchema) (changes : Changes) → has_ids changes ≡ true → list_all (λ x. is_id x.id) (keys_listed schema changes) ≡ true
listed_ids schema changes h = all_listed (λ x. is_id x.id) schema changes (λ i l. ids_at changes (table_at schema i).name h)

-- ---- in which list a record stands

abbrev pub is_of : Key → Telling → Bool
is_of x t = is_key x (key_told t)

abbrev pub how_told : Option Telling → Standing
how_told None = in_no_list
how_told (Some t) = t.how

module _ (x : Key) (i : ℕ) where
  find_created : (rows : List Remote) → (x.table == i) ≡ true → find (is_of x) (map (created_told i) rows) ≡ option_map (created_told i) (sent_in rows x.id)
  find_created [] e = refl
  find_created (r ∷ rs) e = let ih : find (is_of x) (map (created_told i) rs) ≡ option_map (created_told i) (sent_in rs x.id) = find_created rs e in
      split (bytes_eq x.id r.id) (λ f. rw (e, f) refl) (λ f. rw (e, f) ih)

  find_updated : (rows : List Remote) → (x.table == i) ≡ true → find (is_of x) (map (updated_told i) rows) ≡ option_map (updated_told i) (sent_in rows x.id)
  find_updated [] e = refl
  find_updated (r ∷ rs) e = let ih : find (is_of x) (map (updated_told i) rs) ≡ option_map (updated_told i) (sent_in rs x.id) = find_updated rs e in
      split (bytes_eq x.id r.id) (λ f. rw (e, f) refl) (λ f. rw (e, f) ih)

  abbrev if_deleted : Bool → List ℕ → Option Telling
  if_deleted b id = cond b (Some (deleted_told i id)) None

  find_deleted : (ids : List (List ℕ)) → (x.table == i) ≡ true → find (is_of x) (map (deleted_told i) ids) ≡ if_deleted (is_listed ids x.id) x.id
  find_deleted [] e = refl
  find_deleted (d ∷ ds) e = let ih : find (is_of x) (map (deleted_told i) ds) ≡ if_deleted (is_listed ds x.id) x.id = find_deleted ds e in
      split (bytes_eq x.id d) (λ f. rw (e, f) (ap (λ (id : List ℕ). Some (deleted_told i id)) (sym (same_text x.id d f)))) (λ f. rw (e, f) ih)
    where
      same_text : (a b : List ℕ) → bytes_eq a b ≡ true → a ≡ b
      same_text = same_bytes

  how_stands : (c u : Option Remote) (d : Bool) → how_told (option_or (option_map (created_told i) c) (option_or (option_map (updated_told i) u) (if_deleted d x.id))) ≡ stands c u d
  how_stands (Some r) u d = refl
  how_stands None (Some r) d = refl
  how_stands None None true = refl
  how_stands None None false = refl

  -- in its own table
  found_here : (t : TableChanges) → (x.table == i) ≡ true → how_told (find (is_of x) (told_at i t)) ≡ standing_in t x.id
  found_here t e =
      let c : Option Remote = sent_in t.created x.id in
      let u : Option Remote = sent_in t.updated x.id in
      let d : Bool = is_listed t.deleted x.id in
      let last : find (is_of x) (map (updated_told i) t.updated ++ map (deleted_told i) t.deleted) ≡ option_or (option_map (updated_told i) u) (if_deleted d x.id) =
      find-append (is_of x) (map (updated_told i) t.updated) (map (deleted_told i) t.deleted) ∙ (ap (λ o. option_or o (find (is_of x) (map (deleted_told i) t.deleted))) (find_updated t.updated e) ∙ ap (option_or (option_map (updated_told i) u)) (find_deleted t.deleted e)) in
      let all : find (is_of x) (told_at i t) ≡ option_or (option_map (created_told i) c) (option_or (option_map (updated_told i) u) (if_deleted d x.id)) =
      find-append (is_of x) (map (created_told i) t.created) (map (updated_told i) t.updated ++ map (deleted_told i) t.deleted)
      ∙ (ap (λ o. option_or o (find (is_of x) (map (updated_told i) t.updated ++ map (deleted_told i) t.deleted))) (find_created t.created e) ∙ ap (option_or (option_map (created_told i) c)) last) in
      ap how_told all ∙ how_stands c u d

  none_of : {A : Type 0} (f : A → Telling) → ((a : A) → (f a).key.table ≡ i) → (x.table == i) ≡ false → (xs : List A) → find (is_of x) (map f xs) ≡ None
  none_of f at e [] = refl
  none_of f at e (a ∷ as') = let off : (x.table == (f a).key.table) ≡ false = ap (λ (n : ℕ). x.table == n) (at a) ∙ e in rw off (none_of f at e as')

  -- in another table
  found_off : (t : TableChanges) → (x.table == i) ≡ false → find (is_of x) (told_at i t) ≡ None
  found_off t e =
      find-append (is_of x) (map (created_told i) t.created) (map (updated_told i) t.updated ++ map (deleted_told i) t.deleted)
      ∙ (rw (none_of (created_told i) (λ a. refl) e t.created) (find-append (is_of x) (map (updated_told i) t.updated) (map (deleted_told i) t.deleted) ∙ (rw (none_of (updated_told i) (λ a. refl) e t.updated) (none_of (deleted_told i) (λ a. refl) e t.deleted))))

module _ (schema : List TableSchema) (changes : Changes) (x : Key) where
  none_elsewhere : (a n : ℕ) → (x.table < a) ⊎ (a + n ≤ x.table) → find (is_of x) (flat_map (told_of schema changes) (range_with_len a n)) ≡ None
  none_elsewhere a zero h = refl
  none_elsewhere a (suc n) h =
      let later : (x.table < a + 1) ⊎ (a + 1 + n ≤ x.table) = elim h [ inl l ↦ inl (omega arith) | inr l ↦ inr (omega arith) ] in
      let ih : find (is_of x) (flat_map (told_of schema changes) (range_with_len (a + 1) n)) ≡ None = none_elsewhere (a + 1) n later in
      let apart : x.table ≢ a = elim h [ inl l ↦ omega arith | inr l ↦ omega arith ] in
      let off : (x.table == a) ≡ false = false_from_ne_true _ (λ e. apart ((Decides-eqb x.table a).0 e)) in
      find-append (is_of x) (told_of schema changes a) (flat_map (told_of schema changes) (range_with_len (a + 1) n)) ∙ rw (found_off x a (changes_for changes (table_at schema a).name) off) ih

  found_at : (a n : ℕ) → a ≤ x.table → x.table < a + n → how_told (find (is_of x) (flat_map (told_of schema changes) (range_with_len a n))) ≡ standing_in (changes_for changes (table_at schema x.table).name) x.id
  found_at a zero h k = absurd (omega arith)
  found_at a (suc n) h k =
      let ih : a + 1 ≤ x.table → how_told (find (is_of x) (flat_map (told_of schema changes) (range_with_len (a + 1) n))) ≡ standing_in (changes_for changes (table_at schema x.table).name) x.id = λ l. found_at (a + 1) n l (omega arith) in
      let rest : List Telling = flat_map (told_of schema changes) (range_with_len (a + 1) n) in
      let parted : find (is_of x) (told_of schema changes a ++ rest) ≡ option_or (find (is_of x) (told_of schema changes a)) (find (is_of x) rest) = find-append (is_of x) (told_of schema changes a) rest in
      split (x.table == a)
      (λ e. let same : x.table ≡ a = (Decides-eqb x.table a).0 e in
      let none : find (is_of x) rest ≡ None = none_elsewhere (a + 1) n (inl (omega arith)) in
      let own : find (is_of x) (told_of schema changes a ++ rest) ≡ find (is_of x) (told_of schema changes a) = parted ∙ (rw none (or_none (find (is_of x) (told_of schema changes a)))) in
      ap how_told own ∙ (found_here x a (changes_for changes (table_at schema a).name) e ∙ ap (λ (i : ℕ). standing_in (changes_for changes (table_at schema i).name) x.id) (sym same)))
      (λ e. let apart : x.table ≢ a = not_from_Decides _ (Decides-eqb x.table a) e in
      let other : find (is_of x) (told_of schema changes a ++ rest) ≡ find (is_of x) rest = parted ∙ rw (found_off x a (changes_for changes (table_at schema a).name) e) refl in
      ap how_told other ∙ ih (omega arith))
    where
      or_none : (o : Option Telling) → option_or o None ≡ o
      or_none None = refl
      or_none (Some t) = refl

  -- A record stands in the list in which it is told of first.
  pub standing_told : how_told (find (is_of x) (tellings schema changes)) ≡ standing schema changes x
  unfolding standing
  standing_told = elim (cases_lt x.table (length schema)) [
    | inl l ↦ found_at 0 (length schema) (omega arith) (omega arith) ∙ sym (ap (λ o. standing_for changes o x.id) (slice_get-get_or schema x.table no_table l))
    | inr l ↦ ap how_told (none_elsewhere 0 (length schema) (inr (omega arith))) ∙ sym (ap (λ o. standing_for changes o x.id) (slice_get_past schema x.table l))
  ]
