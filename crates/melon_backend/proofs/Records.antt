-- The records that a push lists: as the code names them, of declared tables, and each once.
use Rattle.std.proofs.Common.{◌≡◌, ◌≢◌, ℕ, ◌<◌, ◌==◌, eqb, List, [], ◌∷◌, ◌++◌, length, map, find, Bool, true, false, not, ◌||◌, Option, Some, None, unwrap_or, bytes_eq, refl, sym, ap, ◌∙◌, subst}
use Rattle.std.specs.List.{AllByRecursion, list_all, flat_map}
use Rattle.std.proofs.lemmas.Bool.{and_parts, and_from, both_ways, false_from_ne_true}
use Rattle.std.proofs.lemmas.Bool.Decides.{Decides-eqb}
use Rattle.std.proofs.lemmas.List.{map-append}
use Rattle.std.proofs.lemmas.List.Quantifiers.{position-Some}
use Rattle.melon_schema.specs.Places.{table_named}
use Rattle.melon_schema.specs.declared.schema.TableSchema.{TableSchema}
use Rattle.melon_raw.specs.Order.{is_below}
use Rattle.melon_raw.specs.Rows.{Key, is_key, table_at, no_table}
use Rattle.melon_wire.specs.declared.changes.TableChanges.{TableChanges}
use Rattle.melon_wire.specs.declared.changes.Changes.{Changes}
use Rattle.melon_wire.specs.Forms.{names_ascend}
use Rattle.melon_wire.specs.Keys.{key_at, is_before, is_in, are_apart, do_ascend, ascending}
use Rattle.melon_wire.specs.Standing.{standing, standing_in, changes_for, no_changes, ids_listed}
use Rattle.melon_wire.proofs.KeyOrder.{split, bytes_same, same_bytes, before_all, key_path}
use Rattle.melon_wire.proofs.Ascent.{do_ascend-ascending}
use Rattle.melon_log.specs.ServerRows.{ServerRows, at}
use Rattle.melon_log.specs.Verdict.{keys_of, records_at, records}
use Rattle.melon_log.proofs.ById.{AllAt, all_ascending, below_apart}
use Rattle.melon_log.proofs.Now.{standing_at}
use Rattle.melon_backend.specs.Pushing.{naming, namings, key_named, IsNowOf}
use Rattle.melon_backend.specs.Listing.{naming_in, namings_in, all_namings, IsOfTable}

-- ---- tables by name

abbrev pub IsFoundBy : List TableChanges → TableChanges → Type 0
IsFoundBy ts t = find (λ u. bytes_eq u.table t.table) ts ≡ Some t

module _ (t : TableChanges) (ts : List TableChanges) where
  found_later : (us : List TableChanges) → list_all (λ u. is_below t.table u.table) us ≡ true → AllByRecursion (IsFoundBy ts) us → AllByRecursion (IsFoundBy (t ∷ ts)) us
  found_later [] h all = tt
  found_later (u ∷ us) h all =
      let p = and_parts (is_below t.table u.table) (list_all (λ v. is_below t.table v.table) us) h in
      (rw (below_apart t.table u.table p.0) all.0, found_later us p.1 all.1)

pub found_by : (ts : List TableChanges) → names_ascend (λ (t : TableChanges). t.table) ts ≡ true → AllByRecursion (IsFoundBy ts) ts
found_by [] h = tt
found_by (t ∷ ts) h =
    let p = and_parts (list_all (λ (u : TableChanges). is_below t.table u.table) ts) (names_ascend (λ (u : TableChanges). u.table) ts) h in
    (rw (bytes_same t.table t.table refl) refl, found_later t ts ts p.0 (found_by ts p.1))

module _ (schema : List TableSchema) where
  abbrev pub IsPlaceOf : TableChanges → ℕ → Type 0
  IsPlaceOf t i = table_named t.table schema ≡ Some i

  pub place_within : (t : TableChanges) (i : ℕ) → IsPlaceOf t i → i < length schema
  place_within t i h = (position-Some (λ (s : TableSchema). bytes_eq t.table s.name) schema i no_table h).0

  pub place_name : (t : TableChanges) (i : ℕ) → IsPlaceOf t i → t.table ≡ (table_at schema i).name
  place_name t i h = same_bytes t.table (table_at schema i).name (position-Some (λ (s : TableSchema). bytes_eq t.table s.name) schema i no_table h).1

  module _ (rows : ServerRows) (c : Changes) where
    standing_is : (t : TableChanges) (i : ℕ) (id : List ℕ) → IsPlaceOf t i → IsFoundBy c.tables t → standing schema c (key_at i id) ≡ standing_in t id
    standing_is t i id h f =
        let told : changes_for c (table_at schema i).name ≡ t =
        ap (changes_for c) (sym (place_name t i h)) ∙ ap (λ (o : Option TableChanges). unwrap_or o (no_changes t.table)) f in
        standing_at schema c (key_at i id) (place_within t i h) ∙ ap (λ (u : TableChanges). standing_in u id) told

    named_so : (t : TableChanges) (i : ℕ) (ks : List Key) → IsPlaceOf t i → IsFoundBy c.tables t → map (naming_in rows t) (map (λ x. key_at i x.id) ks) ≡ map (naming schema rows c) (map (λ x. key_at i x.id) ks)
    named_so t i [] h f = refl
    named_so t i (k ∷ ks) h f =
        let how : standing_in t k.id ≡ standing schema c (key_at i k.id) = sym (standing_is t i k.id h f) in
        let rest : map (naming_in rows t) (map (λ x. key_at i x.id) ks) ≡ map (naming schema rows c) (map (λ x. key_at i x.id) ks) = named_so t i ks h f in
        λ j. record { key = key_at i k.id; how = how j; row = at rows (key_at i k.id) } ∷ rest j

    table_named_so : (t : TableChanges) (o : Option ℕ) → table_named t.table schema ≡ o → IsFoundBy c.tables t → map (naming_in rows t) (records_at t o) ≡ map (naming schema rows c) (records_at t o)
    table_named_so t None h f = refl
    table_named_so t (Some i) h f = named_so t i (ascending (keys_of t)) h f

    each_named_so : (ts : List TableChanges) → AllByRecursion (IsFoundBy c.tables) ts → all_namings schema rows ts ≡ map (naming schema rows c) (flat_map (λ t. records_at t (table_named t.table schema)) ts)
    each_named_so [] all = refl
    each_named_so (t ∷ ts) all =
        let first : namings_in schema rows t ≡ map (naming schema rows c) (records_at t (table_named t.table schema)) = table_named_so t (table_named t.table schema) refl all.0 in
        let rest : all_namings schema rows ts ≡ map (naming schema rows c) (flat_map (λ u. records_at u (table_named u.table schema)) ts) = each_named_so ts all.1 in
        (λ j. first j ++ rest j) ∙ sym (map-append (naming schema rows c) (records_at t (table_named t.table schema)) (flat_map (λ u. records_at u (table_named u.table schema)) ts))

    pub namings_are : names_ascend (λ (t : TableChanges). t.table) c.tables ≡ true → all_namings schema rows c.tables ≡ namings schema rows c
    namings_are up = each_named_so c.tables (found_by c.tables up)

  -- ---- of declared tables

  abbrev pub IsDeclared : Key → Type 0
  IsDeclared x = x.table < length schema

  all-joined : (P : Key → Type 0) (xs ys : List Key) → AllByRecursion P xs → AllByRecursion P ys → AllByRecursion P (xs ++ ys)
  all-joined P [] ys h k = k
  all-joined P (x ∷ xs) ys h k = (h.0, all-joined P xs ys h.1 k)

  keys_declared : (i : ℕ) (ks : List Key) → i < length schema → AllByRecursion IsDeclared (map (λ x. key_at i x.id) ks)
  keys_declared i [] h = tt
  keys_declared i (k ∷ ks) h = (h, keys_declared i ks h)

  table_declared : (t : TableChanges) (o : Option ℕ) → table_named t.table schema ≡ o → AllByRecursion IsDeclared (records_at t o)
  table_declared t None h = tt
  table_declared t (Some i) h = keys_declared i (ascending (keys_of t)) (place_within t i h)

  each_declared : (ts : List TableChanges) → AllByRecursion IsDeclared (flat_map (λ t. records_at t (table_named t.table schema)) ts)
  each_declared [] = tt
  each_declared (t ∷ ts) = all-joined IsDeclared (records_at t (table_named t.table schema)) (flat_map (λ u. records_at u (table_named u.table schema)) ts) (table_declared t (table_named t.table schema) refl) (each_declared ts)

  pub records_declared : (c : Changes) → AllByRecursion IsDeclared (records schema c)
  records_declared c = each_declared c.tables

  -- ---- each once

  pub is_in_relabel : (i : ℕ) (id : List ℕ) (ks : List Key) → AllAt 0 ks → is_in (key_at i id) (map (λ x. key_at i x.id) ks) ≡ is_in (key_at 0 id) ks
  is_in_relabel i id [] all = refl
  is_in_relabel i id (k ∷ ks) all =
      let mine : (i == i) ≡ true = (Decides-eqb i i).1 refl in
      let theirs : (0 == k.table) ≡ true = (Decides-eqb 0 k.table).1 (sym all.0) in
      let ih : is_in (key_at i id) (map (λ x. key_at i x.id) ks) ≡ is_in (key_at 0 id) ks = is_in_relabel i id ks all.1 in
      rw (mine, theirs) (ap (λ (b : Bool). bytes_eq id k.id || b) ih)

  apart_relabel : (i : ℕ) (ks : List Key) → AllAt 0 ks → are_apart ks ≡ true → are_apart (map (λ x. key_at i x.id) ks) ≡ true
  apart_relabel i [] all h = refl
  apart_relabel i (k ∷ ks) all h =
      let p = and_parts (not (is_in k ks)) (are_apart ks) h in
      and_from (not (is_in (key_at i k.id) (map (λ x. key_at i x.id) ks))) (are_apart (map (λ x. key_at i x.id) ks))
      (ap not (is_in_relabel i k.id ks all.1 ∙ ap (λ (x : Key). is_in x ks) (key_path (key_at 0 k.id) k (sym all.0) refl)) ∙ p.0)
      (apart_relabel i ks all.1 p.1)

  ascend_apart : (ks : List Key) → do_ascend ks ≡ true → are_apart ks ≡ true
  ascend_apart [] h = refl
  ascend_apart (k ∷ ks) h =
      let p = and_parts (list_all (is_before k) ks) (do_ascend ks) h in
      and_from (not (is_in k ks)) (are_apart ks) (ap not (before_all k ks p.0)) (ascend_apart ks p.1)

  all_at_zero : (ids : List (List ℕ)) → AllAt 0 (map (key_at 0) ids)
  all_at_zero [] = tt
  all_at_zero (d ∷ ds) = (refl, all_at_zero ds)

  table_apart : (t : TableChanges) (o : Option ℕ) → are_apart (records_at t o) ≡ true
  table_apart t None = refl
  table_apart t (Some i) =
      apart_relabel i (ascending (keys_of t)) (all_ascending (λ (k : Key). k.table ≡ 0) (keys_of t) (all_at_zero (ids_listed t))) (ascend_apart (ascending (keys_of t)) (do_ascend-ascending (keys_of t)))

  -- a record isn't among those of other tables
  none_of_table : (x : Key) (i : ℕ) (ks : List Key) → x.table ≢ i → is_in x (map (λ k. key_at i k.id) ks) ≡ false
  none_of_table x i [] apart = refl
  none_of_table x i (k ∷ ks) apart =
      let off : (x.table == i) ≡ false = false_from_ne_true (eqb x.table i) (λ e. apart ((Decides-eqb x.table i).0 e)) in
      rw off (none_of_table x i ks apart)

  none_at : (x : Key) (t : TableChanges) (o : Option ℕ) → ((i : ℕ) → o ≡ Some i → x.table ≢ i) → is_in x (records_at t o) ≡ false
  none_at x t None apart = refl
  none_at x t (Some i) apart = none_of_table x i (ascending (keys_of t)) (apart i refl)

  is_in-joined : (x : Key) (xs ys : List Key) → is_in x xs ≡ false → is_in x ys ≡ false → is_in x (xs ++ ys) ≡ false
  is_in-joined x [] ys h k = k
  is_in-joined x (z ∷ zs) ys h k = split (is_key x z)
      (λ e. absurd (both_ways (is_key x z || is_in x zs) h (rw e refl)))
      (λ e. rw e (is_in-joined x zs ys (sym (rw e refl) ∙ h) k))

  none_later : (x : Key) (name : List ℕ) (ts : List TableChanges) → list_all (λ (u : TableChanges). is_below name u.table) ts ≡ true → name ≡ (table_at schema x.table).name → is_in x (flat_map (λ u. records_at u (table_named u.table schema)) ts) ≡ false
  none_later x name [] h is = refl
  none_later x name (u ∷ us) h is =
      let p = and_parts (is_below name u.table) (list_all (λ (v : TableChanges). is_below name v.table) us) h in
      is_in-joined x (records_at u (table_named u.table schema)) (flat_map (λ v. records_at v (table_named v.table schema)) us)
      (none_at x u (table_named u.table schema) (λ i place same.
      both_ways (bytes_eq name u.table) (below_apart name u.table p.0) (bytes_same name u.table (is ∙ (ap (λ (j : ℕ). (table_at schema j).name) same ∙ sym (place_name u i place))))))
      (none_later x name us p.1 is)

  apart-joined : (xs ys : List Key) → are_apart xs ≡ true → are_apart ys ≡ true → AllByRecursion (λ x. is_in x ys ≡ false) xs → are_apart (xs ++ ys) ≡ true
  apart-joined [] ys h k all = k
  apart-joined (x ∷ xs) ys h k all =
      let p = and_parts (not (is_in x xs)) (are_apart xs) h in
      and_from (not (is_in x (xs ++ ys))) (are_apart (xs ++ ys)) (ap not (is_in-joined x xs ys (not_true (is_in x xs) p.0) all.0)) (apart-joined xs ys p.1 k all.1)
    where
      not_true : (b : Bool) → not b ≡ true → b ≡ false
      not_true true h = cc
      not_true false h = refl

  others_of : (i : ℕ) (name : List ℕ) (ts : List TableChanges) (ks : List Key) → list_all (λ (u : TableChanges). is_below name u.table) ts ≡ true → name ≡ (table_at schema i).name
      → AllByRecursion (λ x. is_in x (flat_map (λ u. records_at u (table_named u.table schema)) ts) ≡ false) (map (λ k. key_at i k.id) ks)
  others_of i name ts [] h is = tt
  others_of i name ts (k ∷ ks) h is = (none_later (key_at i k.id) name ts h is, others_of i name ts ks h is)

  others : (t : TableChanges) (o : Option ℕ) (ts : List TableChanges) → table_named t.table schema ≡ o → list_all (λ (u : TableChanges). is_below t.table u.table) ts ≡ true
      → AllByRecursion (λ x. is_in x (flat_map (λ u. records_at u (table_named u.table schema)) ts) ≡ false) (records_at t o)
  others t None ts h k = tt
  others t (Some i) ts h k = others_of i t.table ts (ascending (keys_of t)) k (place_name t i h)

  each_apart : (ts : List TableChanges) → names_ascend (λ (t : TableChanges). t.table) ts ≡ true → are_apart (flat_map (λ t. records_at t (table_named t.table schema)) ts) ≡ true
  each_apart [] h = refl
  each_apart (t ∷ ts) h =
      let p = and_parts (list_all (λ (u : TableChanges). is_below t.table u.table) ts) (names_ascend (λ (u : TableChanges). u.table) ts) h in
      apart-joined (records_at t (table_named t.table schema)) (flat_map (λ u. records_at u (table_named u.table schema)) ts) (table_apart t (table_named t.table schema)) (each_apart ts p.1) (others t (table_named t.table schema) ts refl p.0)

  pub records_apart : (c : Changes) → names_ascend (λ (t : TableChanges). t.table) c.tables ≡ true → are_apart (records schema c) ≡ true
  records_apart c up = each_apart c.tables up

-- ---- as they are named

module _ (schema : List TableSchema) (rows : ServerRows) (c : Changes) where
  keys_back : (ks : List Key) → map key_named (map (naming schema rows c) ks) ≡ ks
  keys_back [] = refl
  keys_back (k ∷ ks) = ap (λ rest. k ∷ rest) (keys_back ks)

  named_declared : (ks : List Key) → AllByRecursion (IsDeclared schema) ks → AllByRecursion (IsOfTable (length schema)) (map (naming schema rows c) ks)
  named_declared [] all = tt
  named_declared (k ∷ ks) all = (all.0, named_declared ks all.1)

  pub namings_declared : AllByRecursion (IsOfTable (length schema)) (namings schema rows c)
  namings_declared = named_declared (records schema c) (records_declared schema c)

  pub namings_apart : names_ascend (λ (t : TableChanges). t.table) c.tables ≡ true → are_apart (map key_named (namings schema rows c)) ≡ true
  namings_apart up = subst (λ (ks : List Key). are_apart ks ≡ true) (sym (keys_back (records schema c))) (records_apart schema c up)

  now_of : (ks : List Key) → AllByRecursion (IsNowOf rows) (map (naming schema rows c) ks)
  now_of [] = tt
  now_of (k ∷ ks) = (refl, now_of ks)

  pub namings_now : AllByRecursion (IsNowOf rows) (namings schema rows c)
  namings_now = now_of (records schema c)
