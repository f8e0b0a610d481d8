-- What is told of one table, in the order of its ids.
use Rattle.std.proofs.Common.{◌≡◌, ℕ, ◌+◌, List, [], ◌∷◌, ◌++◌, length, ◌≤◌, map, find, nat_lt, Bool, true, false, not, ◌&&◌, cond, Ok, arith, Option, Some, None, option_map, bytes_eq, refl, sym, ap, ◌∙◌, subst}
use Rattle.std.specs.Bool.{⊤}
use Rattle.std.specs.Option.{option_or}
use Rattle.std.specs.List.{All, AllByRecursion, position_or_len}
use Rattle.std.specs.List.Sorted.{IsPermutation}
use Rattle.std.proofs.lemmas.Bool.{and_parts}
use Rattle.std.proofs.lemmas.List.{map-append}
use Rattle.std.proofs.lemmas.List.Elements.{All-head, All-tail}
use Rattle.melon_schema.specs.declared.schema.TableSchema.{TableSchema}
use Rattle.melon_raw.specs.Rows.{Key}
use Rattle.melon_wire.specs.declared.changes.Remote.{Remote}
use Rattle.melon_wire.specs.declared.changes.TableChanges.{TableChanges}
use Rattle.melon_schema.specs.Places.{table_named, declared_table}
use Rattle.melon_wire.specs.Collected.{is_empty}
use Rattle.melon_wire.specs.Sent.{has_something}
use Rattle.melon_wire.specs.Keys.{key_at, times, do_ascend, ascending, do_rise, first_again}
use Rattle.melon_wire.specs.Standing.{Standing, in_no_list, sent_in, is_listed, stands, standing_in, ids_listed}
use Rattle.melon_wire.proofs.KeyOrder.{split, same_bytes}
use Rattle.melon_wire.proofs.Ascent.{do_ascend-ascending, is_twice, rise_ascends}
use Rattle.melon_wire.proofs.KeyedLists.{has_key, IsFound, ascending_moved, again_moved, found_moved}
use Rattle.melon_log.specs.declared.server_row.ServerRow.{ServerRow}
use Rattle.melon_log.specs.declared.fault.PushFault.{PushFault}
use Rattle.melon_log.specs.declared.fault.PushFault.TheVariants.{Repeated, UnknownName}
use Rattle.melon_log.specs.ServerRows.{ServerRows, at, at_id}
use Rattle.melon_log.specs.Verdict.{if_any, keys_of, repeated, records_at, unknown_in, unknown}
use Rattle.melon_backend.proofs.Places.{past_all}
use Rattle.melon_backend.specs.Listing.{Telling, key_told, created_told, updated_told, deleted_told, told_in, repeated_in, naming_told, naming_in}

find-append : {X : Type 0} (p : X → Bool) (xs ys : List X) → find p (xs ++ ys) ≡ option_or (find p xs) (find p ys)
find-append p [] ys = refl
find-append p (x ∷ xs) ys = split (p x) (λ e. rw e refl) (λ e. rw e (find-append p xs ys))

-- ---- the ids

created_keys : (rows : List Remote) → map key_told (map created_told rows) ≡ map (key_at 0) (map (λ r. r.id) rows)
created_keys [] = refl
created_keys (r ∷ rs) = ap (λ ks. key_at 0 r.id ∷ ks) (created_keys rs)

updated_keys : (rows : List Remote) → map key_told (map updated_told rows) ≡ map (key_at 0) (map (λ r. r.id) rows)
updated_keys [] = refl
updated_keys (r ∷ rs) = ap (λ ks. key_at 0 r.id ∷ ks) (updated_keys rs)

deleted_keys : (ids : List (List ℕ)) → map key_told (map deleted_told ids) ≡ map (key_at 0) ids
deleted_keys [] = refl
deleted_keys (d ∷ ds) = ap (λ ks. key_at 0 d ∷ ks) (deleted_keys ds)

pub keys_told : (t : TableChanges) → map key_told (told_in t) ≡ keys_of t
keys_told t =
    let created : List (List ℕ) = map (λ r. r.id) t.created in
    let updated : List (List ℕ) = map (λ r. r.id) t.updated in
    map-append key_told (map created_told t.created) (map updated_told t.updated ++ map deleted_told t.deleted)
    ∙ (rw (created_keys t.created) (ap (λ ks. map (key_at 0) created ++ ks)
    (map-append key_told (map updated_told t.updated) (map deleted_told t.deleted) ∙ (rw (updated_keys t.updated, deleted_keys t.deleted) (sym (map-append (key_at 0) updated t.deleted)))))
    ∙ sym (map-append (key_at 0) created (updated ++ t.deleted)))

-- ---- where they stand

abbrev how_told : Option Telling → Standing
how_told None = in_no_list
how_told (Some t) = t.how

module _ (id : List ℕ) where
  abbrev is_of : Telling → Bool
  is_of = has_key key_told (key_at 0 id)

  find_created : (rows : List Remote) → find is_of (map created_told rows) ≡ option_map created_told (sent_in rows id)
  find_created [] = refl
  find_created (r ∷ rs) = let ih : find is_of (map created_told rs) ≡ option_map created_told (sent_in rs id) = find_created rs in split (bytes_eq id r.id) (λ f. rw f refl) (λ f. rw f ih)

  find_updated : (rows : List Remote) → find is_of (map updated_told rows) ≡ option_map updated_told (sent_in rows id)
  find_updated [] = refl
  find_updated (r ∷ rs) = let ih : find is_of (map updated_told rs) ≡ option_map updated_told (sent_in rs id) = find_updated rs in split (bytes_eq id r.id) (λ f. rw f refl) (λ f. rw f ih)

  abbrev if_deleted : Bool → Option Telling
  if_deleted b = cond b (Some (deleted_told id)) None

  find_deleted : (ids : List (List ℕ)) → find is_of (map deleted_told ids) ≡ if_deleted (is_listed ids id)
  find_deleted [] = refl
  find_deleted (d ∷ ds) = let ih : find is_of (map deleted_told ds) ≡ if_deleted (is_listed ds id) = find_deleted ds in
      split (bytes_eq id d) (λ f. rw f (ap (λ (i : List ℕ). Some (deleted_told i)) (sym (same_bytes id d f)))) (λ f. rw f ih)

  how_stands : (c u : Option Remote) (d : Bool) → how_told (option_or (option_map created_told c) (option_or (option_map updated_told u) (if_deleted d))) ≡ stands c u d
  how_stands (Some r) u d = refl
  how_stands None (Some r) d = refl
  how_stands None None true = refl
  how_stands None None false = refl

  standing_told : (t : TableChanges) → how_told (find is_of (told_in t)) ≡ standing_in t id
  standing_told t =
      let c : Option Remote = sent_in t.created id in
      let u : Option Remote = sent_in t.updated id in
      let d : Bool = is_listed t.deleted id in
      let last : find is_of (map updated_told t.updated ++ map deleted_told t.deleted) ≡ option_or (option_map updated_told u) (if_deleted d) =
      find-append is_of (map updated_told t.updated) (map deleted_told t.deleted) ∙ (ap (λ o. option_or o (find is_of (map deleted_told t.deleted))) (find_updated t.updated) ∙ ap (option_or (option_map updated_told u)) (find_deleted t.deleted)) in
      let all : find is_of (told_in t) ≡ option_or (option_map created_told c) (option_or (option_map updated_told u) (if_deleted d)) =
      find-append is_of (map created_told t.created) (map updated_told t.updated ++ map deleted_told t.deleted)
      ∙ (ap (λ o. option_or o (find is_of (map updated_told t.updated ++ map deleted_told t.deleted))) (find_created t.created) ∙ ap (option_or (option_map created_told c)) last) in
      ap how_told all ∙ how_stands c u d

-- ---- sorted

-- every record is told of in the place of its table
abbrev IsPlain : Telling → Type 0
IsPlain t = t.key ≡ key_at 0 t.key.id

module _ (t : TableChanges) (told : List Telling) (moved : IsPermutation (told_in t) told) (rising : do_rise (map key_told told) ≡ true) where
  pub repeated_told : repeated t ≡ repeated_in t told
  repeated_told = ap (option_map (λ (x : Key). Repeated t.table x.id)) (subst (λ (ks : List Key). find (is_twice ks) (ascending ks) ≡ first_again (map key_told told)) (keys_told t) (again_moved key_told (told_in t) told moved rising))

  module _ (once : first_again (map key_told told) ≡ None) where
    sorted : ascending (keys_of t) ≡ map key_told told
    sorted = ap ascending (sym (keys_told t)) ∙ (ascending_moved key_told (told_in t) told moved ∙ rise_ascends (map key_told told) rising once)

    found : All (IsFound key_told (told_in t)) told
    found = found_moved key_told (told_in t) told moved (subst (λ (ks : List Key). do_ascend ks ≡ true) (ascending_moved key_told (told_in t) told moved ∙ rise_ascends (map key_told told) rising once) (do_ascend-ascending (map key_told (told_in t))))

    module _ (rows : ServerRows) (i : ℕ) (own : List ServerRow) (is : (id : List ℕ) → at_id id own ≡ at rows (key_at i id)) where
      same_naming : (u : Telling) → IsPlain u → IsFound key_told (told_in t) u → naming_told own i u ≡ naming_in rows t (key_at i u.key.id)
      same_naming u plain f =
          let how : u.how ≡ standing_in t u.key.id = ap how_told (sym (ap (λ (k : Key). find (has_key key_told k) (told_in t)) (sym plain) ∙ f)) ∙ standing_told u.key.id t in
          let row : at_id u.key.id own ≡ at rows (key_at i u.key.id) = is u.key.id in
          λ j. record { key = key_at i u.key.id; how = how j; row = row j }

      all_namings_told : (us : List Telling) → AllByRecursion IsPlain us → All (IsFound key_told (told_in t)) us → map (naming_told own i) us ≡ map (naming_in rows t) (map (λ x. key_at i x.id) (map key_told us))
      all_namings_told [] plain all = refl
      all_namings_told (u ∷ us) plain all =
          let first : naming_told own i u ≡ naming_in rows t (key_at i u.key.id) = same_naming u plain.0 (All-head (IsFound key_told (told_in t)) u us all) in
          let rest : map (naming_told own i) us ≡ map (naming_in rows t) (map (λ x. key_at i x.id) (map key_told us)) = all_namings_told us plain.1 (All-tail (IsFound key_told (told_in t)) u us all) in
          λ j. first j ∷ rest j

      pub namings_told : AllByRecursion IsPlain told → map (naming_told own i) told ≡ map (naming_in rows t) (records_at t (Some i))
      namings_told plain = all_namings_told told plain found ∙ ap (λ (ks : List Key). map (naming_in rows t) (map (λ x. key_at i x.id) ks)) (sym sorted)

pub any_ok : (o : Option PushFault) {u : ⊤} → if_any o ≡ Ok u → o ≡ None
any_ok None h = refl
any_ok (Some f) h = cc

pub none_again : (t : TableChanges) (told : List Telling) → repeated_in t told ≡ None → first_again (map key_told told) ≡ None
none_again t told h = go (first_again (map key_told told)) h
  where
    go : (o : Option Key) → option_map (λ (x : Key). Repeated t.table x.id) o ≡ None → o ≡ None
    go None k = refl
    go (Some x) k = cc

-- ---- of an unknown table nothing is listed

module _ (schema : List TableSchema) (t : TableChanges) where
  no_table : table_named t.table schema ≡ None → declared_table t.table schema ≡ None
  no_table h = none_found schema (past_all (λ (s : TableSchema). bytes_eq t.table s.name) schema h)
    where
      none_found : (xs : List TableSchema) → length xs ≤ position_or_len (λ (s : TableSchema). bytes_eq t.table s.name) xs → find (λ (s : TableSchema). bytes_eq t.table s.name) xs ≡ None
      none_found [] l = refl
      none_found (x ∷ xs) l = split (bytes_eq t.table x.name)
          (λ e. absurd (let m : length (x ∷ xs) ≤ 0 = rw e at l in omega (arith, m)))
          (λ e. let m : length xs ≤ position_or_len (λ (s : TableSchema). bytes_eq t.table s.name) xs = later e in rw e (none_found xs m))
        where
          later : bytes_eq t.table x.name ≡ false → length xs ≤ position_or_len (λ (s : TableSchema). bytes_eq t.table s.name) xs
          later e = let m : length (x ∷ xs) ≤ 1 + position_or_len (λ (s : TableSchema). bytes_eq t.table s.name) xs = rw e at l in omega (arith, m)

  empty_of : {X : Type 0} (xs : List X) → is_empty xs ≡ true → xs ≡ []
  empty_of [] h = refl
  empty_of (x ∷ xs) h = cc

  not_false : (b : Bool) → not b ≡ false → b ≡ true
  not_false true h = refl
  not_false false h = cc

  nothing_there : has_something t ≡ false → repeated t ≡ None
  nothing_there h =
      let p = and_parts (is_empty t.created) (is_empty t.updated && is_empty t.deleted) (not_false (is_empty t.created && (is_empty t.updated && is_empty t.deleted)) h) in
      let q = and_parts (is_empty t.updated) (is_empty t.deleted) p.1 in
      let ids : ids_listed t ≡ [] = rw (empty_of t.created p.0) (rw (empty_of t.updated q.0) (empty_of t.deleted q.1)) in
      ap (λ (is : List (List ℕ)). option_map (λ (x : Key). Repeated t.table x.id) (find (λ (x : Key). nat_lt 1 (times x (map (key_at 0) is))) (ascending (map (key_at 0) is)))) ids

  pub none_repeated : table_named t.table schema ≡ None → unknown schema t ≡ None → repeated t ≡ None
  none_repeated h known = nothing_there (go (has_something t) (sym (ap (unknown_in t) (no_table h)) ∙ known))
    where
      go : (b : Bool) → cond b (Some (UnknownName t.table [])) None ≡ None → b ≡ false
      go true k = cc
      go false k = refl
