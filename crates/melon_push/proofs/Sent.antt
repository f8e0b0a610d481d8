-- What is sent of a fetch: each record as it was collected, and something where anything was.
use Rattle.std.proofs.Common.{◌≡◌, ◌≢◌, ℕ, zero, suc, ◌+◌, ◌<◌, ◌≤◌, ◌==◌, eqb, nat_lt, List, [], ◌∷◌, ◌++◌, length, map, filter, find, Bool, true, false, not, ◌&&◌, ◌||◌, cond, bytes_eq, Option, Some, None, option_map, unwrap_or, refl, sym, ap, ◌∙◌, subst, arith}
use Rattle.std.specs.List.{list_any, list_all, range_with_len, AllByRecursion}
use Rattle.std.proofs.lemmas.Bool.{both_ways, false_from_ne_true, and_parts, or_left, or_right}
use Rattle.std.proofs.lemmas.Bool.Decides.{Decides-eqb, nat_tests}
use Rattle.std.proofs.lemmas.Option.{slice_get-get_or}
use Rattle.melon_schema.specs.declared.schema.ColumnSchema.{ColumnSchema}
use Rattle.melon_schema.specs.declared.schema.TableSchema.{TableSchema}
use Rattle.melon_raw.specs.Rows.{Key, is_key, table_at, no_table}
use Rattle.melon_change.specs.Changes.{columns_at}
use Rattle.melon_wire.specs.declared.changes.Remote.{Remote}
use Rattle.melon_wire.specs.declared.changes.TableChanges.{TableChanges}
use Rattle.melon_wire.specs.declared.fetch.Held.{Held}
use Rattle.melon_wire.specs.declared.fetch.Gone.{Gone}
use Rattle.melon_wire.specs.declared.fetch.Fetch.{Fetch}
use Rattle.melon_wire.specs.Keys.{key_at}
use Rattle.melon_wire.specs.Standing.{Standing, in_no_list, no_changes, changes_for, sent_in, is_listed, stands, standing_in, standing_for, standing}
use Rattle.melon_wire.specs.Collected.{held_key, gone_key, keys_fetched, is_empty, is_nothing, is_within}
use Rattle.melon_wire.specs.Sent.{by_name, remote_of, rows_sent, ids_sent, sent_at, has_something, sent_of, names_something}
use Rattle.melon_wire.specs.Settled.{held_of, is_gone}
use Rattle.melon_wire.proofs.KeyOrder.{split, bytes_same, same_bytes}
use Rattle.melon_push.specs.Laws.{NamesApart, sent_standing, SentStandsAsFetched, SentNamesSomething}
use Rattle.melon_push.proofs.Lists.{all_parts}
use Rattle.melon_push.proofs.Named.{any_by_name, each_by_name, find_only}

-- ---- one table

turned : (a b : ℕ) → (a == b) ≡ (b == a)
turned a b = split (a == b) (λ e. e ∙ sym (on e)) (λ e. e ∙ sym (off e))
  where
    on : (a == b) ≡ true → (b == a) ≡ true
    on e = grind (arith, nat_tests)

    off : (a == b) ≡ false → (b == a) ≡ false
    off e = grind (arith, nat_tests)

module _ (schema : List TableSchema) (x : Key) where
  sent_held : (held : List Held) → sent_in (rows_sent schema x.table held) x.id ≡ option_map (λ h. remote_of (table_at schema x.table).columns h.row) (held_of held x)
  sent_held [] = refl
  sent_held (h ∷ held) =
      let ih : sent_in (rows_sent schema x.table held) x.id ≡ option_map (λ g. remote_of (table_at schema x.table).columns g.row) (held_of held x) = sent_held held in
      split (h.table == x.table)
      (λ e. let on : (x.table == h.table) ≡ true = turned x.table h.table ∙ e in split (bytes_eq x.id h.row.id) (λ f. rw (e, on, f) refl) (λ f. rw (e, on, f) ih))
      (λ e. let off : (x.table == h.table) ≡ false = turned x.table h.table ∙ e in rw (e, off) ih)

  sent_gone : (gone : List Gone) → is_listed (ids_sent x.table gone) x.id ≡ is_gone gone x
  sent_gone [] = refl
  sent_gone (g ∷ gone) =
      let ih : is_listed (ids_sent x.table gone) x.id ≡ is_gone gone x = sent_gone gone in
      split (g.table == x.table)
      (λ e. let on : (x.table == g.table) ≡ true = turned x.table g.table ∙ e in rw (e, on) (ap (λ b. bytes_eq x.id g.id || b) ih))
      (λ e. let off : (x.table == g.table) ≡ false = turned x.table g.table ∙ e in rw (e, off) ih)

  pub stands_here : (f : Fetch) → standing_in (sent_at schema f x.table) x.id ≡ sent_standing (columns_at schema x.table) f x
  stands_here f = rw (sent_held f.created, sent_held f.updated, sent_gone f.deleted) refl

nothing_sent : (created updated : List Remote) (deleted : List (List ℕ)) (id : List ℕ) → not (is_empty created && (is_empty updated && is_empty deleted)) ≡ false → stands (sent_in created id) (sent_in updated id) (is_listed deleted id) ≡ in_no_list
nothing_sent [] [] [] id h = refl
nothing_sent [] [] (d ∷ deleted) id h = cc
nothing_sent [] (u ∷ updated) deleted id h = cc
nothing_sent (c ∷ created) updated deleted id h = cc

-- ---- all tables

any_filter : {X : Type 0} (p q : X → Bool) (xs : List X) → list_any p (filter q xs) ≡ list_any (λ x. p x && q x) xs
any_filter p q [] = refl
any_filter p q (x ∷ xs) = let ih : list_any p (filter q xs) ≡ list_any (λ y. p y && q y) xs = any_filter p q xs in
    split (q x)
    (λ e. rw e (ap (λ b. b || list_any p (filter q xs)) (sym (and_true (p x))) ∙ ap (λ b. (p x && true) || b) ih))
    (λ e. rw e (ih ∙ ap (λ b. b || list_any (λ y. p y && q y) xs) (sym (and_false (p x)))))
  where
    and_true : (b : Bool) → (b && true) ≡ b
    and_true true = refl
    and_true false = refl

    and_false : (b : Bool) → (b && false) ≡ false
    and_false true = refl
    and_false false = refl

each_filter : {X : Type 0} (P : X → Type 0) (q : X → Bool) (xs : List X) → AllByRecursion P xs → AllByRecursion P (filter q xs)
each_filter P q [] all = tt
each_filter P q (x ∷ xs) all = let ih : AllByRecursion P (filter q xs) = each_filter P q xs all.1 in split (q x) (λ e. rw e (all.0, ih)) (λ e. rw e ih)

module _ (schema : List TableSchema) (f : Fetch) (i : ℕ) (within : i < length schema) where
  abbrev is_here : TableChanges → Bool
  is_here t = bytes_eq t.table (table_at schema i).name

  here : is_here (sent_at schema f i) ≡ true
  here = bytes_same (table_at schema i).name (table_at schema i).name refl

  -- something is sent of it
  any_here : (a n : ℕ) → a ≤ i → i < a + n → has_something (sent_at schema f i) ≡ true → list_any (λ t. is_here t && has_something t) (map (sent_at schema f) (range_with_len a n)) ≡ true
  any_here a zero h k s = absurd (omega arith)
  any_here a (suc n) h k s =
      let ih : a + 1 ≤ i → list_any (λ t. is_here t && has_something t) (map (sent_at schema f) (range_with_len (a + 1) n)) ≡ true = λ l. any_here (a + 1) n l (omega arith) s in
      split (a == i)
      (λ e. let same : a ≡ i = (Decides-eqb a i).0 e in or_left (is_here (sent_at schema f a) && has_something (sent_at schema f a)) _ (ap (λ (j : ℕ). is_here (sent_at schema f j) && has_something (sent_at schema f j)) same ∙ (rw (here, s) refl)))
      (λ e. or_right (is_here (sent_at schema f a) && has_something (sent_at schema f a)) _ (ih (apart_later a e h)))
    where
      apart_later : (b : ℕ) → (b == i) ≡ false → b ≤ i → b + 1 ≤ i
      apart_later b e h = grind (arith, nat_tests)

  module _ (apart : NamesApart schema) where
    only_here : (a n : ℕ) → a + n ≤ length schema → AllByRecursion (λ t. is_here t ≡ true → t ≡ sent_at schema f i) (map (sent_at schema f) (range_with_len a n))
    only_here a zero h = tt
    only_here a (suc n) h = (λ e. ap (sent_at schema f) (apart a i (omega arith) within (same_bytes (table_at schema a).name (table_at schema i).name e)), only_here (a + 1) n (omega arith))

    none_here : (a n : ℕ) → a + n ≤ length schema → has_something (sent_at schema f i) ≡ false → list_any (λ t. is_here t && has_something t) (map (sent_at schema f) (range_with_len a n)) ≡ false
    none_here a zero h s = refl
    none_here a (suc n) h s =
        let ih : list_any (λ t. is_here t && has_something t) (map (sent_at schema f) (range_with_len (a + 1) n)) ≡ false = none_here (a + 1) n (omega arith) s in
        split (is_here (sent_at schema f a))
        (λ e. let same : a ≡ i = apart a i (omega arith) within (same_bytes (table_at schema a).name (table_at schema i).name e) in
        let off : has_something (sent_at schema f a) ≡ false = ap (λ (j : ℕ). has_something (sent_at schema f j)) same ∙ s in rw (e, off) ih)
        (λ e. rw e ih)

    abbrev all_sent : List TableChanges
    all_sent = map (sent_at schema f) (range_with_len 0 (length schema))

    any_sent : list_any is_here (by_name (λ t. t.table) (filter has_something all_sent)) ≡ has_something (sent_at schema f i)
    any_sent = any_by_name (λ (t : TableChanges). t.table) is_here (filter has_something all_sent) ∙ (any_filter is_here has_something all_sent
        ∙ split (has_something (sent_at schema f i)) (λ s. any_here 0 (length schema) (omega arith) (omega arith) s ∙ sym s) (λ s. none_here 0 (length schema) (omega arith) s ∙ sym s))

    found_sent : find is_here (by_name (λ t. t.table) (filter has_something all_sent)) ≡ cond (has_something (sent_at schema f i)) (Some (sent_at schema f i)) None
    found_sent = find_only is_here (sent_at schema f i) (by_name (λ t. t.table) (filter has_something all_sent))
        (each_by_name (λ (t : TableChanges). t.table) (λ t. is_here t ≡ true → t ≡ sent_at schema f i) (filter has_something all_sent) (each_filter (λ t. is_here t ≡ true → t ≡ sent_at schema f i) has_something all_sent (only_here 0 (length schema) (omega arith))))
        ∙ ap (λ b. cond b (Some (sent_at schema f i)) None) any_sent

    changes_sent : changes_for (sent_of schema f) (table_at schema i).name ≡ unwrap_or (cond (has_something (sent_at schema f i)) (Some (sent_at schema f i)) None) (no_changes (table_at schema i).name)
    unfolding sent_of
    changes_sent = ap (λ o. unwrap_or o (no_changes (table_at schema i).name)) found_sent

    pub standing_sent : (id : List ℕ) → standing_in (changes_for (sent_of schema f) (table_at schema i).name) id ≡ standing_in (sent_at schema f i) id
    standing_sent id = ap (λ (t : TableChanges). standing_in t id) changes_sent ∙ split (has_something (sent_at schema f i))
        (λ s. rw s refl)
        (λ s. rw s (sym (nothing_sent (sent_at schema f i).created (sent_at schema f i).updated (sent_at schema f i).deleted id s)))

pub stands_as_fetched : SentStandsAsFetched
unfolding standing
stands_as_fetched schema f x apart within =
    ap (λ o. standing_for (sent_of schema f) o x.id) (slice_get-get_or schema x.table no_table within) ∙ (standing_sent schema f x.table within apart x.id ∙ stands_here schema x f)

-- ---- something is sent

any_some : {X : Type 0} (p : X → Bool) (q : X → Bool) → ((x : X) → (q x && p x) ≡ true → p x ≡ true) → (xs : List X) → list_any (λ x. q x && p x) xs ≡ true → list_any p (filter p xs) ≡ true
any_some p q imp [] h = h
any_some p q imp (x ∷ xs) h = let ih : list_any (λ y. q y && p y) xs ≡ true → list_any p (filter p xs) ≡ true = any_some p q imp xs in
    split (p x) (λ e. rw e (or_left (p x) _ e)) (λ e. rw e (ih (ap (λ b. b || list_any (λ y. q y && p y) xs) (sym (off (q x) (p x) e)) ∙ h)))
  where
    off : (a b : Bool) → b ≡ false → (a && b) ≡ false
    off true b e = e
    off false b e = refl

names_at : (schema : List TableSchema) (f : Fetch) (i : ℕ) → i < length schema → has_something (sent_at schema f i) ≡ true → names_something (sent_of schema f) ≡ true
unfolding sent_of
names_at schema f i within h =
    let all : List TableChanges = map (sent_at schema f) (range_with_len 0 (length schema)) in
    any_by_name (λ (t : TableChanges). t.table) has_something (filter has_something all)
    ∙ any_some has_something (λ t. bytes_eq t.table (table_at schema i).name) (λ t e. (and_parts (bytes_eq t.table (table_at schema i).name) (has_something t) e).1) all (any_here schema f i within 0 (length schema) (omega arith) (omega arith) h)

held_some : (schema : List TableSchema) (h : Held) (held : List Held) → is_empty (rows_sent schema h.table (h ∷ held)) ≡ false
held_some schema h held = let on : (h.table == h.table) ≡ true = grind (arith, nat_tests) in rw on refl

gone_some : (g : Gone) (gone : List Gone) → is_empty (ids_sent g.table (g ∷ gone)) ≡ false
gone_some g gone = let on : (g.table == g.table) ≡ true = grind (arith, nat_tests) in rw on refl

pub below : (a n : ℕ) → nat_lt a n ≡ true → a < n
below a n h = grind (arith, nat_tests)

not_all : (a b c : Bool) → (a ≡ false) → not (a && (b && c)) ≡ true
not_all a b c h = rw h refl

not_second : (a b c : Bool) → (b ≡ false) → not (a && (b && c)) ≡ true
not_second true b c h = rw h refl
not_second false b c h = refl

not_third : (a b c : Bool) → (c ≡ false) → not (a && (b && c)) ≡ true
not_third true true c h = rw h refl
not_third true false c h = refl
not_third false b c h = refl

abbrev fetch_from_lists : List Held → List Held → List Gone → Fetch
fetch_from_lists created updated deleted = record { created = created; updated = updated; deleted = deleted }

names : (schema : List TableSchema) (created updated : List Held) (deleted : List Gone) → is_within (length schema) (fetch_from_lists created updated deleted) ≡ true → is_nothing (fetch_from_lists created updated deleted) ≡ false → names_something (sent_of schema (fetch_from_lists created updated deleted)) ≡ true
names schema (h ∷ created) updated deleted w e =
    let here : nat_lt h.table (length schema) ≡ true = (and_parts (nat_lt h.table (length schema)) _ w).0 in
    names_at schema (fetch_from_lists (h ∷ created) updated deleted) h.table (below h.table (length schema) here) (not_all (is_empty (rows_sent schema h.table (h ∷ created))) (is_empty (rows_sent schema h.table updated)) (is_empty (ids_sent h.table deleted)) (held_some schema h created))
names schema [] (h ∷ updated) deleted w e =
    let here : nat_lt h.table (length schema) ≡ true = (and_parts (nat_lt h.table (length schema)) _ w).0 in
    names_at schema (fetch_from_lists [] (h ∷ updated) deleted) h.table (below h.table (length schema) here) (not_second true (is_empty (rows_sent schema h.table (h ∷ updated))) (is_empty (ids_sent h.table deleted)) (held_some schema h updated))
names schema [] [] (g ∷ deleted) w e =
    let here : nat_lt g.table (length schema) ≡ true = (and_parts (nat_lt g.table (length schema)) _ w).0 in
    names_at schema (fetch_from_lists [] [] (g ∷ deleted)) g.table (below g.table (length schema) here) (not_third true true (is_empty (ids_sent g.table (g ∷ deleted))) (gone_some g deleted))
names schema [] [] [] w e = cc

pub sent_names : SentNamesSomething
sent_names schema f w e = names schema f.created f.updated f.deleted w e
