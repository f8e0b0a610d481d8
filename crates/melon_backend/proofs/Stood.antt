-- A backend that stands for a log.
use Rattle.std.proofs.Common.{◌≡◌, ℕ, zero, suc, ◌+◌, ◌<◌, ◌≤◌, nat_lt, List, [], ◌∷◌, ◌++◌, length, map, get_or, find, Bool, true, false, not, ◌||◌, cond, Option, Some, None, option_map, Result, Ok, Err, bytes_eq, refl, sym, ap, ◌∙◌, subst, arith}
use Rattle.std.specs.Bool.{⊤}
use Rattle.std.specs.Option.{option_or, unwrap_or}
use Rattle.std.specs.List.{AllByRecursion, filter_map, cons_option, flat_map, range_with_len}
use Rattle.std.proofs.lemmas.Bool.{and_parts, both_ways}
use Rattle.std.proofs.lemmas.Bool.Decides.{nat_tests}
use Rattle.std.proofs.lemmas.List.{length-map, get_or_past}
use Rattle.std.proofs.lemmas.List.Quantifiers.{position-Some}
use Rattle.melon_schema.specs.Faults.{◌>>=◌, unless}
use Rattle.melon_schema.specs.Places.{table_named}
use Rattle.melon_schema.specs.declared.schema.TableSchema.{TableSchema}
use Rattle.melon_raw.specs.Rows.{Key, is_key, table_at, no_table}
use Rattle.melon_wire.specs.declared.changes.TableChanges.{TableChanges}
use Rattle.melon_wire.specs.declared.changes.Changes.{Changes}
use Rattle.melon_wire.specs.Forms.{names_ascend}
use Rattle.melon_wire.specs.Keys.{key_at, is_in, are_apart, ascending}
use Rattle.melon_wire.specs.Sent.{names_something}
use Rattle.melon_wire.specs.Standing.{Standing, in_no_list, standing, standing_in, no_changes, ids_listed}
use Rattle.melon_wire.proofs.KeyOrder.{split, bytes_same, same_bytes, is_key_same}
use Rattle.melon_wire.proofs.Ascent.{is_in-ascending}
use Rattle.melon_log.specs.declared.server_row.ServerRow.{ServerRow}
use Rattle.melon_log.specs.declared.fault.PushFault.{PushFault}
use Rattle.melon_log.specs.declared.fault.PushFault.TheVariants.{StoreFull}
use Rattle.melon_raw.specs.declared.datum.Datum.{Datum}
use Rattle.melon_log.specs.ServerRows.{ServerRows, id_of, at, at_id, row_put, next_row}
use Rattle.melon_log.specs.Log.{Log, revision_after, revision, pushed, after_push, row_now, columns_at, table_rows, server_rows, row_after, deleted_since}
use Rattle.melon_log.specs.Pulled.{pull_of, pulled}
use Rattle.melon_log.specs.Verdict.{unless_one, if_any, conflict, gone, long, records_at, records, keys_of, judged, verdict}
use Rattle.melon_log.specs.Laws.{NamesApart}
use Rattle.melon_log.proofs.ById.{AllAt, all_ascending, same_rows}
use Rattle.melon_log.proofs.Now.{pushed_row, nowhere, in_table, standing_at, rows_ascend, rows_found, server_table}
use Rattle.melon_backend.specs.declared.put.Put.{Put}
use Rattle.melon_backend.specs.Rows.{with_put, with_puts, stored_bytes}
use Rattle.melon_backend.specs.Backends.{SeenBackend, Plan, put_at}
use Rattle.melon_backend.specs.Pushing.{naming, put_named, puts, next_revision, with_push, within_limit, puts_plan, accepted_plan, push_plan, push_batch}
use Rattle.melon_backend.specs.Drafts.{key_put, IsPutWithin}
use Rattle.melon_backend.specs.Standing.{Stands, opened_log, IsBareIfDeleted, bare_if, IsWellKept}
use Rattle.melon_backend.proofs.Places.{past_all, none_all}
use Rattle.melon_backend.proofs.Records.{IsDeclared, records_declared, records_apart, is_in_relabel}
use Rattle.melon_backend.proofs.Puts.{Ascends, ascends-put, at-put, put_key, ascends-puts, length-puts, length-set}

pub pull_is : (g : Log) (b : SeenBackend) (t : ℕ) → Stands g b → pull_of b.schema.tables b.revision b.rows t ≡ pulled g t
pull_is g b t s = sym (λ i. pull_of (s.schema i) (s.revision i) (s.rows i) t)

-- ---- rows of the log are rows of the backend

pub row_is : (g : Log) (b : SeenBackend) → Stands g b → (x : Key) → x.table < length g.schema → at b.rows x ≡ row_now g x
row_is g b s x within = sym (ap (λ (rows : ServerRows). at rows x) s.rows) ∙ (ap (at_id x.id) (server_table g x.table within) ∙ rows_found g x within)

same_ones : {X : Type 0} (f h : X → Option PushFault) (xs : List X) → AllByRecursion (λ x. f x ≡ h x) xs → unless_one f xs ≡ unless_one h xs
same_ones f h [] all = refl
same_ones f h (x ∷ xs) all = rw all.0 (ap (λ (r : Result ⊤ PushFault). if_any (h x) >>= λ none. r) (same_ones f h xs all.1))

all_from : {X : Type 0} (P Q : X → Type 0) (xs : List X) → ((x : X) → P x → Q x) → AllByRecursion P xs → AllByRecursion Q xs
all_from P Q [] f all = tt
all_from P Q (x ∷ xs) f all = (f x all.0, all_from P Q xs f all.1)

judged_same : (schema : List TableSchema) (now : ℕ) (row row' : Key → Option ServerRow) (t : ℕ) (c : Changes) → ((x : Key) → x.table < length schema → row x ≡ row' x) → judged schema now row t c ≡ judged schema now row' t c
unfolding judged
judged_same schema now row row' t c same =
    let conflicts : unless_one (conflict schema row t (standing schema c)) (records schema c) ≡ unless_one (conflict schema row' t (standing schema c)) (records schema c) =
    same_ones (conflict schema row t (standing schema c)) (conflict schema row' t (standing schema c)) (records schema c)
    (all_from (IsDeclared schema) (λ x. conflict schema row t (standing schema c) x ≡ conflict schema row' t (standing schema c) x) (records schema c) (λ x h. ap (λ (o : Option ServerRow). conflict schema (λ k. o) t (standing schema c) x) (same x h)) (records_declared schema c)) in
    let gones : unless_one (gone schema row t (standing schema c)) (records schema c) ≡ unless_one (gone schema row' t (standing schema c)) (records schema c) =
    same_ones (gone schema row t (standing schema c)) (gone schema row' t (standing schema c)) (records schema c)
    (all_from (IsDeclared schema) (λ x. gone schema row t (standing schema c) x ≡ gone schema row' t (standing schema c) x) (records schema c) (λ x h. ap (λ (o : Option ServerRow). gone schema (λ k. o) t (standing schema c) x) (same x h)) (records_declared schema c)) in
    rw (conflicts, gones) refl

pub verdict_is : (g : Log) (b : SeenBackend) (t : ℕ) (c : Changes) → Stands g b → judged b.schema.tables b.revision (at b.rows) t c ≡ verdict g t c
verdict_is g b t c s =
    sym (λ i. judged (s.schema i) (s.revision i) (at b.rows) t c) ∙ judged_same g.schema (revision g) (at b.rows) (row_now g) t c (row_is g b s)

-- ---- an accepted push

next_is : (first n now : ℕ) → revision_after first n ≡ now → revision_after first (suc n) ≡ next_revision now
next_is first n now h = split (nat_lt now 9007199254740991)
    (λ e. rw e (grind (arith, nat_tests)))
    (λ e. rw e (grind (arith, nat_tests)))

module _ (schema : List TableSchema) (r : ℕ) (rows0 : ServerRows) (c : Changes) where
  abbrev made_of : Key → Option Put
  made_of k = put_named schema r (naming schema rows0 c k)

  abbrev put_of : Key → Option ServerRow
  put_of k = row_put (columns_at schema k.table) k.id (at rows0 k) r (standing schema c k)

  -- so it is with the rows that are put of these records
  at-puts : (ks : List Key) (rows : ServerRows) → Ascends rows → AllByRecursion (λ k. k.table < length rows) ks → are_apart ks ≡ true → (x : Key) → at (with_puts rows (filter_map made_of ks)) x ≡ cond (is_in x ks) (option_or (put_of x) (at rows x)) (at rows x)
  at-puts [] rows up all apart x = refl
  at-puts (k ∷ ks) rows up all apart x =
      let t = and_parts (not (is_in k ks)) (are_apart ks) apart in
      go (not_true (is_in k ks) t.0) (put_of k) refl (λ rows' up' all'. at-puts ks rows' up' all' t.1 x)
    where
      not_true : (b : Bool) → not b ≡ true → b ≡ false
      not_true true h = cc
      not_true false h = refl

      go : is_in k ks ≡ false → (o : Option ServerRow) → put_of k ≡ o
          → ((rows' : ServerRows) → Ascends rows' → AllByRecursion (λ j. j.table < length rows') ks → at (with_puts rows' (filter_map made_of ks)) x ≡ cond (is_in x ks) (option_or (put_of x) (at rows' x)) (at rows' x))
          → at (with_puts rows (cons_option (option_map (put_at k.table) o) (filter_map made_of ks))) x ≡ cond (is_key x k || is_in x ks) (option_or (put_of x) (at rows x)) (at rows x)
      go alone None is later = split (is_key x k)
          (λ e. let here : x ≡ k = is_key_same x k e in
          let none : is_in x ks ≡ false = ap (λ (j : Key). is_in j ks) here ∙ alone in
          let nothing : put_of x ≡ None = ap put_of here ∙ is in
          later rows up all.1 ∙ (ap (λ (b : Bool). cond b (option_or (put_of x) (at rows x)) (at rows x)) none ∙ sym (ap (λ (b : Bool). cond (b || is_in x ks) (option_or (put_of x) (at rows x)) (at rows x)) e ∙ ap (λ (o : Option ServerRow). option_or o (at rows x)) nothing)))
          (λ e. later rows up all.1 ∙ sym (ap (λ (b : Bool). cond (b || is_in x ks) (option_or (put_of x) (at rows x)) (at rows x)) e))
      go alone (Some new) is later =
          let p : Put = put_at k.table new in
          let key : key_put p ≡ k = put_key schema r rows0 (naming schema rows0 c k) p refl (ap (option_map (put_at k.table)) is) in
          let put : (y : Key) → at (with_put rows p) y ≡ cond (is_key y k) (Some new) (at rows y) = λ y. at-put rows p all.0 up y ∙ ap (λ (j : Key). cond (is_key y j) (Some new) (at rows y)) key in
          let next = later (with_put rows p) (ascends-put rows p all.0 up) (subst (λ (m : ℕ). AllByRecursion (λ (j : Key). j.table < m) ks) (sym (length-set rows k.table _)) all.1) in
          split (is_key x k)
          (λ e. let here : x ≡ k = is_key_same x k e in
          let none : is_in x ks ≡ false = ap (λ (j : Key). is_in j ks) here ∙ alone in
          let some : put_of x ≡ Some new = ap put_of here ∙ is in
          next ∙ (ap (λ (b : Bool). cond b (option_or (put_of x) (at (with_put rows p) x)) (at (with_put rows p) x)) none ∙ (put x ∙ (ap (λ (b : Bool). cond b (Some new) (at rows x)) e
          ∙ sym (ap (λ (b : Bool). cond (b || is_in x ks) (option_or (put_of x) (at rows x)) (at rows x)) e ∙ ap (λ (o : Option ServerRow). option_or o (at rows x)) some)))))
          (λ e. let same : at (with_put rows p) x ≡ at rows x = put x ∙ ap (λ (b : Bool). cond b (Some new) (at rows x)) e in
          next ∙ (ap (λ (o : Option ServerRow). cond (is_in x ks) (option_or (put_of x) o) o) same ∙ sym (ap (λ (b : Bool). cond (b || is_in x ks) (option_or (put_of x) (at rows x)) (at rows x)) e)))

-- ---- a record that isn't listed

found_table : (name : List ℕ) (ts : List TableChanges) (t : TableChanges) → find (λ (u : TableChanges). bytes_eq u.table name) ts ≡ Some t → t.table ≡ name
found_table name [] t h = cc
found_table name (u ∷ us) t h =
    let ih : find (λ (v : TableChanges). bytes_eq v.table name) us ≡ Some t → t.table ≡ name = found_table name us t in
    split (bytes_eq u.table name)
    (λ e. let same : u ≡ t = (let s : Some u ≡ Some t = rw e at h in cc) in subst (λ (v : TableChanges). v.table ≡ name) same (same_bytes u.table name e))
    (λ e. ih (rw e at h))

module _ (schema : List TableSchema) (apart : NamesApart schema) where
  pub place_found : (i : ℕ) (o : Option ℕ) → i < length schema → table_named (table_at schema i).name schema ≡ o → o ≡ Some i
  place_found i None within h =
      absurd (both_ways (bytes_eq (table_at schema i).name (table_at schema i).name)
      (none_all (λ (s : TableSchema). bytes_eq (table_at schema i).name s.name) schema (past_all (λ (s : TableSchema). bytes_eq (table_at schema i).name s.name) schema h) i within)
      (bytes_same (table_at schema i).name (table_at schema i).name refl))
  place_found i (Some j) within h =
      let f = position-Some (λ (s : TableSchema). bytes_eq (table_at schema i).name s.name) schema j no_table h in
      ap Some (sym (apart i j within f.0 (same_bytes (table_at schema i).name (table_at schema j).name f.1)))

  -- a listed record is among the records
  relabelled : (i : ℕ) (id : List ℕ) (ks : List Key) → AllAt 0 ks → is_in (key_at i id) (map (λ x. key_at i x.id) ks) ≡ is_in (key_at 0 id) ks
  relabelled i id ks all = is_in_relabel schema i id ks all

  in_later : (x : Key) (xs ys : List Key) → is_in x (xs ++ ys) ≡ false → (is_in x xs ≡ false) × (is_in x ys ≡ false)
  in_later x [] ys h = (refl, h)
  in_later x (z ∷ zs) ys h =
      let ih : is_in x (zs ++ ys) ≡ false → (is_in x zs ≡ false) × (is_in x ys ≡ false) = in_later x zs ys in
      split (is_key x z)
      (λ e. absurd (both_ways (is_key x z || is_in x (zs ++ ys)) h (rw e refl)))
      (λ e. let t = ih (sym (rw e refl) ∙ h) in (rw e t.0, t.1))

  not_in_table : (x : Key) (name : List ℕ) (ts : List TableChanges) (t : TableChanges) → is_in x (flat_map (λ u. records_at u (table_named u.table schema)) ts) ≡ false → find (λ (u : TableChanges). bytes_eq u.table name) ts ≡ Some t
      → is_in x (records_at t (table_named t.table schema)) ≡ false
  not_in_table x name [] t h f = cc
  not_in_table x name (u ∷ us) t h f =
      let p = in_later x (records_at u (table_named u.table schema)) (flat_map (λ v. records_at v (table_named v.table schema)) us) h in
      let ih : find (λ (v : TableChanges). bytes_eq v.table name) us ≡ Some t → is_in x (records_at t (table_named t.table schema)) ≡ false = not_in_table x name us t p.1 in
      split (bytes_eq u.table name)
      (λ e. let same : u ≡ t = (let s : Some u ≡ Some t = rw e at f in cc) in subst (λ (v : TableChanges). is_in x (records_at v (table_named v.table schema)) ≡ false) same p.0)
      (λ e. ih (rw e at f))

  zeros : (ids : List (List ℕ)) → AllAt 0 (map (key_at 0) ids)
  zeros [] = tt
  zeros (d ∷ ds) = (refl, zeros ds)

  unlisted_stands : (c : Changes) (x : Key) → x.table < length schema → is_in x (records schema c) ≡ false → standing schema c x ≡ in_no_list
  unlisted_stands c x within h = standing_at schema c x within ∙ by (find (λ (u : TableChanges). bytes_eq u.table (table_at schema x.table).name) c.tables) refl
    where
      by : (o : Option TableChanges) → find (λ (u : TableChanges). bytes_eq u.table (table_at schema x.table).name) c.tables ≡ o → standing_in (unwrap_or (find (λ (u : TableChanges). bytes_eq u.table (table_at schema x.table).name) c.tables) (no_changes (table_at schema x.table).name)) x.id ≡ in_no_list
      by None e = rw e refl
      by (Some t) e =
          let name : t.table ≡ (table_at schema x.table).name = found_table (table_at schema x.table).name c.tables t e in
          let place : table_named t.table schema ≡ Some x.table = ap (λ (n : List ℕ). table_named n schema) name ∙ place_found x.table (table_named (table_at schema x.table).name schema) within refl in
          let off : is_in x (records_at t (table_named t.table schema)) ≡ false = not_in_table x (table_at schema x.table).name c.tables t h e in
          let off' : is_in x (map (λ k. key_at x.table k.id) (ascending (keys_of t))) ≡ false = ap (λ (o : Option ℕ). is_in x (records_at t o)) (sym place) ∙ off in
          let plain : is_in (key_at 0 x.id) (keys_of t) ≡ false = sym (is_in-ascending (key_at 0 x.id) (keys_of t)) ∙ (sym (relabelled x.table x.id (ascending (keys_of t)) (all_ascending (λ (k : Key). k.table ≡ 0) (keys_of t) (zeros (ids_listed t)))) ∙ off') in
          rw e (nowhere t x.id (sym (in_table 0 x.id (ids_listed t)) ∙ plain))

-- ---- the rows after a push

rows_path : (xs ys : ServerRows) → length xs ≡ length ys → ((i : ℕ) → i < length xs → get_or xs i [] ≡ get_or ys i []) → xs ≡ ys
rows_path [] [] long same = refl
rows_path [] (y ∷ ys) long same = absurd (omega (arith, long))
rows_path (x ∷ xs) [] long same = absurd (omega (arith, long))
rows_path (x ∷ xs) (y ∷ ys) long same =
    let first : x ≡ y = same 0 (omega arith) in
    let rest : xs ≡ ys = rows_path xs ys (omega (arith, long)) (λ i h. same (suc i) (omega (arith, h))) in
    λ j. first j ∷ rest j

unfolding_rows : (g : Log) → length (server_rows g) ≡ length g.schema
unfolding server_rows
unfolding_rows g = length-map (range_with_len 0 (length g.schema)) (table_rows g) ∙ length_range 0 (length g.schema)
  where
    length_range : (a n : ℕ) → length (range_with_len a n) ≡ n
    length_range a zero = refl
    length_range a (suc n) = let ih : length (range_with_len (a + 1) n) ≡ n = length_range (a + 1) n in omega (arith, ih)

within_rows : (schema : List TableSchema) (m : ℕ) (ks : List Key) → length schema ≡ m → AllByRecursion (IsDeclared schema) ks → AllByRecursion (λ k. k.table < m) ks
within_rows schema m ks same all = subst (λ (n : ℕ). AllByRecursion (λ (k : Key). k.table < n) ks) same all

module _ (g : Log) (b : SeenBackend) (c : Changes) (up : names_ascend (λ (u : TableChanges). u.table) c.tables ≡ true) (s : Stands g b) where
  pub lengths : length b.rows ≡ length g.schema
  lengths = sym (ap length s.rows) ∙ unfolding_rows g

  pub rises : Ascends b.rows
  rises i = split (nat_lt i (length g.schema))
      (λ e. let within : i < length g.schema = grind (arith, nat_tests) in
      sym (ap (λ (rows : ServerRows). names_ascend id_of (get_or rows i [])) s.rows) ∙ (ap (names_ascend id_of) (server_table g i within) ∙ rows_ascend g i))
      (λ e. let past : length b.rows ≤ i = (let h : length g.schema ≤ i = grind (arith, nat_tests) in omega (arith, h, lengths)) in ap (names_ascend id_of) (get_or_past b.rows i [] past))

  next : revision (pushed g c) ≡ next_revision b.revision
  next = next_is g.first (length g.pushes) b.revision s.revision

  abbrev listed : List Put
  listed = puts g.schema b.rows (next_revision b.revision) c

  record_after : (x : Key) → x.table < length g.schema → at (with_puts b.rows listed) x ≡ row_now (pushed g c) x
  record_after x within =
      let r = next_revision b.revision in
      let found = at-puts g.schema r b.rows c (records g.schema c) b.rows rises (within_rows g.schema (length b.rows) (records g.schema c) (sym lengths) (records_declared g.schema c)) (records_apart g.schema c up) x in
      let same : at b.rows x ≡ row_now g x = row_is g b s x within in
      let whole : row_now (pushed g c) x ≡ option_or (row_put (columns_at g.schema x.table) x.id (at b.rows x) r (standing g.schema c x)) (at b.rows x) =
      pushed_row g c x ∙ (ap (λ (n : ℕ). next_row (columns_at g.schema x.table) x.id (row_now g x) n (standing g.schema c x)) next ∙ ap (λ (o : Option ServerRow). next_row (columns_at g.schema x.table) x.id o r (standing g.schema c x)) (sym same)) in
      split (is_in x (records g.schema c))
      (λ e. found ∙ (ap (λ (t : Bool). cond t (option_or (row_put (columns_at g.schema x.table) x.id (at b.rows x) r (standing g.schema c x)) (at b.rows x)) (at b.rows x)) e ∙ sym whole))
      (λ e. let none : standing g.schema c x ≡ in_no_list = unlisted_stands g.schema s.apart c x within e in
      found ∙ (ap (λ (t : Bool). cond t (option_or (row_put (columns_at g.schema x.table) x.id (at b.rows x) r (standing g.schema c x)) (at b.rows x)) (at b.rows x)) e
      ∙ sym (whole ∙ ap (λ (h : Standing). option_or (row_put (columns_at g.schema x.table) x.id (at b.rows x) r h) (at b.rows x)) none)))

  pub puts_in : AllByRecursion (IsPutWithin (length b.rows)) listed
  puts_in = each (records g.schema c) (within_rows g.schema (length b.rows) (records g.schema c) (sym lengths) (records_declared g.schema c))
    where
      each : (ks : List Key) → AllByRecursion (λ k. k.table < length b.rows) ks → AllByRecursion (IsPutWithin (length b.rows)) (filter_map (made_of g.schema (next_revision b.revision) b.rows c) ks)
      each [] all = tt
      each (k ∷ ks) all = one (row_put (columns_at g.schema k.table) k.id (at b.rows k) (next_revision b.revision) (standing g.schema c k)) all.0 (each ks all.1)
        where
          one : (o : Option ServerRow) → k.table < length b.rows → AllByRecursion (IsPutWithin (length b.rows)) (filter_map (made_of g.schema (next_revision b.revision) b.rows c) ks) → AllByRecursion (IsPutWithin (length b.rows)) (cons_option (option_map (put_at k.table) o) (filter_map (made_of g.schema (next_revision b.revision) b.rows c) ks))
          one None within ih = ih
          one (Some new) within ih = (within, ih)

  rows_after : server_rows (pushed g c) ≡ with_puts b.rows listed
  rows_after = rows_path (server_rows (pushed g c)) (with_puts b.rows listed) (unfolding_rows (pushed g c) ∙ (sym lengths ∙ sym (length-puts listed b.rows)))
      (λ i h. let within : i < length g.schema = (let l = unfolding_rows (pushed g c) in omega (arith, h, l)) in
      server_table (pushed g c) i within
      ∙ same_rows (table_rows (pushed g c) i) (get_or (with_puts b.rows listed) i []) (rows_ascend (pushed g c) i) (ascends-puts listed b.rows puts_in rises i)
      (λ id. rows_found (pushed g c) (key_at i id) within ∙ sym (record_after (key_at i id) within)))

pub within_ok : {X : Type 0} (bytes : ℕ) (x y : X) → (within_limit bytes >>= λ within. Ok x) ≡ Ok y → x ≡ y
within_ok bytes x y h = go (not (nat_lt 134217728 bytes)) h
  where
    go : (t : Bool) → (unless t (StoreFull bytes) >>= λ within. Ok x) ≡ Ok y → x ≡ y
    go true k = cc
    go false k = cc

pub then_ok : {X : Type 0} (a : Result ⊤ PushFault) (f : Result X PushFault) (y : X) → (a >>= λ accepted. f) ≡ Ok y → f ≡ Ok y
then_ok (Ok u) f y h = h
then_ok (Err e) f y h = cc

pub push_follows : (g : Log) (b : SeenBackend) (t : ℕ) (c : Changes) (plan : Plan) → names_ascend (λ (u : TableChanges). u.table) c.tables ≡ true → Stands g b → push_plan b t c ≡ Ok plan → Stands (after_push g c) plan.after
unfolding push_plan
push_follows g b t c plan up s h = go (names_something c) (then_ok (judged b.schema.tables b.revision (at b.rows) t c) (accepted_plan b c) plan h)
  where
    go : (named : Bool) → cond named (puts_plan b (next_revision b.revision) (puts b.schema.tables b.rows (next_revision b.revision) c)) (Ok (record { batch = None; after = b })) ≡ Ok plan → Stands (cond named (pushed g c) g) plan.after
    go true k =
        let ps = puts b.schema.tables b.rows (next_revision b.revision) c in
        let is = within_ok (stored_bytes b.schema.tables (with_puts b.rows ps)) (record { batch = Some (push_batch b.schema.tables (next_revision b.revision) ps); after = with_push b (next_revision b.revision) ps }) plan k in
        subst (λ (p : Plan). Stands (pushed g c) p.after) is (record {
          schema = s.schema;
          apart = s.apart;
          revision = next g b c up s;
          rows = rows_after g b c up s ∙ ap (λ (schema : List TableSchema). with_puts b.rows (puts schema b.rows (next_revision b.revision) c)) s.schema;
        })
    go false k = let is : record { batch = None; after = b } ≡ plan = cc in subst (λ (p : Plan). Stands g p.after) is s

-- ---- the opening

bare_same : (row : ServerRow) → IsBareIfDeleted row → deleted_since row None ≡ row
bare_same row bare = go row.id row.created row.changed row.deleted row.cells bare
  where
    go : (id : List ℕ) (created changed : ℕ) (d : Option ℕ) (cells : List Datum) → bare_if d (record { id = id; created = created; changed = changed; deleted = d; cells = cells })
        → deleted_since (record { id = id; created = created; changed = changed; deleted = d; cells = cells }) None ≡ record { id = id; created = created; changed = changed; deleted = d; cells = cells }
    go id created changed None cells bare = refl
    go id created changed (Some r) cells bare = λ i. record { id = id; created = created; changed = changed; deleted = Some r; cells = sym bare i }

bare_found : (id : List ℕ) (rows : List ServerRow) (row : ServerRow) → AllByRecursion IsBareIfDeleted rows → at_id id rows ≡ Some row → IsBareIfDeleted row
bare_found id [] row all h = cc
bare_found id (r ∷ rs) row all h =
    let ih : at_id id rs ≡ Some row → IsBareIfDeleted row = bare_found id rs row all.1 in
    split (bytes_eq id r.id) (λ e. let same : r ≡ row = (let k : Some r ≡ Some row = rw e at h in cc) in subst IsBareIfDeleted same all.0) (λ e. ih (rw e at h))

opening_row : (b : SeenBackend) → IsWellKept b → (x : Key) → row_now (opened_log b) x ≡ at b.rows x
unfolding row_after
opening_row b kept x = go (at b.rows x) refl
  where
    go : (o : Option ServerRow) → at b.rows x ≡ o → row_after (columns_at b.schema.tables x.table) x.id (at b.rows x) [] ≡ at b.rows x
    go None e = rw e refl
    go (Some row) e = rw e (ap Some (bare_same row (bare_found x.id (get_or b.rows x.table []) row (kept.bare x.table) e)))

pub opening_stands : (b : SeenBackend) → NamesApart b.schema.tables → IsWellKept b → Stands (opened_log b) b
opening_stands b apart kept = record {
  schema = refl;
  apart = apart;
  revision = grind (arith, nat_tests);
  rows = rows_path (server_rows (opened_log b)) b.rows (unfolding_rows (opened_log b) ∙ sym kept.long)
      (λ i h. let within : i < length b.schema.tables = (let l = unfolding_rows (opened_log b) in omega (arith, h, l)) in
      server_table (opened_log b) i within
      ∙ same_rows (table_rows (opened_log b) i) (get_or b.rows i []) (rows_ascend (opened_log b) i) (kept.ascending i)
      (λ id. rows_found (opened_log b) (key_at i id) within ∙ opening_row b kept (key_at i id)));
}
