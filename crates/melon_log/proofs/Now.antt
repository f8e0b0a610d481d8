-- The rows now: after a push, within the revision, and listed.
use Rattle.std.proofs.Common.{◌≡◌, ℕ, zero, suc, ◌+◌, ◌<◌, ◌≤◌, max, List, [], ◌∷◌, ◌++◌, length, get_or, map, slice_get, Bool, true, false, ◌&&◌, ◌||◌, cond, Option, Some, None, bytes_eq, refl, sym, ap, ◌∙◌, subst, arith}
use Rattle.std.specs.List.{list_any, flat_map}
use Rattle.std.specs.Option.{option_or, unwrap_or}
use Rattle.std.proofs.lemmas.Bool.{or_parts}
use Rattle.std.proofs.lemmas.Bool.Decides.{Decides-eqb}
use Rattle.std.proofs.lemmas.List.Folds.{list_any-append}
use Rattle.std.proofs.lemmas.List.FromFn.{get_or-map-range_with_len}
use Rattle.std.proofs.lemmas.Option.{slice_get-get_or}
use Rattle.melon_schema.specs.declared.schema.ColumnSchema.{ColumnSchema}
use Rattle.melon_schema.specs.declared.schema.TableSchema.{TableSchema}
use Rattle.melon_raw.specs.declared.datum.OpField.{OpField}
use Rattle.melon_raw.specs.Rows.{Key, is_key, table_at, no_table}
use Rattle.melon_wire.specs.declared.changes.Changes.{Changes}
use Rattle.melon_wire.specs.declared.changes.Remote.{Remote}
use Rattle.melon_wire.specs.declared.changes.TableChanges.{TableChanges}
use Rattle.melon_wire.specs.Keys.{key_at, is_in, ascending}
use Rattle.melon_wire.specs.Standing.{Standing, as_created, as_updated, as_deleted, in_no_list, standing, standing_for, standing_in, stands, sent_in, is_listed, changes_for, ids_listed, keys_at}
use Rattle.melon_wire.proofs.Ascent.{is_in-ascending, do_ascend-ascending}
use Rattle.melon_log.specs.declared.server_row.ServerRow.{ServerRow}
use Rattle.melon_log.specs.ServerRows.{at, at_id, is_live, greatest, made, overwritten, sent_to, deleted_at, if_live, next_row, do_ascend}
use Rattle.melon_log.specs.Log.{Log, revision_after, revision, pushed, said, last_sending, row_unsent, row_after, columns_at, row_now, keys_known, table_rows, server_rows}
use Rattle.melon_log.specs.Laws.{greatest_in, Grow, AreRowsNow}
use Rattle.melon_log.proofs.ById.{id-at_id, AllAt, all_ascending, at_id-made, ascend-made}
use Rattle.melon_log.proofs.Follows.{IsOpening, or_none, row_id, follows}

is_opening : (id : List ℕ) (o : Option ServerRow) → ((r : ServerRow) → o ≡ Some r → r.id ≡ id) → IsOpening id o
is_opening id None h = tt
is_opening id (Some r) h = h r refl

pub opens : (g : Log) (x : Key) → IsOpening x.id (at g.opening x)
opens g x = is_opening x.id (at g.opening x) (λ r e. id-at_id x.id (get_or g.opening x.table []) r e)

pub pushed_row : (g : Log) (c : Changes) (x : Key) → row_now (pushed g c) x ≡ next_row (columns_at g.schema x.table) x.id (row_now g x) (revision (pushed g c)) (standing g.schema c x)
pushed_row g c x = follows (columns_at g.schema x.table) x.id (at g.opening x) (revision (pushed g c)) (standing g.schema c x) (said g.schema g.first x g.pushes) (opens g x)

pub unlisted : (g : Log) (c : Changes) (x : Key) → standing g.schema c x ≡ in_no_list → row_now (pushed g c) x ≡ row_now g x
unlisted g c x none = pushed_row g c x ∙ ap (λ (how : Standing). next_row (columns_at g.schema x.table) x.id (row_now g x) (revision (pushed g c)) how) none

has_id : (id : List ℕ) (o : Option ServerRow) (row : ServerRow) → IsOpening id o → o ≡ Some row → row.id ≡ id
has_id id None row h e = cc
has_id id (Some r) row h e = let same : r ≡ row = cc in subst (λ (q : ServerRow). q.id ≡ id) same h

-- a record's row has its id
pub own_id : (g : Log) (x : Key) (row : ServerRow) → row_now g x ≡ Some row → row.id ≡ x.id
own_id g x row e = has_id x.id (row_now g x) row (row_id (columns_at g.schema x.table) x.id (at g.opening x) (said g.schema g.first x g.pushes) (opens g x)) e

-- ---- revisions

later_revision : (first n : ℕ) → revision_after first n ≤ revision_after first (n + 1)
later_revision first n = omega arith

module _ (columns : List ColumnSchema) (id : List ℕ) (r old : ℕ) (above : old ≤ r) where
  sent_within : (row : Option ServerRow) (fields : List OpField) → greatest_in row ≤ old → (greatest (sent_to columns id row r fields) ≤ r) × (greatest_in row ≤ greatest (sent_to columns id row r fields))
  sent_within None fields h = (omega arith, omega arith)
  sent_within (Some row) fields h = go (is_live row)
    where
      go : (b : Bool) → (greatest (cond b (overwritten columns row r fields) (made columns id r fields)) ≤ r) × (greatest row ≤ greatest (cond b (overwritten columns row r fields) (made columns id r fields)))
      go true = (omega (arith, h, above), omega (arith, h, above))
      go false = (omega (arith, h, above), omega (arith, h, above))

  deleted_within : (row : Option ServerRow) → greatest_in row ≤ old → (greatest_in (option_or (if_live r row) row) ≤ r) × (greatest_in row ≤ greatest_in (option_or (if_live r row) row))
  deleted_within None h = (omega arith, omega arith)
  deleted_within (Some row) h = go (is_live row)
    where
      go : (b : Bool) → (greatest_in (option_or (cond b (Some (deleted_at r row)) None) (Some row)) ≤ r) × (greatest row ≤ greatest_in (option_or (cond b (Some (deleted_at r row)) None) (Some row)))
      go true = (omega (arith, h, above), omega (arith, h, above))
      go false = (omega (arith, h, above), omega arith)

  next_within : (row : Option ServerRow) (how : Standing) → greatest_in row ≤ old → (greatest_in (next_row columns id row r how) ≤ r) × (greatest_in row ≤ greatest_in (next_row columns id row r how))
  next_within row (as_created fields) h = sent_within row fields h
  next_within row (as_updated fields) h = sent_within row fields h
  next_within row as_deleted h = deleted_within row h
  next_within row in_no_list h = (omega (arith, h, above), omega arith)

abbrev pub with_pushes : Log → List Changes → Log
with_pushes g cs = record { schema = g.schema; opening = g.opening; first = g.first; pushes = cs }

pub row_within : (g : Log) (x : Key) (cs : List Changes) → greatest_in (at g.opening x) ≤ g.first → greatest_in (row_now (with_pushes g cs) x) ≤ revision_after g.first (length cs)
unfolding row_after
row_within g x [] h = go (at g.opening x) h
  where
    go : (o : Option ServerRow) → greatest_in o ≤ g.first → greatest_in (row_unsent o []) ≤ revision_after g.first 0
    go None k = omega arith
    go (Some row) k = subst (λ (d : Option ℕ). max row.created (max row.changed (unwrap_or d 0)) ≤ revision_after g.first 0) (sym (or_none row.deleted)) (omega (arith, k))
row_within g x (c ∷ cs) h =
    let ih : greatest_in (row_now (with_pushes g cs) x) ≤ revision_after g.first (length cs) = row_within g x cs h in
    let next = next_within (columns_at g.schema x.table) x.id (revision_after g.first (length (c ∷ cs))) (revision_after g.first (length cs)) (omega arith) (row_now (with_pushes g cs) x) (standing g.schema c x) ih in
    subst (λ (o : Option ServerRow). greatest_in o ≤ revision_after g.first (length (c ∷ cs))) (sym (pushed_row (with_pushes g cs) c x)) next.0

pub grow : (g : Log) (c : Changes) → Grow g c
grow g c = record {
  log = omega arith;
  within = λ h x. row_within g x g.pushes (h x);
  rows = λ h x.
      let next = next_within (columns_at g.schema x.table) x.id (revision (pushed g c)) (revision g) (omega arith) (row_now g x) (standing g.schema c x) (row_within g x g.pushes (h x)) in
      subst (λ (o : Option ServerRow). greatest_in (row_now g x) ≤ greatest_in o) (sym (pushed_row g c x)) next.1;
}

-- ---- a record that isn't listed has no row

sent_none : (id : List ℕ) (rows : List Remote) → list_any (λ i. bytes_eq id i) (map (λ r. r.id) rows) ≡ false → sent_in rows id ≡ None
sent_none id [] h = refl
sent_none id (r ∷ rows) h =
    let t = or_parts (bytes_eq id r.id) (list_any (λ i. bytes_eq id i) (map (λ q. q.id) rows)) h in
    ap (λ (b : Bool). cond b (Some r) (sent_in rows id)) t.0 ∙ sent_none id rows t.1

-- an id that isn't listed stands in no list
pub nowhere : (t : TableChanges) (id : List ℕ) → list_any (λ i. bytes_eq id i) (ids_listed t) ≡ false → standing_in t id ≡ in_no_list
nowhere t id h =
    let p : List ℕ → Bool = λ i. bytes_eq id i in
    let a = or_parts _ _ (sym (list_any-append p (map (λ r. r.id) t.created) (map (λ r. r.id) t.updated ++ t.deleted)) ∙ h) in
    let b = or_parts _ _ (sym (list_any-append p (map (λ r. r.id) t.updated) t.deleted) ∙ a.1) in
    ap (λ (o : Option Remote). stands o (sent_in t.updated id) (is_listed t.deleted id)) (sent_none id t.created a.0)
    ∙ (ap (λ (o : Option Remote). stands None o (is_listed t.deleted id)) (sent_none id t.updated b.0)
    ∙ ap (λ (c : Bool). stands None None c) b.1)

same_place : (i : ℕ) (id j : List ℕ) → is_key (key_at i id) (key_at i j) ≡ bytes_eq id j
same_place i id j = ap (λ (b : Bool). b && bytes_eq id j) ((Decides-eqb i i).1 refl)

-- a record among those of one table
pub in_table : (i : ℕ) (id : List ℕ) (ids : List (List ℕ)) → is_in (key_at i id) (map (key_at i) ids) ≡ list_any (λ j. bytes_eq id j) ids
in_table i id [] = refl
in_table i id (j ∷ js) = ap (λ (b : Bool). b || is_in (key_at i id) (map (key_at i) js)) (same_place i id j) ∙ ap (λ (b : Bool). bytes_eq id j || b) (in_table i id js)

pub standing_at : (schema : List TableSchema) (c : Changes) (x : Key) → x.table < length schema → standing schema c x ≡ standing_in (changes_for c (table_at schema x.table).name) x.id
unfolding standing
standing_at schema c x h = ap (λ (o : Option TableSchema). standing_for c o x.id) (slice_get-get_or schema x.table no_table h)

pub past_schema : (schema : List TableSchema) (c : Changes) (x : Key) → length schema ≤ x.table → standing schema c x ≡ in_no_list
unfolding standing
past_schema schema c x h = ap (λ (o : Option TableSchema). standing_for c o x.id) (none_get schema x.table h)
  where
    none_get : (xs : List TableSchema) (i : ℕ) → length xs ≤ i → slice_get xs i ≡ None
    none_get [] i h = refl
    none_get (y ∷ ys) zero h = absurd (omega arith)
    none_get (y ∷ ys) (suc i) h = none_get ys i (omega arith)

unkept : (x : Key) (rows : List ServerRow) → is_in x (map (λ row. key_at x.table row.id) rows) ≡ false → at_id x.id rows ≡ None
unkept x [] h = refl
unkept x (r ∷ rows) h =
    let t = or_parts (is_key x (key_at x.table r.id)) (is_in x (map (λ row. key_at x.table row.id) rows)) h in
    ap (λ (b : Bool). cond b (Some r) (at_id x.id rows)) (sym (same_place x.table x.id r.id) ∙ t.0) ∙ unkept x rows t.1

unsaid : (schema : List TableSchema) (first : ℕ) (x : Key) → x.table < length schema → (cs : List Changes) → is_in x (flat_map (λ c. keys_at schema c x.table) cs) ≡ false → last_sending (said schema first x cs) ≡ None
unsaid schema first x l [] h = refl
unsaid schema first x l (c ∷ cs) h =
    let t = or_parts (is_in x (keys_at schema c x.table)) (is_in x (flat_map (λ d. keys_at schema d x.table) cs)) (sym (list_any-append (is_key x) (keys_at schema c x.table) (flat_map (λ d. keys_at schema d x.table) cs)) ∙ h) in
    let named : TableChanges = changes_for c (table_at schema x.table).name in
    let none : standing schema c x ≡ in_no_list = standing_at schema c x l ∙ nowhere named x.id (sym (in_table x.table x.id (ids_listed named)) ∙ t.0) in
    rw (none, unsaid schema first x l cs t.1) refl

pub no_row : (g : Log) (x : Key) → x.table < length g.schema → is_in x (keys_known g x.table) ≡ false → row_now g x ≡ None
unfolding row_after
no_row g x l h =
    let t = or_parts _ _ (sym (list_any-append (is_key x) (map (λ row. key_at x.table row.id) (get_or g.opening x.table [])) (flat_map (λ c. keys_at g.schema c x.table) g.pushes)) ∙ h) in
    rw (unsaid g.schema g.first x l g.pushes t.1, unkept x (get_or g.opening x.table []) t.0) refl

-- ---- all rows

all_at : (i : ℕ) (ids : List (List ℕ)) → AllAt i (map (key_at i) ids)
all_at i [] = tt
all_at i (id ∷ ids) = (refl, all_at i ids)

all_both : (i : ℕ) (ks js : List Key) → AllAt i ks → AllAt i js → AllAt i (ks ++ js)
all_both i [] js h k = k
all_both i (x ∷ ks) js h k = (h.0, all_both i ks js h.1 k)

known_at : (g : Log) (i : ℕ) → AllAt i (keys_known g i)
known_at g i = all_both i (map (λ row. key_at i row.id) (get_or g.opening i [])) (flat_map (λ c. keys_at g.schema c i) g.pushes) (opened (get_or g.opening i [])) (listed g.pushes)
  where
    opened : (rows : List ServerRow) → AllAt i (map (λ row. key_at i row.id) rows)
    opened [] = tt
    opened (r ∷ rows) = (refl, opened rows)

    listed : (cs : List Changes) → AllAt i (flat_map (λ c. keys_at g.schema c i) cs)
    listed [] = tt
    listed (c ∷ cs) = all_both i (keys_at g.schema c i) (flat_map (λ d. keys_at g.schema d i) cs) (all_at i (ids_listed (changes_for c (table_at g.schema i).name))) (listed cs)

pub rows_ascend : (g : Log) (i : ℕ) → do_ascend (table_rows g i) ≡ true
rows_ascend g i = ascend-made (row_now g) (own_id g) i (ascending (keys_known g i)) (all_ascending (λ (k : Key). k.table ≡ i) (keys_known g i) (known_at g i)) (do_ascend-ascending (keys_known g i))

chosen : (b : Bool) (o : Option ServerRow) → (b ≡ false → o ≡ None) → cond b o None ≡ o
chosen true o h = refl
chosen false o h = sym (h refl)

pub rows_found : (g : Log) (x : Key) → x.table < length g.schema → at_id x.id (table_rows g x.table) ≡ row_now g x
rows_found g x l =
    at_id-made (row_now g) (own_id g) x.table x.id (ascending (keys_known g x.table)) (all_ascending (λ (k : Key). k.table ≡ x.table) (keys_known g x.table) (known_at g x.table))
    ∙ (ap (λ (b : Bool). cond b (row_now g x) None) (is_in-ascending x (keys_known g x.table))
    ∙ chosen (is_in x (keys_known g x.table)) (row_now g x) (no_row g x l))

pub server_table : (g : Log) (i : ℕ) → i < length g.schema → get_or (server_rows g) i [] ≡ table_rows g i
unfolding server_rows
server_table g i l = get_or-map-range_with_len (table_rows g) 0 (length g.schema) i i [] l (omega arith)

pub are_now : (g : Log) → AreRowsNow g
are_now g = record {
  found = λ x l. ap (at_id x.id) (server_table g x.table l) ∙ rows_found g x l;
  ascending = rows_ascend g;
}
