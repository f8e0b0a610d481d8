-- A fetch taken apart, table by table.
use Rattle.std.proofs.Common.{◌≡◌, ◌≢◌, ℕ, suc, ◌+◌, ◌-◌, ◌<◌, ◌≤◌, ◌==◌, nat_lt, nat_le, List, [], ◌∷◌, ◌++◌, length, map, filter, take, drop, Bool, true, false, not, ◌&&◌, cond, Ordering, Less, Equal, Greater, refl, sym, ap, ◌∙◌, subst, arith, one-add, append_assoc}
use Rattle.std.specs.Ordering.{nat_cmp, is_lt, ordering_then}
use Rattle.std.specs.List.{prefix_len, list_all, range_with_len}
use Rattle.std.proofs.lemmas.Bool.{and_parts, and_from, both_ways}
use Rattle.std.proofs.lemmas.Bool.Decides.{nat_tests}
use Rattle.melon_schema.specs.declared.schema.ColumnSchema.{ColumnSchema}
use Rattle.melon_schema.specs.declared.schema.TableSchema.{TableSchema}
use Rattle.melon_raw.specs.declared.datum.OpField.{OpField}
use Rattle.melon_raw.specs.declared.raw.Raw.{Raw}
use Rattle.melon_raw.specs.Order.{id_cmp}
use Rattle.melon_raw.specs.Rows.{Key, table_at}
use Rattle.melon_table.proofs.Order.{filter_all, filter_none, filter_passes}
use Rattle.melon_wire.specs.declared.changes.Remote.{Remote}
use Rattle.melon_wire.specs.declared.changes.TableChanges.{TableChanges}
use Rattle.melon_wire.specs.declared.fetch.Held.{Held}
use Rattle.melon_wire.specs.declared.fetch.Gone.{Gone}
use Rattle.melon_wire.specs.declared.fetch.Fetch.{Fetch}
use Rattle.melon_wire.specs.Keys.{is_before, do_ascend}
use Rattle.melon_wire.specs.Collected.{held_key, gone_key, is_empty, is_nothing, IsFetch}
use Rattle.melon_wire.specs.Sent.{field_of, remote_of, sent_at, has_something}
use Rattle.melon_wire.proofs.KeyOrder.{split, all_mono}
use Rattle.melon_push.specs.Fetching.{run_of, past_run, fetch_of, fetch_from, remote_by, columns_by_name, table_sent, sent_from}
use Rattle.melon_push.proofs.Lists.{filter-filter, range_front}
use Rattle.melon_push.proofs.Growing.{fetch_path}
use Rattle.melon_push.proofs.Named.{by_name-map}

-- ---- places that never fall

module _ {X : Type 0} (place : X → ℕ) where
  abbrev is_at : ℕ → X → Bool
  is_at i x = place x == i

  abbrev is_from : ℕ → X → Bool
  is_from i x = nat_le i (place x)

  abbrev pub do_climb : List X → Bool
  do_climb [] = true
  do_climb (x ∷ xs) = list_all (is_from (place x)) xs && do_climb xs

  later_from : (i : ℕ) (x : X) → is_from i x ≡ true → is_at i x ≡ false → is_from (i + 1) x ≡ true
  later_from i x h k = grind (arith, nat_tests)

  from_later : (i j : ℕ) (x : X) → nat_le i j ≡ true → is_from j x ≡ true → is_from i x ≡ true
  from_later i j x h k = grind (arith, nat_tests)

  not_at : (i : ℕ) (x : X) → is_from (i + 1) x ≡ true → is_at i x ≡ false
  not_at i x h = grind (arith, nat_tests)

  not_from : (i : ℕ) (x : X) → is_at i x ≡ true → is_from (i + 1) x ≡ false
  not_from i x h = grind (arith, nat_tests)

  all_later : (i : ℕ) (x : X) (xs : List X) → is_from (i + 1) x ≡ true → list_all (is_from (place x)) xs ≡ true → list_all (is_from (i + 1)) (x ∷ xs) ≡ true
  all_later i x xs h all = and_from (is_from (i + 1) x) (list_all (is_from (i + 1)) xs) h (all_mono (is_from (place x)) (is_from (i + 1)) xs all (λ y k. from_later (i + 1) (place x) y h k))

  -- those in front at a place are all that are at it
  run_all : (i : ℕ) (xs : List X) → do_climb xs ≡ true → list_all (is_from i) xs ≡ true → take (prefix_len (is_at i) xs) xs ≡ filter (is_at i) xs
  run_all i [] up from = refl
  run_all i (x ∷ xs) up from =
      let ups : (list_all (is_from (place x)) xs ≡ true) × (do_climb xs ≡ true) = and_parts (list_all (is_from (place x)) xs) (do_climb xs) up in
      let fs : (is_from i x ≡ true) × (list_all (is_from i) xs ≡ true) = and_parts (is_from i x) (list_all (is_from i) xs) from in
      let ih : take (prefix_len (is_at i) xs) xs ≡ filter (is_at i) xs = run_all i xs ups.1 fs.1 in
      split (is_at i x)
      (λ e. rw (e, one-add) (ap (λ rest. x ∷ rest) ih))
      (λ e. rw e (sym (filter_none (is_from (i + 1)) (is_at i) xs (and_parts (is_from (i + 1) x) (list_all (is_from (i + 1)) xs) (all_later i x xs (later_from i x fs.0 e) ups.0)).1 (λ y h. not_at i y h))))

  past_all : (i : ℕ) (xs : List X) → do_climb xs ≡ true → list_all (is_from i) xs ≡ true → drop (prefix_len (is_at i) xs) xs ≡ filter (is_from (i + 1)) xs
  past_all i [] up from = refl
  past_all i (x ∷ xs) up from =
      let ups : (list_all (is_from (place x)) xs ≡ true) × (do_climb xs ≡ true) = and_parts (list_all (is_from (place x)) xs) (do_climb xs) up in
      let fs : (is_from i x ≡ true) × (list_all (is_from i) xs ≡ true) = and_parts (is_from i x) (list_all (is_from i) xs) from in
      let ih : drop (prefix_len (is_at i) xs) xs ≡ filter (is_from (i + 1)) xs = past_all i xs ups.1 fs.1 in
      split (is_at i x)
      (λ e. rw (e, one-add) (rw (not_from i x e) ih))
      (λ e. ap (λ b. drop (cond b (1 + prefix_len (is_at i) xs) 0) (x ∷ xs)) e ∙ sym (filter_all (is_from (i + 1)) (is_from (i + 1)) (x ∷ xs) (all_later i x xs (later_from i x fs.0 e) ups.0) (λ y h. h)))

  climb_choice : (q : X → Bool) (x : X) (xs : List X) (b : Bool) → list_all (is_from (place x)) xs ≡ true → do_climb (filter q xs) ≡ true → do_climb (cond b (x ∷ filter q xs) (filter q xs)) ≡ true
  climb_choice q x xs true h up = and_from (list_all (is_from (place x)) (filter q xs)) (do_climb (filter q xs)) (kept xs h) up
    where
      kept : (ys : List X) → list_all (is_from (place x)) ys ≡ true → list_all (is_from (place x)) (filter q ys) ≡ true
      kept [] k = refl
      kept (y ∷ ys) k =
          let ks : (is_from (place x) y ≡ true) × (list_all (is_from (place x)) ys ≡ true) = and_parts (is_from (place x) y) (list_all (is_from (place x)) ys) k in
          let ih : list_all (is_from (place x)) (filter q ys) ≡ true = kept ys ks.1 in
          split (q y) (λ e. rw e (and_from (is_from (place x) y) _ ks.0 ih)) (λ e. rw e ih)
  climb_choice q x xs false h up = up

  climb_filter : (q : X → Bool) (xs : List X) → do_climb xs ≡ true → do_climb (filter q xs) ≡ true
  climb_filter q [] up = refl
  climb_filter q (x ∷ xs) up =
      let ups : (list_all (is_from (place x)) xs ≡ true) × (do_climb xs ≡ true) = and_parts (list_all (is_from (place x)) xs) (do_climb xs) up in
      climb_choice q x xs (q x) ups.0 (climb_filter q xs ups.1)

  -- of those from a place on, those at it and those past it
  pub run_from : (i : ℕ) (xs : List X) → do_climb xs ≡ true → take (prefix_len (is_at i) (filter (is_from i) xs)) (filter (is_from i) xs) ≡ filter (is_at i) xs
  run_from i xs up = run_all i (filter (is_from i) xs) (climb_filter (is_from i) xs up) (filter_passes (is_from i) xs) ∙ filter-filter (is_at i) (is_from i) (λ x h. own (place x) h) xs
    where
      own : (k : ℕ) → (k == i) ≡ true → nat_le i k ≡ true
      own k h = grind (arith, nat_tests)

  pub past_from : (i : ℕ) (xs : List X) → do_climb xs ≡ true → drop (prefix_len (is_at i) (filter (is_from i) xs)) (filter (is_from i) xs) ≡ filter (is_from (i + 1)) xs
  past_from i xs up = past_all i (filter (is_from i) xs) (climb_filter (is_from i) xs up) (filter_passes (is_from i) xs) ∙ filter-filter (is_from (i + 1)) (is_from i) (λ x h. own (place x) h) xs
    where
      own : (k : ℕ) → nat_le (i + 1) k ≡ true → nat_le i k ≡ true
      own k h = grind (arith, nat_tests)

  pub from_start : (xs : List X) → filter (is_from 0) xs ≡ xs
  from_start [] = refl
  from_start (x ∷ xs) = let low : is_from 0 x ≡ true = grind (arith, nat_tests) in rw low (ap (λ rest. x ∷ rest) (from_start xs))

-- ---- records that ascend never fall

not_behind : (a b : ℕ) (o : Ordering) → is_lt (ordering_then (nat_cmp a b) o) ≡ true → nat_le a b ≡ true
not_behind a b o h = split (nat_lt a b)
    (λ e. grind (arith, nat_tests))
    (λ e. split (a == b) (λ f. grind (arith, nat_tests)) (λ f. absurd (no (rw (e, f) at h))))
  where
    no : false ≡ true → ⊥
    no k = cc

pub climb_from_ascent : {X : Type 0} (key : X → Key) (xs : List X) → do_ascend (map key xs) ≡ true → do_climb (λ x. (key x).table) xs ≡ true
climb_from_ascent key [] h = refl
climb_from_ascent {X = X} key (x ∷ xs) h =
    let parts : (list_all (is_before (key x)) (map key xs) ≡ true) × (do_ascend (map key xs) ≡ true) = and_parts (list_all (is_before (key x)) (map key xs)) (do_ascend (map key xs)) h in
    and_from (list_all (λ y. nat_le (key x).table (key y).table) xs) (do_climb (λ y. (key y).table) xs) (all xs parts.0) (climb_from_ascent key xs parts.1)
  where
    all : (ys : List X) → list_all (is_before (key x)) (map key ys) ≡ true → list_all (λ y. nat_le (key x).table (key y).table) ys ≡ true
    all [] k = refl
    all (y ∷ ys) k =
        let ks : (is_before (key x) (key y) ≡ true) × (list_all (is_before (key x)) (map key ys) ≡ true) = and_parts (is_before (key x) (key y)) (list_all (is_before (key x)) (map key ys)) k in
        and_from (nat_le (key x).table (key y).table) (list_all (λ z. nat_le (key x).table (key z).table) ys) (not_behind (key x).table (key y).table (id_cmp (key x).id (key y).id) ks.0) (all ys ks.1)

-- ---- the three lists

module _ (f : Fetch) (form : IsFetch f) where
  created_climb : do_climb (λ (h : Held). h.table) f.created ≡ true
  created_climb = climb_from_ascent held_key f.created form.created_ascend

  updated_climb : do_climb (λ (h : Held). h.table) f.updated ≡ true
  updated_climb = climb_from_ascent held_key f.updated form.updated_ascend

  deleted_climb : do_climb (λ (g : Gone). g.table) f.deleted ≡ true
  deleted_climb = climb_from_ascent gone_key f.deleted form.deleted_ascend

  pub run_is : (i : ℕ) → run_of i (fetch_from i f) ≡ fetch_of i f
  run_is i = fetch_path _ _ (run_from (λ (h : Held). h.table) i f.created created_climb) (run_from (λ (h : Held). h.table) i f.updated updated_climb) (run_from (λ (g : Gone). g.table) i f.deleted deleted_climb)

  pub past_is : (i : ℕ) → past_run i (fetch_from i f) ≡ fetch_from (i + 1) f
  past_is i = fetch_path _ _ (past_from (λ (h : Held). h.table) i f.created created_climb) (past_from (λ (h : Held). h.table) i f.updated updated_climb) (past_from (λ (g : Gone). g.table) i f.deleted deleted_climb)

pub from_first : (f : Fetch) → fetch_from 0 f ≡ f
from_first f = fetch_path _ _ (from_start (λ (h : Held). h.table) f.created) (from_start (λ (h : Held). h.table) f.updated) (from_start (λ (g : Gone). g.table) f.deleted)

-- ---- what is sent of a table

empty-map : {X Y : Type 0} (f : X → Y) (xs : List X) → is_empty (map f xs) ≡ is_empty xs
empty-map f [] = refl
empty-map f (x ∷ xs) = refl

pub something-table_sent : (table : TableSchema) (f : Fetch) → has_something (table_sent table f) ≡ not (is_nothing f)
something-table_sent table f = ap not (rw (empty-map (λ (h : Held). remote_of table.columns h.row) f.created, empty-map (λ (h : Held). remote_of table.columns h.row) f.updated, empty-map (λ (g : Gone). g.id) f.deleted) refl)

module _ (schema : List TableSchema) (f : Fetch) (i : ℕ) (within : i < length schema) where
  step : sent_from schema f i ≡ filter has_something (sent_at schema f i ∷ map (sent_at schema f) (range_with_len (i + 1) (length schema - (i + 1))))
  step = ap (λ (is : List ℕ). filter has_something (map (sent_at schema f) is)) (range_front i (length schema) within)

  -- a table of which something is sent
  pub sent_more : is_nothing (fetch_of i f) ≡ false → sent_from schema f i ≡ sent_at schema f i ∷ sent_from schema f (i + 1)
  sent_more h = let some : has_something (sent_at schema f i) ≡ true = something-table_sent (table_at schema i) (fetch_of i f) ∙ ap not h in step ∙ rw some refl

  -- a table of which nothing is sent
  pub sent_same : is_nothing (fetch_of i f) ≡ true → sent_from schema f i ≡ sent_from schema f (i + 1)
  sent_same h = let none : has_something (sent_at schema f i) ≡ false = something-table_sent (table_at schema i) (fetch_of i f) ∙ ap not h in step ∙ rw none refl

-- ---- rows with their columns in the order of names

abbrev remote_with : List ℕ → List OpField → Remote
remote_with id fs = record { id = id; fields = fs }

remote_same : (columns : List ColumnSchema) (row : Raw) → remote_by columns (columns_by_name columns) row ≡ remote_of columns row
remote_same columns row = ap (λ (fs : List OpField). remote_with row.id fs) (sym (by_name-map (λ (f : OpField). f.column) (field_of columns row) (range_with_len 0 (length columns))))

pub rows_same : (columns : List ColumnSchema) (order : List ℕ) (held : List Held) → order ≡ columns_by_name columns → map (λ h. remote_by columns order h.row) held ≡ map (λ h. remote_of columns h.row) held
rows_same columns order [] is = refl
rows_same columns order (h ∷ held) is = rw (ap (λ (ps : List ℕ). remote_by columns ps h.row) is ∙ remote_same columns h.row) (ap (λ rest. remote_of columns h.row ∷ rest) (rows_same columns order held is))

pub rows_are : (table : TableSchema) (columns : List ColumnSchema) (order : List ℕ) (held : List Held) (rows : List Remote) → columns ≡ table.columns → order ≡ columns_by_name columns → rows ≡ map (λ h. remote_by columns order h.row) held → rows ≡ map (λ h. remote_of table.columns h.row) held
rows_are table columns order held rows same order-is is = is ∙ (rows_same columns order held order-is ∙ ap (λ (cs : List ColumnSchema). map (λ h. remote_of cs h.row) held) same)

pub table_is : (table : TableSchema) (run : Fetch) (name : List ℕ) (created updated : List Remote) (deleted : List (List ℕ)) → name ≡ table.name → created ≡ map (λ h. remote_of table.columns h.row) run.created → updated ≡ map (λ h. remote_of table.columns h.row) run.updated → deleted ≡ map (λ g. g.id) run.deleted → record { table = name; created = created; updated = updated; deleted = deleted } ≡ table_sent table run
table_is table run name created updated deleted p q r s = λ i. record { table = p i; created = q i; updated = r i; deleted = s i }

-- ---- a table further

module _ (schema : List TableSchema) (f : Fetch) (form : IsFetch f) (i : ℕ) (within : i < length schema) (left run past : Fetch) (here : left ≡ fetch_from i f) (run-is : run ≡ run_of i left) (past-is : past ≡ past_run i left) where
  run_here : run ≡ fetch_of i f
  run_here = run-is ∙ (ap (run_of i) here ∙ run_is f form i)

  pub past_here : past ≡ fetch_from (i + 1) f
  past_here = past-is ∙ (ap (past_run i) here ∙ past_is f form i)

  pub none_more : (sent : List TableChanges) → is_nothing run ≡ true → sent ++ sent_from schema f i ≡ sent_from schema f 0 → sent ++ sent_from schema f (i + 1) ≡ sent_from schema f 0
  none_more sent none so_far = ap (λ rest. sent ++ rest) (sym (sent_same schema f i within (ap is_nothing (sym run_here) ∙ none))) ∙ so_far

  pub one_more : (sent next : List TableChanges) (t : TableChanges) → is_nothing run ≡ false → t ≡ table_sent (table_at schema i) run → next ≡ sent ++ t ∷ [] → sent ++ sent_from schema f i ≡ sent_from schema f 0 → next ++ sent_from schema f (i + 1) ≡ sent_from schema f 0
  one_more sent next t some is more so_far =
      let is_sent : t ≡ sent_at schema f i = is ∙ ap (table_sent (table_at schema i)) run_here in
      let both : t ∷ sent_from schema f (i + 1) ≡ sent_from schema f i = ap (λ (u : TableChanges). u ∷ sent_from schema f (i + 1)) is_sent ∙ sym (sent_more schema f i within (ap is_nothing (sym run_here) ∙ some)) in
      ap (λ (ts : List TableChanges). ts ++ sent_from schema f (i + 1)) more
      ∙ (append_assoc sent (t ∷ []) (sent_from schema f (i + 1)) ∙ (ap (λ rest. sent ++ rest) both ∙ so_far))
