-- A pull has each record in the list that its row says.
use Rattle.std.proofs.Common.{◌≡◌, ℕ, zero, suc, ◌+◌, ◌<◌, ◌≤◌, ◌==◌, nat_le, List, [], ◌∷◌, length, get_or, map, filter, find, Bool, true, false, ◌||◌, cond, Option, Some, None, Ok, bytes_eq, refl, sym, ap, ◌∙◌, arith}
use Rattle.std.specs.List.{list_any, range_with_len, AllByRecursion}
use Rattle.std.specs.Option.{option_map, option_and_then, is_some, unwrap_or}
use Rattle.std.proofs.lemmas.Bool.{both_ways}
use Rattle.std.proofs.lemmas.Bool.Decides.{Decides-eqb, nat_tests}
use Rattle.melon_schema.specs.Faults.{◌>>=◌, unless}
use Rattle.melon_schema.specs.declared.schema.ColumnSchema.{ColumnSchema}
use Rattle.melon_schema.specs.declared.schema.TableSchema.{TableSchema}
use Rattle.melon_raw.specs.Order.{is_below}
use Rattle.melon_raw.specs.Rows.{Key, table_at}
use Rattle.melon_wire.specs.declared.changes.Remote.{Remote}
use Rattle.melon_wire.specs.declared.changes.TableChanges.{TableChanges}
use Rattle.melon_wire.specs.declared.pull.PullReply.{PullReply}
use Rattle.melon_wire.specs.Forms.{names_ascend}
use Rattle.melon_wire.specs.Sent.{put_by_name, by_name}
use Rattle.melon_wire.specs.Standing.{Standing, as_created, as_updated, as_deleted, in_no_list, standing, standing_in, stands, sent_in, is_listed, changes_for, no_changes}
use Rattle.melon_wire.proofs.KeyOrder.{split, bytes_same, same_bytes}
use Rattle.melon_log.specs.declared.server_row.ServerRow.{ServerRow}
use Rattle.melon_log.specs.declared.fault.AskFault.{AskFault}
use Rattle.melon_log.specs.ServerRows.{ServerRows, id_of, at_id}
use Rattle.melon_log.specs.Log.{Log, revision, row_now, columns_at, table_rows, server_rows}
use Rattle.melon_log.specs.Pulled.{row_told, is_new, is_edited, is_gone, table_told, tables_by_name, changes_told, pull_of, pulled}
use Rattle.melon_log.specs.Laws.{NamesApart, told}
use Rattle.melon_log.proofs.ById.{if_passes, at_id-filter}
use Rattle.melon_log.proofs.Now.{standing_at, server_table, rows_found, rows_ascend}

-- ---- one table

sent_told : (columns : List ColumnSchema) (id : List ℕ) (rows : List ServerRow) → sent_in (map (row_told columns) rows) id ≡ option_map (row_told columns) (at_id id rows)
sent_told columns id [] = refl
sent_told columns id (r ∷ rows) = go (bytes_eq id r.id) (sent_told columns id rows)
  where
    go : (b : Bool) → sent_in (map (row_told columns) rows) id ≡ option_map (row_told columns) (at_id id rows)
        → cond b (Some (row_told columns r)) (sent_in (map (row_told columns) rows) id) ≡ option_map (row_told columns) (cond b (Some r) (at_id id rows))
    go true ih = refl
    go false ih = ih

listed_told : (id : List ℕ) (rows : List ServerRow) → is_listed (map (λ r. r.id) rows) id ≡ is_some (at_id id rows)
listed_told id [] = refl
listed_told id (r ∷ rows) = go (bytes_eq id r.id) (listed_told id rows)
  where
    go : (b : Bool) → is_listed (map (λ q. q.id) rows) id ≡ is_some (at_id id rows) → (b || is_listed (map (λ q. q.id) rows) id) ≡ is_some (cond b (Some r) (at_id id rows))
    go true ih = refl
    go false ih = ih

abbrev stands_by : List ColumnSchema → Option ServerRow → Option ServerRow → Option ServerRow → Standing
stands_by columns new edited gone = stands (option_map (row_told columns) new) (option_map (row_told columns) edited) (is_some gone)

one_row : (columns : List ColumnSchema) (t : ℕ) (row : Option ServerRow) → stands_by columns (option_and_then (if_passes (is_new t)) row) (option_and_then (if_passes (is_edited t)) row) (option_and_then (if_passes (is_gone t)) row) ≡ told columns t row
one_row columns t None = refl
one_row columns t (Some row) = go (is_new t row) (is_edited t row) (is_gone t row)
  where
    go : (a b c : Bool) → stands_by columns (cond a (Some row) None) (cond b (Some row) None) (cond c (Some row) None)
        ≡ cond a (as_created (row_told columns row).fields) (cond b (as_updated (row_told columns row).fields) (cond c as_deleted in_no_list))
    go true b c = refl
    go false true c = refl
    go false false true = refl
    go false false false = refl

pub table_standing : (t : ℕ) (table : TableSchema) (rows : List ServerRow) (id : List ℕ) → names_ascend id_of rows ≡ true → standing_in (table_told t table rows) id ≡ told table.columns t (at_id id rows)
table_standing t table rows id asc =
    ap (λ (o : Option Remote). stands o (sent_in (table_told t table rows).updated id) (is_listed (table_told t table rows).deleted id)) (sent_told table.columns id (filter (is_new t) rows) ∙ ap (option_map (row_told table.columns)) (at_id-filter (is_new t) id rows asc))
    ∙ (ap (λ (o : Option Remote). stands (option_map (row_told table.columns) (option_and_then (if_passes (is_new t)) (at_id id rows))) o (is_listed (table_told t table rows).deleted id)) (sent_told table.columns id (filter (is_edited t) rows) ∙ ap (option_map (row_told table.columns)) (at_id-filter (is_edited t) id rows asc))
    ∙ (ap (λ (b : Bool). stands (option_map (row_told table.columns) (option_and_then (if_passes (is_new t)) (at_id id rows))) (option_map (row_told table.columns) (option_and_then (if_passes (is_edited t)) (at_id id rows))) b)
    (listed_told id (filter (is_gone t) rows) ∙ ap is_some (at_id-filter (is_gone t) id rows asc))
    ∙ one_row table.columns t (at_id id rows)))

-- ---- tables in the order of their names

has_place : ℕ → List ℕ → Bool
has_place i js = list_any (λ j. i == j) js

or_swapped : (a b c : Bool) → (a || (b || c)) ≡ (b || (a || c))
or_swapped true true c = refl
or_swapped true false c = refl
or_swapped false b c = refl

module _ (name : ℕ → List ℕ) where
  put_has : (i j : ℕ) (js : List ℕ) → has_place i (put_by_name name j js) ≡ ((i == j) || has_place i js)
  unfolding has_place
  put_has i j [] = refl
  put_has i j (k ∷ ks) = go (is_below (name k) (name j)) (put_has i j ks)
    where
      go : (b : Bool) → has_place i (put_by_name name j ks) ≡ ((i == j) || has_place i ks) → has_place i (cond b (k ∷ put_by_name name j ks) (j ∷ k ∷ ks)) ≡ ((i == j) || ((i == k) || has_place i ks))
      go true ih = ap (λ (b : Bool). (i == k) || b) ih ∙ or_swapped (i == k) (i == j) (has_place i ks)
      go false ih = refl

  sorted_has : (i : ℕ) (js : List ℕ) → has_place i (by_name name js) ≡ has_place i js
  unfolding has_place
  sorted_has i [] = refl
  sorted_has i (j ∷ js) = put_has i j (by_name name js) ∙ ap (λ (b : Bool). (i == j) || b) (sorted_has i js)

  put_within : (n j : ℕ) (js : List ℕ) → j < n → AllByRecursion (λ k. k < n) js → AllByRecursion (λ k. k < n) (put_by_name name j js)
  put_within n j [] h all = (h, tt)
  put_within n j (k ∷ ks) h all = go (is_below (name k) (name j)) (put_within n j ks h all.1)
    where
      go : (b : Bool) → AllByRecursion (λ m. m < n) (put_by_name name j ks) → AllByRecursion (λ m. m < n) (cond b (k ∷ put_by_name name j ks) (j ∷ k ∷ ks))
      go true ih = (all.0, ih)
      go false ih = (h, all)

  sorted_within : (n : ℕ) (js : List ℕ) → AllByRecursion (λ k. k < n) js → AllByRecursion (λ k. k < n) (by_name name js)
  sorted_within n [] all = tt
  sorted_within n (j ∷ js) all = put_within n j (by_name name js) all.0 (sorted_within n js all.1)

range_has : (i a n : ℕ) → a ≤ i → i < a + n → has_place i (range_with_len a n) ≡ true
unfolding has_place
range_has i a zero l h = absurd (omega arith)
range_has i a (suc n) l h = split (i == a)
    (λ e. ap (λ (b : Bool). b || has_place i (range_with_len (a + 1) n)) e)
    (λ e. let apart : a + 1 ≤ i = grind (arith, nat_tests) in
    ap (λ (b : Bool). b || has_place i (range_with_len (a + 1) n)) e ∙ range_has i (a + 1) n apart (omega arith))

pub range_within : (m a n : ℕ) → a + n ≤ m → AllByRecursion (λ k. k < m) (range_with_len a n)
range_within m a zero h = tt
range_within m a (suc n) h = (omega arith, range_within m (a + 1) n (omega arith))

module _ (schema : List TableSchema) (apart : NamesApart schema) (make : ℕ → TableChanges) (named : (j : ℕ) → (make j).table ≡ (table_at schema j).name) (i : ℕ) (within : i < length schema) where
  found_among : (js : List ℕ) → AllByRecursion (λ k. k < length schema) js → has_place i js ≡ true → find (λ t. bytes_eq t.table (table_at schema i).name) (map make js) ≡ Some (make i)
  unfolding has_place
  found_among [] all h = cc
  found_among (j ∷ js) all h =
      let ih : has_place i js ≡ true → find (λ t. bytes_eq t.table (table_at schema i).name) (map make js) ≡ Some (make i) = found_among js all.1 in
      split (bytes_eq (make j).table (table_at schema i).name)
      (λ e. let same : j ≡ i = apart j i all.0 within (sym (named j) ∙ same_bytes (make j).table (table_at schema i).name e) in
      ap (λ (b : Bool). cond b (Some (make j)) (find (λ t. bytes_eq t.table (table_at schema i).name) (map make js))) e ∙ ap (λ (k : ℕ). Some (make k)) same)
      (λ e. ap (λ (b : Bool). cond b (Some (make j)) (find (λ t. bytes_eq t.table (table_at schema i).name) (map make js))) e
      ∙ ih (split (i == j)
      (λ f. absurd (both_ways (bytes_eq (make j).table (table_at schema i).name) e (bytes_same (make j).table (table_at schema i).name (named j ∙ ap (λ (k : ℕ). (table_at schema k).name) (sym ((Decides-eqb i j).0 f))))))
      (λ f. ap (λ (b : Bool). b || has_place i js) (sym f) ∙ h)))

pub table_found : (schema : List TableSchema) (rows : ServerRows) (t i : ℕ) → NamesApart schema → i < length schema → changes_for (changes_told schema rows t) (table_at schema i).name ≡ table_told t (table_at schema i) (get_or rows i [])
table_found schema rows t i apart within =
    let name : ℕ → List ℕ = λ j. (table_at schema j).name in
    let make : ℕ → TableChanges = λ j. table_told t (table_at schema j) (get_or rows j []) in
    ap (λ (o : Option TableChanges). unwrap_or o (no_changes (table_at schema i).name))
    (found_among schema apart make (λ j. refl) i within (tables_by_name schema)
    (sorted_within name (length schema) (range_with_len 0 (length schema)) (range_within (length schema) 0 (length schema) (omega arith)))
    (sorted_has name i (range_with_len 0 (length schema)) ∙ range_has i 0 (length schema) (omega arith) (omega (arith, within))))

reply_is : (b : Bool) (now : ℕ) (reply whole : PullReply) (fault : AskFault) → (unless b fault >>= λ past. Ok whole) ≡ Ok reply → whole ≡ reply
reply_is true now reply whole fault h = cc
reply_is false now reply whole fault h = cc

pub tells : (g : Log) (t : ℕ) (reply : PullReply) (x : Key) → NamesApart g.schema → x.table < length g.schema → pulled g t ≡ Ok reply
    → standing g.schema reply.changes x ≡ told (columns_at g.schema x.table) t (row_now g x)
unfolding pull_of
tells g t reply x apart within is =
    let whole = reply_is (nat_le t (revision g)) (revision g) reply _ _ is in
    let rows : List ServerRow = table_rows g x.table in
    ap (λ (r : PullReply). standing g.schema r.changes x) (sym whole)
    ∙ (standing_at g.schema (changes_told g.schema (server_rows g) t) x within
    ∙ (ap (λ (c : TableChanges). standing_in c x.id) (table_found g.schema (server_rows g) t x.table apart within ∙ ap (table_told t (table_at g.schema x.table)) (server_table g x.table within))
    ∙ (table_standing t (table_at g.schema x.table) rows x.id (rows_ascend g x.table)
    ∙ ap (told (columns_at g.schema x.table) t) (rows_found g x within))))
