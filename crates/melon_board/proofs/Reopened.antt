-- An opened store has the rows that are kept, and what is kept after the opening is what it has.
use Rattle.std.proofs.Common.{◌≡◌, ℕ, ◌+◌, ◌<◌, List, [], ◌∷◌, ◌++◌, length, map, get_or, set, Bool, true, false, ◌&&◌, cond, ◌==◌, Option, Some, None, option_map, unwrap_or, Result, Ok, Err, bytes_eq, refl, sym, ap, ◌∙◌, subst, length-set}
use Rattle.std.specs.Bool.{⊤}
use Rattle.std.specs.Prelude.{option_and_then}
use Rattle.std.proofs.lemmas.List.{length-map}
use Rattle.std.proofs.Math.ListN.{get_or-map}
use Rattle.std.proofs.lemmas.Bool.Decides.{Decides-eqb}
use Rattle.melon_schema.specs.Faults.{◌>>=◌, or_fault, in_turn}
use Rattle.melon_schema.specs.Seen.{SeenSchema}
use Rattle.melon_schema.specs.Places.{table_named}
use Rattle.melon_schema.specs.declared.schema.TableSchema.{TableSchema}
use Rattle.melon_raw.specs.declared.raw.Raw.{Raw}
use Rattle.melon_raw.specs.Rows.{Key, is_key, Rows, at, table_at, no_table, put_row}
use Rattle.melon_raw.specs.Encoding.{encoding}
use Rattle.melon_raw.specs.Decoding.{kept_row, IsRowOf}
use Rattle.melon_raw.proofs.RowBack.{kept_row-is}
use Rattle.melon_table.proofs.Order.{split, and_left, and_right, same_bytes}
use Rattle.melon_outside.specs.declared.kept.Kept.{Kept}
use Rattle.melon_outside.specs.declared.kept.KeptRow.{KeptRow}
use Rattle.melon_outside.specs.declared.kept.KeptValue.{KeptValue}
use Rattle.melon_outside.specs.declared.kept.KeptBatch.{KeptBatch}
use Rattle.melon_outside.specs.declared.kept.OpenFault.{OpenFault}
use Rattle.melon_outside.specs.declared.kept.OpenFault.TheVariants.{BadRow, Version}
use Rattle.melon_outside.specs.Ascending.{with_item, with_items, ascends}
use Rattle.melon_outside.specs.Kept.{batched, is_in_order, key_cmp, key_of, text_cmp, name_of}
use Rattle.melon_outside.proofs.Batches.{batched-parts, batched-in_order}
use Rattle.melon_change.specs.declared.change.Change.{Change}
use Rattle.melon_change.specs.Changes.{columns_at, key}
use Rattle.melon_change.specs.Changes as changes
use Rattle.melon_change.proofs.After.{at_changed, at_unchanged}
use Rattle.melon_change.proofs.Legal.{bind_ok}
use Rattle.melon_change.proofs.Same.{is_key_same}
use Rattle.melon_board.specs.Stores.{SeenStore}
use Rattle.melon_board.specs.Batches.{value, values_batch, last_name, version_name}
use Rattle.melon_board.specs.Plans.{Plan}
use Rattle.melon_board.specs.Opening.{with_id, row_in_table, row_kept, with_row, row_opened, no_rows, rows_opened, value_in, same_version, unless_kept, missing_values, batch_if_any, open_plan}
use Rattle.melon_board.specs.Keeps.{body_in, encoding_at, encoding_under, Keeps}
use Rattle.melon_board.specs.Lasting.{have_different_names, IsWellFormed, kept_after, IsKeptAfter, OpeningsKeepRows}
use Rattle.melon_board.specs.Boards.{AreKept}
use Rattle.melon_board.proofs.Stored.{kept-put_row}
use Rattle.melon_board.proofs.LaidOut.{kept-none}
use Rattle.melon_board.proofs.Answered.{same_ok, unless_ok, fault_ok, then_some, map_some}
use Rattle.melon_board.proofs.Distinct.{name_at, named_at}
use Rattle.melon_board.proofs.Bodies.{same_key, kept_key, same_tables, same_ids, same_key_from, body_at, body_once, value-with}

-- ---- the plan of an opening

abbrev pub opened_plan : List ℕ → SeenSchema → Kept → Rows → Plan
opened_plan name schema kept rows = record {
  batch = batch_if_any (missing_values schema.version kept.values);
  after = record { name = name; schema = schema; rows = rows; entries = []; last = unwrap_or (value_in last_name kept.values) 0 };
}

pub record IsOpened (name : List ℕ) (schema : SeenSchema) (kept : Kept) (plan : Plan) : Type 0 where
  pub rows : Rows
  pub read : rows_opened schema.tables kept.rows ≡ Ok rows
  pub done : ⊤
  pub version : same_version (value_in version_name kept.values) schema.version ≡ Ok done
  pub is : opened_plan name schema kept rows ≡ plan

pub open_plan-is : (name : List ℕ) (schema : SeenSchema) (kept : Kept) (plan : Plan) → open_plan name schema kept ≡ Ok plan → IsOpened name schema kept plan
unfolding open_plan
open_plan-is name schema kept plan h =
    let a = bind_ok (rows_opened schema.tables kept.rows) _ plan h in
    let b = bind_ok (same_version (value_in version_name kept.values) schema.version) _ plan a.2 in
    record {
      rows = a.0;
      read = a.1;
      done = b.0;
      version = b.1;
      is = same_ok (Ok (opened_plan name schema kept a.0)) (opened_plan name schema kept a.0) plan refl b.2;
    }

module _ (schema : List TableSchema) where
  -- ---- one kept row

  -- the row stands in the table of that name, has the id, and is kept so
  record IsFound (kept : KeptRow) (found : ℕ × Raw) : Type 0 where
    place : table_named kept.table schema ≡ Some found.0
    id : found.1.id ≡ kept.id
    row : IsRowOf (table_at schema found.0) kept.body found.1

  with_id-is : (id : List ℕ) (made row : Raw) → with_id id made ≡ Some row → (made ≡ row) × (made.id ≡ id)
  with_id-is id made row h = split (bytes_eq made.id id)
      (λ e. (some_same (rw e at h), same_bytes made.id id e))
      (λ e. absurd (none_some (rw e at h)))
    where
      some_same : Some made ≡ Some row → made ≡ row
      some_same e = cc

      none_some : None ≡ Some row → ⊥
      none_some e = cc

  found_is : (kept : KeptRow) (found : ℕ × Raw) → row_kept schema kept ≡ Some found → IsFound kept found
  found_is kept found h =
      let a = then_some (row_in_table schema kept) (table_named kept.table schema) found h in
      let b = map_some (λ (row : Raw). let f : ℕ × Raw = (a.0, row) in f) (option_and_then (with_id kept.id) (kept_row (table_at schema a.0) kept.body)) found a.2 in
      let c = then_some (with_id kept.id) (kept_row (table_at schema a.0) kept.body) b.0 b.1 in
      let d = with_id-is kept.id c.0 b.0 c.2 in
      let here : IsFound kept (a.0, b.0) = record {
        place = a.1;
        id = subst (λ (r : Raw). r.id ≡ kept.id) d.0 d.1;
        row = subst (λ (r : Raw). IsRowOf (table_at schema a.0) kept.body r) d.0 (kept_row-is (table_at schema a.0) kept.body c.0 c.1);
      } in
      subst (λ (f : ℕ × Raw). IsFound kept f) b.2 here

  -- the change that puts the row
  abbrev made_by : KeptRow → ℕ × Raw → Change
  made_by kept found = record { table = found.0; id = kept.id; before = None; after = Some found.1 }

  abbrev bodies : Rows → List ℕ → List ℕ → Option (List ℕ)
  bodies rows table id = encoding_under schema rows table id

  module _ (rows : Rows) (kept : KeptRow) (found : ℕ × Raw) (long : length rows ≡ length schema) (is : IsFound kept found) where
    here : (found.0 < length schema) × (kept.table ≡ name_at schema found.0)
    here = named_at kept.table schema found.0 is.place

    within : found.0 < length rows
    within = subst (λ (n : ℕ). found.0 < n) (sym long) here.0

    now_same : at (with_row rows found) (key found.0 kept.id) ≡ Some found.1
    now_same = at_changed rows (made_by kept found) within is.id

    now_other : (y : Key) → is_key y (key found.0 kept.id) ≡ false → at (with_row rows found) y ≡ at rows y
    now_other y off = at_unchanged rows (made_by kept found) y within is.id off

    -- the body of the kept row is that of its record now, and every other record has the body that it had
    more_bodies : (table id : List ℕ) → bodies (with_row rows found) table id ≡ cond (same_key (key_of kept) (kept_key table id)) (Some kept.body) (bodies rows table id)
    more_bodies table id = split (same_key (key_of kept) (kept_key table id)) own other
      where
        own : same_key (key_of kept) (kept_key table id) ≡ true → bodies (with_row rows found) table id ≡ cond (same_key (key_of kept) (kept_key table id)) (Some kept.body) (bodies rows table id)
        own e =
            let tables : kept.table ≡ table = same_tables (key_of kept) (kept_key table id) e in
            let ids : kept.id ≡ id = same_ids (key_of kept) (kept_key table id) e in
            let place : table_named table schema ≡ Some found.0 = ap (λ (n : List ℕ). table_named n schema) (sym tables) ∙ is.place in
            let row : at (with_row rows found) (key found.0 id) ≡ Some found.1 = ap (λ (i : List ℕ). at (with_row rows found) (key found.0 i)) (sym ids) ∙ now_same in
            ap (option_and_then (encoding_at schema (with_row rows found) id)) place
            ∙ (ap (option_map (encoding (table_at schema found.0))) row
            ∙ (ap Some is.row.1
            ∙ sym (rw e refl)))

        by : same_key (key_of kept) (kept_key table id) ≡ false → (o : Option ℕ) → table_named table schema ≡ o → bodies (with_row rows found) table id ≡ bodies rows table id
        by e None place = ap (option_and_then (encoding_at schema (with_row rows found) id)) place ∙ sym (ap (option_and_then (encoding_at schema rows id)) place)
        by e (Some t) place =
            let there = named_at table schema t place in
            let off : is_key (key t id) (key found.0 kept.id) ≡ false = split (is_key (key t id) (key found.0 kept.id))
            (λ f.
            let one : key t id ≡ key found.0 kept.id = is_key_same (key t id) (key found.0 kept.id) f in
            let tables : kept.table ≡ table = here.1 ∙ (ap (name_at schema) (sym (ap (λ (k : Key). k.table) one)) ∙ sym there.1) in
            let no : false ≡ true = sym e ∙ same_key_from (key_of kept) (kept_key table id) tables (sym (ap (λ (k : Key). k.id) one)) in
            cc)
            (λ f. f) in
            ap (option_and_then (encoding_at schema (with_row rows found) id)) place
            ∙ (ap (option_map (encoding (table_at schema t))) (now_other (key t id) off)
            ∙ sym (ap (option_and_then (encoding_at schema rows id)) place))

        other : same_key (key_of kept) (kept_key table id) ≡ false → bodies (with_row rows found) table id ≡ cond (same_key (key_of kept) (kept_key table id)) (Some kept.body) (bodies rows table id)
        other e = by e (table_named table schema) refl ∙ sym (rw e refl)

  -- ---- all kept rows

  abbrev or_was : Option (List ℕ) → Option (List ℕ) → Option (List ℕ)
  or_was None was = was
  or_was (Some body) was = Some body

  row_ok : (rows new : Rows) (kept : KeptRow) → row_opened schema rows kept ≡ Ok new → (found : ℕ × Raw) × IsFound kept found × (with_row rows found ≡ new)
  row_ok rows new kept h =
      let a = bind_ok (or_fault (row_kept schema kept) (BadRow kept.table kept.id)) (λ found. Ok (with_row rows found)) new h in
      (a.0, found_is kept a.0 (fault_ok (row_kept schema kept) (BadRow kept.table kept.id) a.0 a.1), same_ok (Ok (with_row rows a.0)) (with_row rows a.0) new refl a.2)

  all_bodies : (left : List KeptRow) (rows final : Rows) (table id : List ℕ) → length rows ≡ length schema → ascends key_cmp key_of left ≡ true → in_turn (row_opened schema) rows left ≡ Ok final
      → bodies final table id ≡ or_was (body_in table id left) (bodies rows table id)
  all_bodies [] rows final table id long up h = ap (λ (q : Rows). bodies q table id) (sym (same_ok (Ok rows) rows final refl h))
  all_bodies (k ∷ left) rows final table id long up h =
      let a = bind_ok (row_opened schema rows k) _ final h in
      let b = row_ok rows a.0 k a.1 in
      let long' : length a.0 ≡ length schema = ap (length {A = List Raw}) (sym b.2) ∙ (length-set rows b.0.0 (put_row b.0.1 (get_or rows b.0.0 [])) ∙ long) in
      let ih : bodies final table id ≡ or_was (body_in table id left) (bodies a.0 table id) = all_bodies left a.0 final table id long' (and_right _ (ascends key_cmp key_of left) up) a.2 in
      let one : bodies a.0 table id ≡ cond (same_key (key_of k) (kept_key table id)) (Some k.body) (bodies rows table id) = ap (λ (q : Rows). bodies q table id) (sym b.2) ∙ more_bodies rows k b.0 long b.1 table id in
      ih ∙ (ap (or_was (body_in table id left)) one ∙ put (same_key (key_of k) (kept_key table id)) refl)
    where
      once : same_key (key_of k) (kept_key table id) ≡ true → body_in table id left ≡ None
      once e =
          ap (λ (t : List ℕ). body_in t id left) (sym (same_tables (key_of k) (kept_key table id) e))
          ∙ (ap (λ (i : List ℕ). body_in k.table i left) (sym (same_ids (key_of k) (kept_key table id) e))
          ∙ body_once k left up)

      put : (b : Bool) → same_key (key_of k) (kept_key table id) ≡ b
          → or_was (body_in table id left) (cond (same_key (key_of k) (kept_key table id)) (Some k.body) (bodies rows table id)) ≡ or_was (body_in table id (k ∷ left)) (bodies rows table id)
      put true e = rw e (rw (once e) refl)
      put false e = rw e refl

  -- ---- no rows

  none_long : length (no_rows schema) ≡ length schema
  none_long = length-map schema (λ (s : TableSchema). let rs : List Raw = [] in rs)

  none_at_first : (t : ℕ) → get_or (no_rows schema) t [] ≡ []
  none_at_first t = get_or-map (λ (s : TableSchema). let rs : List Raw = [] in rs) schema t no_table

  no_bodies : (table id : List ℕ) → bodies (no_rows schema) table id ≡ None
  no_bodies table id = by (table_named table schema)
    where
      by : (o : Option ℕ) → option_and_then (encoding_at schema (no_rows schema) id) o ≡ None
      by None = refl
      by (Some t) = rw (none_at_first t) refl

  or_none : (o : Option (List ℕ)) → or_was o None ≡ o
  or_none None = refl
  or_none (Some body) = refl

  -- Each record has the body that is kept of it.
  pub opened_bodies : (kept : List KeptRow) (rows : Rows) (table id : List ℕ) → ascends key_cmp key_of kept ≡ true → rows_opened schema kept ≡ Ok rows → body_in table id kept ≡ encoding_under schema rows table id
  opened_bodies kept rows table id up h =
      sym (all_bodies kept (no_rows schema) rows table id none_long up h
      ∙ (ap (or_was (body_in table id kept)) (no_bodies table id)
      ∙ or_none (body_in table id kept)))

  -- ---- in order

  record IsLong (rows : Rows) : Type 0 where
    long : length rows ≡ length schema
    kept : AreKept schema rows

  row_in_order : (rows : Rows) (found : ℕ × Raw) (kept : KeptRow) → IsFound kept found → IsLong rows → IsLong (with_row rows found)
  row_in_order rows found kept is so_far = record {
    long = length-set rows found.0 (put_row found.1 (get_or rows found.0 [])) ∙ so_far.long;
    kept = kept-put_row schema rows found.0 found.1 is.row.0 so_far.kept;
  }

  all_in_order : (left : List KeptRow) (rows final : Rows) → IsLong rows → in_turn (row_opened schema) rows left ≡ Ok final → IsLong final
  all_in_order [] rows final so_far h = subst (λ (q : Rows). IsLong q) (same_ok (Ok rows) rows final refl h) so_far
  all_in_order (k ∷ left) rows final so_far h =
      let a = bind_ok (row_opened schema rows k) _ final h in
      let b = row_ok rows a.0 k a.1 in
      all_in_order left a.0 final (subst (λ (q : Rows). IsLong q) b.2 (row_in_order rows b.0 k b.1 so_far)) a.2

  pub opened_long : (kept : List KeptRow) (rows : Rows) → rows_opened schema kept ≡ Ok rows → length rows ≡ length schema
  opened_long kept rows h = (all_in_order kept (no_rows schema) rows (record { long = none_long; kept = kept-none schema }) h).long

  pub opened_kept : (kept : List KeptRow) (rows : Rows) → rows_opened schema kept ≡ Ok rows → AreKept schema rows
  opened_kept kept rows h = (all_in_order kept (no_rows schema) rows (record { long = none_long; kept = kept-none schema }) h).kept

-- ---- the values

values_after : (values : List KeptValue) (kept : Kept) → kept_after (batch_if_any values) kept ≡ record { rows = kept.rows; values = with_items text_cmp name_of values kept.values }
values_after [] kept = refl
values_after (v ∷ vs) kept = batched-parts (values_batch (v ∷ vs)) kept

ordered_after : (batch : Option KeptBatch) (kept : Kept) → is_in_order kept ≡ true → is_in_order (kept_after batch kept) ≡ true
ordered_after None kept h = h
ordered_after (Some batch) kept h = batched-in_order batch kept h

module _ (values : List KeptValue) (version : ℕ) where
  abbrev with_missing : Option ℕ → Option ℕ → List KeptValue
  with_missing last stored = with_items text_cmp name_of (unless_kept last_name 0 last ++ unless_kept version_name version stored) values

  last_there : (last stored : Option ℕ) → value_in last_name values ≡ last → value_in last_name (with_missing last stored) ≡ Some (unwrap_or last 0)
  last_there None None h = value-with last_name (value version_name version) (with_item text_cmp name_of (value last_name 0) values) ∙ value-with last_name (value last_name 0) values
  last_there None (Some v) h = value-with last_name (value last_name 0) values
  last_there (Some l) None h = value-with last_name (value version_name version) values ∙ h
  last_there (Some l) (Some v) h = h

  same_as : (v : ℕ) (b : Bool) (x : ⊤) → v == version ≡ b → same_version (Some v) version ≡ Ok x → v ≡ version
  same_as v true x e h = (Decides-eqb v version).0 e
  same_as v false x e h = absurd (refused (rw e at h))
    where
      refused : (let r : Result ⊤ OpenFault = Err (Version v) in r ≡ Ok x) → ⊥
      refused e = cc

  version_there : (last stored : Option ℕ) (x : ⊤) → value_in version_name values ≡ stored → same_version stored version ≡ Ok x → value_in version_name (with_missing last stored) ≡ Some version
  version_there None None x h same = value-with version_name (value version_name version) (with_item text_cmp name_of (value last_name 0) values)
  version_there None (Some v) x h same = value-with version_name (value last_name 0) values ∙ (h ∙ ap Some (same_as v (v == version) x refl same))
  version_there (Some l) None x h same = value-with version_name (value version_name version) values
  version_there (Some l) (Some v) x h same = h ∙ ap Some (same_as v (v == version) x refl same)

-- ---- the opening

pub opens_kept : OpeningsKeepRows
opens_kept name schema kept plan names ordered h =
    let o = open_plan-is name schema kept plan h in
    let missing = missing_values schema.version kept.values in
    let after : kept_after (batch_if_any missing) kept ≡ record { rows = kept.rows; values = with_items text_cmp name_of missing kept.values } = values_after missing kept in
    let is : IsKeptAfter (opened_plan name schema kept o.rows) kept = record {
      formed = record { names = names; tables = opened_long schema.tables kept.rows o.rows o.read; rows = opened_kept schema.tables kept.rows o.rows o.read };
      keeps = record {
        ordered = ordered_after (batch_if_any missing) kept ordered;
        rows = λ table id. ap (λ (k : Kept). body_in table id k.rows) after ∙ opened_bodies schema.tables kept.rows o.rows table id (and_left (ascends key_cmp key_of kept.rows) (ascends text_cmp name_of kept.values) ordered) o.read;
        last = ap (λ (k : Kept). value_in last_name k.values) after ∙ last_there kept.values schema.version (value_in last_name kept.values) (value_in version_name kept.values) refl;
        version = ap (λ (k : Kept). value_in version_name k.values) after ∙ version_there kept.values schema.version (value_in last_name kept.values) (value_in version_name kept.values) o.done refl o.version;
      };
    } in
    subst (λ (p : Plan). IsKeptAfter p kept) o.is is
