-- What is kept of a store stays what the store has: after an entry, and after a timestamp is saved.
use Rattle.std.proofs.Common.{◌≡◌, ℕ, ◌+◌, ◌<◌, List, [], ◌∷◌, length, get_or, Bool, true, false, cond, Option, Some, None, option_map, Result, Ok, Err, bytes_eq, filter_map, refl, sym, ap, ◌∙◌, subst}
use Rattle.std.specs.Prelude.{option_and_then}
use Rattle.std.proofs.lemmas.List.{length-map}
use Rattle.melon_schema.specs.Places.{table_named}
use Rattle.melon_schema.specs.Seen.{SeenSchema}
use Rattle.melon_schema.specs.declared.schema.ColumnSchema.{ColumnSchema}
use Rattle.melon_schema.specs.declared.schema.TableSchema.{TableSchema}
use Rattle.melon_raw.specs.declared.raw.Raw.{Raw}
use Rattle.melon_table.specs.Seen.{SeenTable, rows_of, columns_of, declared_columns}
use Rattle.melon_raw.specs.Rows.{Key, is_key, Rows, at, table_at}
use Rattle.melon_table.proofs.Order.{split, bytes_same}
use Rattle.melon_table.proofs.ById.{Fits-at_id}
use Rattle.melon_outside.specs.declared.kept.Kept.{Kept}
use Rattle.melon_outside.specs.declared.kept.KeptRow.{KeptRow}
use Rattle.melon_outside.specs.declared.kept.KeptBatch.{KeptBatch}
use Rattle.melon_outside.specs.Ascending.{with_items, without_keys}
use Rattle.melon_outside.specs.Kept.{batched, key_cmp, key_of, text_cmp, name_of}
use Rattle.melon_outside.proofs.Batches.{batched-parts, batched-in_order}
use Rattle.melon_change.specs.declared.change.Change.{Change}
use Rattle.melon_change.specs.declared.op.Op.{Op}
use Rattle.melon_change.specs.declared.rule.BatchFault.{BatchFault}
use Rattle.melon_change.specs.declared.history.Entry.{Entry}
use Rattle.melon_change.specs.declared.history.Origin.{Origin}
use Rattle.melon_change.specs.declared.history.Origin.TheVariants.{Local}
use Rattle.melon_change.specs.Batch.{batch_of}
use Rattle.melon_change.specs.Changes.{columns_at, key, change_of, after_set}
use Rattle.melon_change.specs.Changes as changes
use Rattle.melon_change.specs.History.{AreChanges}
use Rattle.melon_change.specs.Legality.{RowsFit}
use Rattle.melon_change.proofs.After.{AreApart, after_of, at_after, length_after, apart_from_changes}
use Rattle.melon_change.proofs.Legal.{bind_ok, batches}
use Rattle.melon_change.proofs.Same.{is_key_same, is_key_refl}
use Rattle.melon_board.specs.declared.fault.WriteFault.{WriteFault}
use Rattle.melon_board.specs.declared.fault.WriteFault.TheVariants.{StoreFull, SessionFull}
use Rattle.melon_board.specs.Boards.{AreKept}
use Rattle.melon_board.specs.Sizes.{stored_bytes, journal_bytes}
use Rattle.melon_board.specs.Stores.{SeenStore, with_entry, with_last}
use Rattle.melon_board.specs.Batches.{removal, filing, kept_batch, last_name, version_name, last_batch, value}
use Rattle.melon_board.specs.Plans.{Plan, within_limit, entry_plan, install_plan, as_batch, write_plan}
use Rattle.melon_board.specs.Opening.{value_in}
use Rattle.melon_board.specs.Keeps.{body_in, encoding_at, encoding_under, Keeps}
use Rattle.melon_board.specs.Lasting.{have_different_names, IsWellFormed, kept_after, IsKeptAfter, last_plan, WritesKeepRows, InstallsKeepRows, SavesKeepRows}
use Rattle.melon_board.proofs.Stored.{kept-after_set, now_of}
use Rattle.melon_board.proofs.Planned.{plan_of}
use Rattle.melon_board.proofs.Answered.{same_ok}
use Rattle.melon_board.proofs.Distinct.{name_at, IsOfNone, is_of_none, none_at, named_at, one_place}
use Rattle.melon_board.proofs.Bodies.{same_key, kept_key, same_tables, same_ids, same_key_from, body_at, put_bodies, removed_bodies, body-with_items, body-without_keys, value-with, is_of, AreOthers, puts_others, removes_others, enc, bodies_after}

-- ---- the bodies after a change set

module _ (schema : List TableSchema) (rows : Rows) (cs : List Change) where
  -- what is kept of one record, before and after
  abbrev IsKept : List ℕ → List ℕ → List KeptRow → Rows → Type 0
  IsKept table id kept now = body_in table id kept ≡ encoding_under schema now table id

  abbrev rows_kept : List KeptRow → List KeptRow
  rows_kept kept = with_items key_cmp key_of (filter_map (filing schema) cs) (without_keys key_cmp key_of (filter_map (removal schema) cs) kept)

  module _ (table id : List ℕ) (kept : List KeptRow) where
    body-after : body_in table id (rows_kept kept) ≡ put_bodies (kept_key table id) (filter_map (filing schema) cs) (removed_bodies (kept_key table id) (filter_map (removal schema) cs) (body_in table id kept))
    body-after =
        body-with_items (kept_key table id) (filter_map (filing schema) cs) (without_keys key_cmp key_of (filter_map (removal schema) cs) kept)
        ∙ ap (put_bodies (kept_key table id) (filter_map (filing schema) cs)) (body-without_keys (kept_key table id) (filter_map (removal schema) cs) kept)

    -- no change is of a record of a table that isn't declared
    undeclared : (ds : List Change) → AreApart (length schema) ds → IsOfNone table schema → AreOthers schema (kept_key table id) ds
    undeclared [] apart none = tt
    undeclared (c ∷ ds) apart none = (
      split (is_of schema (kept_key table id) c)
          (λ e.
          let same : name_at schema c.table ≡ table = same_tables (kept_key (name_at schema c.table) c.id) (kept_key table id) e in
          let no : false ≡ true = sym (none_at table schema c.table none apart.0) ∙ bytes_same table (name_at schema c.table) (sym same) in
          cc)
          (λ e. e),
      undeclared ds apart.3 none,
    )

    -- a change is of the record where its place and its id are those
    by_place : (t : ℕ) → have_different_names schema ≡ true → t < length schema → table ≡ name_at schema t → (c : Change) → c.table < length schema → is_of schema (kept_key table id) c ≡ is_key (key t id) (changes.key_of c)
    by_place t names within named c declared = split (is_key (key t id) (changes.key_of c))
        (λ e.
        let same : key t id ≡ changes.key_of c = is_key_same (key t id) (changes.key_of c) e in
        same_key_from (kept_key (name_at schema c.table) c.id) (kept_key table id) (ap (name_at schema) (sym (ap (λ (k : Key). k.table) same)) ∙ sym named) (sym (ap (λ (k : Key). k.id) same)) ∙ sym e)
        (λ e. split (is_of schema (kept_key table id) c)
        (λ f.
        let place : c.table ≡ t = one_place schema c.table t names declared within (same_tables (kept_key (name_at schema c.table) c.id) (kept_key table id) f ∙ named) in
        let one : key t id ≡ changes.key_of c = ap (λ (u : ℕ). key u id) (sym place) ∙ ap (key c.table) (sym (same_ids (kept_key (name_at schema c.table) c.id) (kept_key table id) f)) in
        let no : false ≡ true = sym e ∙ (ap (λ (k : Key). is_key k (changes.key_of c)) one ∙ is_key_refl (changes.key_of c)) in
        cc)
        (λ f. f ∙ sym e))

    pub body_kept : have_different_names schema ≡ true → length rows ≡ length schema → AreApart (length rows) cs → IsKept table id kept rows → IsKept table id (rows_kept kept) (after_set rows cs)
    body_kept names long apart before = by (table_named table schema) refl
      where
        declared : AreApart (length schema) cs
        declared = subst (λ (n : ℕ). AreApart n cs) long apart

        by : (o : Option ℕ) → table_named table schema ≡ o → IsKept table id (rows_kept kept) (after_set rows cs)
        by None e =
            let others : AreOthers schema (kept_key table id) cs = undeclared cs declared (is_of_none table schema e) in
            let was : body_in table id kept ≡ None = before ∙ ap (option_and_then (encoding_at schema rows id)) e in
            body-after
            ∙ (puts_others schema (kept_key table id) cs (removed_bodies (kept_key table id) (filter_map (removal schema) cs) (body_in table id kept)) others
            ∙ (removes_others schema (kept_key table id) cs (body_in table id kept) others
            ∙ (was ∙ sym (ap (option_and_then (encoding_at schema (after_set rows cs) id)) e))))
        by (Some t) e =
            let here = named_at table schema t e in
            let was : body_in table id kept ≡ enc schema (kept_key table id) t (at rows (key t id)) = before ∙ ap (option_and_then (encoding_at schema rows id)) e in
            body-after
            ∙ (ap (λ (b : Option (List ℕ)). put_bodies (kept_key table id) (filter_map (filing schema) cs) (removed_bodies (kept_key table id) (filter_map (removal schema) cs) b)) was
            ∙ (bodies_after schema (kept_key table id) t (by_place t names here.0 here.1) cs (at rows (key t id)) declared
            ∙ (ap (enc schema (kept_key table id) t) (sym (at_after rows cs (key t id) apart))
            ∙ sym (ap (option_and_then (encoding_at schema (after_set rows cs) id)) e))))

-- ---- an entry

pub entry_plan-is : (store : SeenStore) (e : Entry) (plan : Plan) → entry_plan store e ≡ Ok plan → plan_of store e ≡ plan
unfolding entry_plan
entry_plan-is store e plan h =
    let a = bind_ok (within_limit StoreFull (stored_bytes store.schema.tables (after_set store.rows e.set))) _ plan h in
    let b = bind_ok (within_limit SessionFull (journal_bytes store.schema.tables (with_entry store e).entries)) _ plan a.2 in
    same_ok (Ok (plan_of store e)) (plan_of store e) plan refl b.2

-- an entry leaves the store well-formed
entry_formed : (store : SeenStore) (e : Entry) → IsWellFormed store → AreChanges store.schema.tables store.rows e.origin e.set → IsWellFormed (with_entry store e)
entry_formed store e formed legal = record {
  names = formed.names;
  tables = length_after store.rows e.set ∙ formed.tables;
  rows = kept-after_set store.schema.tables store.rows e.set (now_of store.schema.tables store.rows e.origin e.set legal) formed.rows;
}

module _ (store : SeenStore) (kept : Kept) (e : Entry) (formed : IsWellFormed store) (keeps : Keeps store kept) (legal : AreChanges store.schema.tables store.rows e.origin e.set) where
  abbrev entry_batch : KeptBatch
  entry_batch = kept_batch store.schema.tables e.set

  parts : batched entry_batch kept ≡ record { rows = rows_kept store.schema.tables store.rows e.set kept.rows; values = kept.values }
  parts = batched-parts entry_batch kept

  entry_keeps : Keeps (with_entry store e) (batched entry_batch kept)
  entry_keeps = record {
    ordered = batched-in_order entry_batch kept keeps.ordered;
    rows = λ table id.
        ap (λ (k : Kept). body_in table id k.rows) parts
        ∙ body_kept store.schema.tables store.rows e.set table id kept.rows formed.names formed.tables (apart_from_changes store.schema.tables store.rows e.origin e.set legal) (keeps.rows table id);
    last = ap (λ (k : Kept). value_in last_name k.values) parts ∙ keeps.last;
    version = ap (λ (k : Kept). value_in version_name k.values) parts ∙ keeps.version;
  }

  pub entry_kept : (plan : Plan) → entry_plan store e ≡ Ok plan → IsKeptAfter plan kept
  entry_kept plan h = subst (λ (p : Plan). IsKeptAfter p kept) (entry_plan-is store e plan h) (record { formed = entry_formed store e formed legal; keeps = entry_keeps })

-- ---- change sets and batches

pub same_plan : (store : SeenStore) (plan : Plan) → (let p : Result Plan WriteFault = Ok (record { batch = None; after = store }) in p ≡ Ok plan) → (let none : Plan = record { batch = None; after = store } in none ≡ plan)
same_plan store plan h = cc

pub installs : InstallsKeepRows
installs store kept origin [] plan formed keeps legal h = subst (λ (p : Plan). IsKeptAfter p kept) (same_plan store plan h) (record { formed = formed; keeps = keeps })
installs store kept origin (c ∷ cs) plan formed keeps legal h = entry_kept store kept (record { origin = origin; set = c ∷ cs }) formed keeps legal plan h

-- the change set of a batch over such rows is one that an entry may have
pub batch_legal : (schema : List TableSchema) (rows : Rows) (ops : List Op) (set : List Change) → length rows ≡ length schema → AreKept schema rows → batch_of schema rows ops ≡ Ok set → AreChanges schema rows Local set
batch_legal schema rows ops set long kept made =
    let fits : RowsFit schema rows = λ x row here. Fits-at_id (columns_at schema x.table) x.id (get_or rows x.table []) row (kept x.table).fitting here in
    batches schema rows ops set long fits made

-- the same, of what a board shows of its store
pub legal_over : (store : SeenStore) (board tables : List SeenTable) (schema : SeenSchema) (ops : List Op) (set : List Change) → rows_of board ≡ store.rows → columns_of board ≡ declared_columns store.schema.tables
    → AreKept store.schema.tables store.rows → tables ≡ board → schema ≡ store.schema → batch_of schema.tables (rows_of tables) ops ≡ Ok set → AreChanges store.schema.tables store.rows Local set
legal_over store board tables schema ops set rows columns kept is same made =
    let long : length (rows_of board) ≡ length store.schema.tables =
    length-map board (λ (t : SeenTable). t.rows) ∙ (sym (length-map board (λ (t : SeenTable). t.columns))
    ∙ (ap (length {A = List ColumnSchema}) columns ∙ length-map store.schema.tables (λ (t : TableSchema). t.columns))) in
    batch_legal store.schema.tables store.rows ops set (ap (length {A = List Raw}) (sym rows) ∙ long) kept
    (ap (λ (s : SeenSchema). batch_of s.tables store.rows ops) (sym same)
    ∙ (ap (λ (r : Rows). batch_of schema.tables r ops) (sym rows)
    ∙ (ap (λ (ts : List SeenTable). batch_of schema.tables (rows_of ts) ops) (sym is) ∙ made)))

batch_ok : (r : Result (List Change) BatchFault) (set : List Change) → as_batch r ≡ Ok set → r ≡ Ok set
batch_ok (Ok x) set h = let same : x ≡ set = cc in ap Ok same
batch_ok (Err e) set h = cc

-- the change set of a batch that was planned, which is legal
pub batch_planned : (store : SeenStore) (ops : List Op) (plan : Plan) → IsWellFormed store → write_plan store ops ≡ Ok plan → (set : List Change) × AreChanges store.schema.tables store.rows Local set × (install_plan store Local set ≡ Ok plan)
batch_planned store ops plan formed h =
    let a = bind_ok (as_batch (batch_of store.schema.tables store.rows ops)) (install_plan store Local) plan h in
    (a.0, batch_legal store.schema.tables store.rows ops a.0 formed.tables formed.rows (batch_ok (batch_of store.schema.tables store.rows ops) a.0 a.1), a.2)

pub writes : WritesKeepRows
writes store kept ops plan formed keeps h = let made = batch_planned store ops plan formed h in installs store kept Local made.0 plan formed keeps made.1 made.2

-- a store stays well-formed, whatever is kept of it
installed_formed : (store : SeenStore) (origin : Origin) (set : List Change) (plan : Plan) → IsWellFormed store → AreChanges store.schema.tables store.rows origin set → install_plan store origin set ≡ Ok plan → IsWellFormed plan.after
installed_formed store origin [] plan formed legal h = subst (λ (p : Plan). IsWellFormed p.after) (same_plan store plan h) formed
installed_formed store origin (c ∷ cs) plan formed legal h =
    let e : Entry = record { origin = origin; set = c ∷ cs } in
    subst (λ (p : Plan). IsWellFormed p.after) (entry_plan-is store e plan h) (entry_formed store e formed legal)

pub written_formed : (store : SeenStore) (ops : List Op) (plan : Plan) → IsWellFormed store → write_plan store ops ≡ Ok plan → IsWellFormed plan.after
written_formed store ops plan formed h = let made = batch_planned store ops plan formed h in installed_formed store Local made.0 plan formed made.1 made.2

-- ---- a timestamp

pub saves : SavesKeepRows
saves store kept at formed keeps =
    let parts : batched (last_batch at) kept ≡ record { rows = kept.rows; values = with_items text_cmp name_of (value last_name at ∷ []) kept.values } = batched-parts (last_batch at) kept in
    record {
      formed = record { names = formed.names; tables = formed.tables; rows = formed.rows };
      keeps = record {
        ordered = batched-in_order (last_batch at) kept keeps.ordered;
        rows = λ table id. ap (λ (k : Kept). body_in table id k.rows) parts ∙ keeps.rows table id;
        last = ap (λ (k : Kept). value_in last_name k.values) parts ∙ value-with last_name (value last_name at) kept.values;
        version = ap (λ (k : Kept). value_in version_name k.values) parts ∙ (value-with version_name (value last_name at) kept.values ∙ keeps.version);
      };
    }
