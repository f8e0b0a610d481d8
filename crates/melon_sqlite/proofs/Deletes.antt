-- What the two statements that delete rows do.
use Rattle.std.proofs.Common.{◌≡◌, ◌⊎◌, inl, inr, ℕ, ℤ, Bool, true, false, not, ◌&&◌, List, [], ◌∷◌, map, filter, Ok, Err, Result, Option, None, Some, refl, sym, ap, ap₂, ◌∙◌, subst, bytes_eq, is_eq, Equal}
use Rattle.std.specs.Prelude.{if◌then◌else◌}
use Rattle.std.proofs.lemmas.Bool.{and_from, and_parts, not-true, false_from_ne_true}
use Rattle.std.proofs.lemmas.Cmp.{tied_itself}
use Rattle.std.proofs.lemmas.List.Sorted.{IsPermutation-sym, Contains-permutation}
use Rattle.std.proofs.lemmas.Slice.Eq.{bytes_eq-Decides}
use Rattle.sqlite_value.specs.declared.value.Value.TheVariants.{Int, Text}
use Rattle.sqlite_value.specs.Order.{Row}
use Rattle.sqlite_value.specs.Order as order
use Rattle.sqlite_value.proofs.OrderLemmas.{value_cmp_total}
use Rattle.sqlite_trees.specs.Tree.{Trees, rowid, has_rowid, without_rowid}
use Rattle.sqlite_trees.specs.View.{IsShaped}
use Rattle.sqlite_trees.specs.declared.store.Shape.TheVariants.{Table}
use Rattle.sqlite_trees.proofs.TreeLemmas.{IsShaped-filter}
use Rattle.sqlite_trees.proofs.ListLemmas.{map-map}
use Rattle.sqlite_sql.specs.Term.{Term, col}
use Rattle.sqlite_sql.specs.Query.{Query, Output, output}
use Rattle.sqlite_schema.specs.Rules.{Obeys}
use Rattle.sqlite_schema.specs.declared.schema.Keys.TheVariants.{Enforced}
use Rattle.sqlite_schema.specs.declared.command.Command.TheVariants.{Delete}
use Rattle.sqlite_schema.specs.declared.program.Program.{Program}
use Rattle.sqlite_rules.specs.declared.error.Rowids.TheVariants.{Given}
use Rattle.sqlite_rules.specs.Edit.{edit_of, id_in, without_all, Applies}
use Rattle.sqlite_rules.specs.Calls.{ids_of}
use Rattle.sqlite_rules.specs.Lists.{Has}
use Rattle.sqlite_rules.proofs.ListLemmas.{has_filtered, has_kept, has_contained, contains_had}
use Rattle.sqlite_rules.proofs.PlaceLemmas.{tied_same}
use Rattle.sqlite.specs.Effect.{Database, IsDatabase}
use Rattle.sqlite.specs.Rows.{Written, Task, Then, Gives, Edited}
use Rattle.sqlite.specs.Rows as writing
use Rattle.sqlite.specs.Does.{Tally, Does}
use Rattle.sqlite.specs.Listing.{understood}
use Rattle.sqlite.specs.State.{State, mode_of, Executes, Shows}
use Rattle.sqlite.specs.declared.error.Error.{Error}
use Rattle.sqlite.proofs.Callers.{runs_as, statement_of, one_step, command_of, IsPlain}
use Rattle.melon_outside.specs.declared.kept.Kept.{Kept}
use Rattle.melon_outside.specs.declared.kept.KeptKey.{KeptKey}
use Rattle.melon_outside.specs.declared.kept.KeptRow.{KeptRow}
use Rattle.melon_outside.specs.Kept.{key_cmp, key_of, cleared, without_row}
use Rattle.melon_sqlite.specs.Contents.{IsKept, stores_in, rows_in, values_in, store_of, row_of}
use Rattle.melon_sqlite.specs.Statements.{Did, Undone}
use Rattle.melon_sqlite.specs.Tables.{kept_schema, rows_table, clear_text, remove_text}
use Rattle.melon_sqlite.specs.Statements as rows
use Rattle.melon_outside.proofs.Places.{key_total}
use Rattle.melon_sqlite.proofs.Sorted.{Leaves, leave_law, ArePassing, all_pass, none_pass, others_pass, has_mapped, mapped_from}
use Rattle.melon_sqlite.proofs.Texts.{on_table, same, clear_is, clear_plain, remove_tests, remove_is, remove_plain}
use Rattle.melon_sqlite.proofs.Queries.{picks, from_rows, IsAnswerOf}
use Rattle.melon_sqlite.proofs.Cells.{text_same, row_tie}
use Rattle.melon_sqlite.proofs.Forms.{row_form, rows_apart}
use Rattle.melon_sqlite.proofs.Upsert.{went, same_value, and_right_true, eq_is}
use Rattle.melon_sqlite.proofs.Puts.{kept_obeys, made}
use Rattle.melon_sqlite.proofs.Opens.{failed, executes_open}

abbrev pub Lacks : List ℤ → Row → Type 0
Lacks ids x = (id : ℤ) → Has ids id → has_rowid id x ≡ false

left_from : (ids : List ℤ) (rs : List Row) (x : Row) → Has (without_all rs ids) x → Has rs x × Lacks ids x
left_from [] rs x h = (h, λ id none. absurd none)
left_from (id ∷ ids) rs x h =
    let r = left_from ids (without_rowid id rs) x h in
    let was = has_filtered (λ y. not (has_rowid id y)) rs x r.0 in
    (was.0, λ other k. elim k [ inl e ↦ rw e (not-true _ was.1) | inr more ↦ r.1 other more ])

left_has : (ids : List ℤ) (rs : List Row) (x : Row) → Has rs x → Lacks ids x → Has (without_all rs ids) x
left_has [] rs x h lacks = h
left_has (id ∷ ids) rs x h lacks = left_has ids (without_rowid id rs) x (has_kept (λ y. not (has_rowid id y)) rs x h (ap not (lacks id (inl refl)))) (λ other k. lacks other (inr k))

left_shaped : (ids : List ℤ) (rs : List Row) → IsShaped Table rs → IsShaped Table (without_all rs ids)
left_shaped [] rs h = h
left_shaped (id ∷ ids) rs h = left_shaped ids (without_rowid id rs) (IsShaped-filter Table (λ y. not (has_rowid id y)) rs h)

-- these rows are gone, and the others are as they were
pub record Deleted (db : Trees) (keeps : Row → Bool) (next : Trees) : Type 0 where
  pub leaves : Leaves key_cmp key_of key_total row_of (db 0) keeps (next 0)
  pub shaped : IsShaped Table (next 0)
  pub other : next 2 ≡ db 2

module _ (limit : Option ℕ) (db : Trees) (fits : Obeys kept_schema db) (shaped : IsShaped Table (db 0)) (given : Row) (tests : List Term) where
  abbrev pub del_query : Query
  del_query = on_table 0 tests (col 1 0 ∷ []) []

  abbrev pub task : Task
  task = record { limit = limit; keys = Enforced; schema = kept_schema; table = rows_table; params = given }

  abbrev p : Row → Bool
  p = picks given tests

  abbrev F : List Row
  F = filter p (db 0)

  abbrev id_of : Output → ℤ
  id_of o = id_in (rowid o.1)

  abbrev out : Row → Output
  out r = output del_query (given ∷ r ∷ [])

  ids_are : (got : List Row) (a : IsAnswerOf del_query given F got) → ids_of got ≡ map id_of a.ordered
  ids_are got a = ap ids_of a.shown ∙ map-map (λ r. id_in (rowid r)) (λ (o : Output). o.1) a.ordered

  id_from : (got : List Row) (a : IsAnswerOf del_query given F got) (id : ℤ) → Has (ids_of got) id → (r : Row) × Has F r × (id ≡ id_in (rowid r))
  id_from got a id h =
      let o = mapped_from id_of a.ordered id (subst (λ l. Has l id) (ids_are got a) h) in
      let r = mapped_from out F o.0 (has_contained _ o.0 (Contains-permutation _ _ o.0 (IsPermutation-sym _ _ a.same) (contains_had _ o.0 o.1))) in
      (r.0, r.1, o.2 ∙ ap id_of r.2)

  id_has : (got : List Row) (a : IsAnswerOf del_query given F got) (r : Row) → Has F r → Has (ids_of got) (id_in (rowid r))
  id_has got a r h =
      subst (λ l. Has l (id_in (rowid r))) (sym (ids_are got a))
      (has_mapped id_of a.ordered (out r) (has_contained _ (out r) (Contains-permutation _ _ (out r) a.same (contains_had _ (out r) (has_mapped out F r h)))))

  own_id : (r : Row) → Has (db 0) r → rowid r ≡ Int (id_in (rowid r))
  own_id r h = let f = row_form db fits shaped r h in subst (λ x. rowid x ≡ Int (id_in (rowid x))) (sym f.5) refl

  pub deletes : (one : Written) → writing.Deletes task (record { lets = []; body = del_query }) db (Ok one) → Deleted db (λ r. not (p r)) one.trees
  deletes one h =
      let w = went h in
      let a = from_rows 0 db refl given tests (col 1 0 ∷ []) [] w.0 (w.1.answer Rattle.sqlite_value.specs.declared.value.Value.TheVariants.Null) in
      let e = went w.2 in
      let edit = edit_of db rows_table (ids_of w.0) Given 0 [] in
      let applied : Applies kept_schema Enforced db edit e.0 = one_step kept_schema Enforced db e.0 edit refl e.1 in
      let trees : one.trees ≡ e.0 = ap (λ (it : Written). it.trees) (same_value e.2) in
      let rest : one.trees 0 ≡ without_all (db 0) (ids_of w.0) = ap (λ (x : Trees). x 0) trees ∙ applied.rows in
      record {
        leaves = record {
          from = λ r k.
              let l = left_from (ids_of w.0) (db 0) r (subst (λ xs. Has xs r) rest k) in (
                l.0,
                ap not (false_from_ne_true _ (λ passes.
                    let id = id_has w.0 a r (has_kept p (db 0) r l.0 passes) in
                    let lacks = l.1 (id_in (rowid r)) id in
                    let has : has_rowid (id_in (rowid r)) r ≡ true = ap (λ v. is_eq (order.value_cmp v (Int (id_in (rowid r))))) (own_id r l.0) ∙ ap is_eq (tied_itself value_cmp_total (Int (id_in (rowid r)))) in cc)),
              );
          kept = λ r k passes. subst (λ xs. Has xs r) (sym rest) (left_has (ids_of w.0) (db 0) r k (λ id there. false_from_ne_true _ (λ has.
              let q = id_from w.0 a id there in
              let f = has_filtered p (db 0) q.0 q.1 in
              let tie = subst (λ v. order.value_cmp (rowid r) v ≡ Rattle.std.proofs.Common.Equal) (ap Int q.2 ∙ sym (own_id q.0 f.0)) (eq_is _ has) in
              let is = tied_same (db 0) r q.0 shaped.0 k f.0 tie in
              let fails = not-true _ passes in
              let passed = ap p is ∙ f.1 in cc)));
        };
        shaped = subst (IsShaped Table) (sym rest) (left_shaped (ids_of w.0) (db 0) shaped);
        other = ap (λ (x : Trees). x 2) trees ∙ applied.tables.1.0 (λ e. cc);
      }

did_delete : (f : Kept → Kept) (old new : State) (s : List ℕ) (keeps : Row → Bool) (test : KeptRow → Bool) (left : List KeptRow) → IsKept old.now → Deleted old.now.trees keeps new.now.trees → new.now.schema ≡ kept_schema → IsDatabase new.now
    → Shows old new new.now (if old.in_transaction then old.committed else new.now) old.in_transaction
    → ((r : Row) → Has (old.now.trees 0) r → store_of r ≡ s → keeps r ≡ test (row_of r)) → ((r : Row) → Has (old.now.trees 0) r → (store_of r ≡ s → ⊥) → keeps r ≡ true)
    → ArePassing key_cmp key_of key_total row_of (rows_in (old.now.trees 0) s) test left → record { rows = left; values = values_in (old.now.trees 2) s } ≡ f (stores_in old.now.trees s) → Did f s old new
did_delete f old new s keeps test left K del schema sound shows own others passing is_f =
    let kept : IsKept new.now = record { schema = schema; sound = sound; rows = del.shaped; values = subst (IsShaped Table) (sym del.other) K.values } in
    let was = rows_apart old.now.trees (kept_obeys old.now K) K.rows in
    let is = rows_apart new.now.trees (kept_obeys new.now kept) kept.rows in
    record {
      kept = kept;
      changes = (
        made (leave_law key_cmp key_of key_total row_of (old.now.trees 0) (new.now.trees 0) keeps test s left was is del.leaves own passing) (ap (λ rs. values_in rs s) del.other) ∙ is_f,
        λ other apart. made (leave_law key_cmp key_of key_total row_of (old.now.trees 0) (new.now.trees 0) keeps (λ _. true) other (rows_in (old.now.trees 0) other) was is del.leaves (λ r h e. others r h (λ same. apart (sym same ∙ e)))
            (all_pass key_cmp key_of key_total row_of other (old.now.trees 0))) (ap (λ rs. values_in rs other) del.other),
      );
      shown = shows;
    }

runs_delete : (sql : List ℕ) (given : Row) (tests : List Term) → command_of (understood kept_schema sql) ≡ Delete 0 (record { lets = []; body = on_table 0 tests (col 1 0 ∷ []) [] })
    → IsPlain (understood kept_schema sql) → (old new : State) (count : ℕ) → IsKept old.now → Executes sql given old new (Ok count)
    → Deleted old.now.trees (λ r. not (picks given tests r)) new.now.trees × (new.now.schema ≡ kept_schema) × IsDatabase new.now
    × Shows old new new.now (if old.in_transaction then old.committed else new.now) old.in_transaction
runs_delete sql given tests is plain old new count K h =
    let q : Program = record { lets = []; body = on_table 0 tests (col 1 0 ∷ []) [] } in
    let w = runs_as sql given old new kept_schema K.schema (Delete 0 q) is plain count h in
    let text = statement_of sql (understood kept_schema sql) in
    let done = went (subst (λ sc. Does old.step_limit (mode_of old) given (record old.now { schema = sc }) text None (Delete 0 q) (Ok (w.tally, new.now))) K.schema w.changed) in
    let now = ap (λ (p : Tally × Database). p.1) (same_value (went (went done.2).2).2) in
    let del = deletes old.step_limit old.now.trees (kept_obeys old.now K) K.rows given tests done.0 done.1 in (
      subst (Deleted old.now.trees (λ r. not (picks given tests r))) (sym (ap (λ (d : Database). d.trees) now)) del,
      ap (λ (d : Database). d.schema) now,
      w.sound,
      w.shown,
    )

clear_picks : (db : Trees) (fits : Obeys kept_schema db) (shaped : IsShaped Table (db 0)) (s : List ℕ) (r : Row) → Has (db 0) r → picks (Text s ∷ []) (same (col 1 1) (col 0 0) ∷ []) r ≡ bytes_eq (store_of r) s
clear_picks db fits shaped s r h =
    let f = row_form db fits shaped r h in
    subst (λ x. picks (Text s ∷ []) (same (col 1 1) (col 0 0) ∷ []) x ≡ bytes_eq (store_of x) s) (sym f.5) (and_right_true _ ∙ text_same f.1 s)

abbrev has_key : List ℕ → List ℕ → KeptRow → Bool
has_key table id row = bytes_eq row.table table && bytes_eq row.id id

remove_picks : (db : Trees) (fits : Obeys kept_schema db) (shaped : IsShaped Table (db 0)) (s t i : List ℕ) (r : Row) → Has (db 0) r
    → picks (Text s ∷ Text t ∷ Text i ∷ []) remove_tests r ≡ (bytes_eq (store_of r) s && has_key t i (row_of r))
remove_picks db fits shaped s t i r h =
    let f = row_form db fits shaped r h in
    subst (λ x. picks (Text s ∷ Text t ∷ Text i ∷ []) remove_tests x ≡ (bytes_eq (store_of x) s && has_key t i (row_of x))) (sym f.5)
    (ap₂ ◌&&◌ (text_same f.1 s) (ap₂ ◌&&◌ (text_same f.2 t) (and_right_true _ ∙ text_same f.3 i)))

-- the test and the order agree on which row has the key
key_tests : (t i : List ℕ) (x : KeptRow) → (not (has_key t i x) ≡ true → key_cmp (key_of x) (record { table = t; id = i }) ≡ Equal → ⊥)
    × ((key_cmp (key_of x) (record { table = t; id = i }) ≡ Equal → ⊥) → not (has_key t i x) ≡ true)
key_tests t i x = (
  λ passes tie.
      let keys = row_tie x (record { table = t; id = i; body = [] }) tie in
      let has : has_key t i x ≡ true = and_from _ _ ((bytes_eq-Decides x.table t).1 keys.0) ((bytes_eq-Decides x.id i).1 keys.1) in
      let lacks = not-true _ passes in cc,
  λ apart. ap not (false_from_ne_true _ (λ has.
      let both = and_parts _ _ has in
      let tables = (bytes_eq-Decides x.table t).0 both.0 in
      let ids = (bytes_eq-Decides x.id i).0 both.1 in
      let k : KeptKey = record { table = t; id = i } in
      apart (subst (λ q. key_cmp q k ≡ Equal) (λ j. record { table = sym tables j; id = sym ids j }) (tied_itself key_total k)))),
)

same_store : (a s : List ℕ) → a ≡ s → bytes_eq a s ≡ true
same_store a s e = (bytes_eq-Decides a s).1 e

other_store : (a s : List ℕ) → (a ≡ s → ⊥) → bytes_eq a s ≡ false
other_store a s other = false_from_ne_true _ (λ e. other ((bytes_eq-Decides a s).0 e))

pub clears : (old new : State) (s : List ℕ) (count : ℕ) → IsKept old.now → Executes clear_text (Text s ∷ []) old new (Ok count) → Did cleared s old new
clears old new s count K h =
    let d = runs_delete clear_text (Text s ∷ []) (same (col 1 1) (col 0 0) ∷ []) clear_is clear_plain old new count K h in
    let picked = clear_picks old.now.trees (kept_obeys old.now K) K.rows s in
    did_delete cleared old new s _ (λ _. false) [] K d.0 d.1 d.2 d.3
    (λ r there e. ap not (picked r there ∙ same_store (store_of r) s e))
    (λ r there e. ap not (picked r there ∙ other_store (store_of r) s e))
    (none_pass key_cmp key_of key_total row_of (rows_in (old.now.trees 0) s))
    refl

pub removes : (old new : State) (s t i : List ℕ) (count : ℕ) → IsKept old.now → Executes remove_text (Text s ∷ Text t ∷ Text i ∷ []) old new (Ok count) → Did (without_row (record { table = t; id = i })) s old new
removes old new s t i count K h =
    let d = runs_delete remove_text (Text s ∷ Text t ∷ Text i ∷ []) remove_tests remove_is remove_plain old new count K h in
    let picked = remove_picks old.now.trees (kept_obeys old.now K) K.rows s t i in
    did_delete (without_row (record { table = t; id = i })) old new s _ (λ r. not (has_key t i r)) _ K d.0 d.1 d.2 d.3
    (λ r there e. ap not (picked r there ∙ ap (λ b. b && has_key t i (row_of r)) (same_store (store_of r) s e)))
    (λ r there e. ap not (picked r there ∙ ap (λ b. b && has_key t i (row_of r)) (other_store (store_of r) s e)))
    (others_pass key_cmp key_of key_total row_of (record { table = t; id = i }) (λ r. not (has_key t i r)) s (old.now.trees 0) (key_tests t i))
    refl

pub does_clear : (old new : State) (s : List ℕ) (r : Result ℕ Error) → Executes clear_text (Text s ∷ []) old new r → rows.Does cleared s old new r
does_clear old new s (Ok count) h = (executes_open clear_text (Text s ∷ []) old new (Ok count) h, λ K. clears old new s count K h)
does_clear old new s (Err e) h = (executes_open clear_text (Text s ∷ []) old new (Err e) h, failed clear_text (Text s ∷ []) old new e h)

pub does_remove : (old new : State) (s t i : List ℕ) (r : Result ℕ Error) → Executes remove_text (Text s ∷ Text t ∷ Text i ∷ []) old new r → rows.Does (without_row (record { table = t; id = i })) s old new r
does_remove old new s t i (Ok count) h = (executes_open remove_text (Text s ∷ Text t ∷ Text i ∷ []) old new (Ok count) h, λ K. removes old new s t i count K h)
does_remove old new s t i (Err e) h = (executes_open remove_text (Text s ∷ Text t ∷ Text i ∷ []) old new (Err e) h, failed remove_text (Text s ∷ Text t ∷ Text i ∷ []) old new e h)
