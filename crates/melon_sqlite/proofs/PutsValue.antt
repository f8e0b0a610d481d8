-- The statement that puts a value, whole.
use Rattle.std.proofs.Common.{◌≡◌, inl, inr, ℕ, ℤ, pos, true, List, [], ◌∷◌, Ok, Err, Result, Option, None, Some, refl, sym, ap, ap₂, ◌∙◌, subst}
use Rattle.std.specs.Prelude.{if◌then◌else◌}
use Rattle.sqlite_value.specs.declared.value.Value.TheVariants.{Int, Text}
use Rattle.sqlite_value.specs.Order.{Row}
use Rattle.sqlite_trees.specs.Tree.{Trees, rowid}
use Rattle.sqlite_schema.specs.Rules.{Obeys}
use Rattle.sqlite_schema.specs.declared.command.Conflict.TheVariants.{Abort}
use Rattle.sqlite_rules.specs.declared.error.Refusal.{Refusal}
use Rattle.sqlite_rules.specs.declared.error.Rowids.TheVariants.{Chosen}
use Rattle.sqlite_rules.specs.Edit.{with_rowid}
use Rattle.sqlite_rules.specs.Keys.{AreConflicts}
use Rattle.sqlite_rules.specs.Lists.{Has}
use Rattle.sqlite.specs.Effect.{Database, IsDatabase}
use Rattle.std.proofs.Common.{◌++◌}
use Rattle.sqlite_value.specs.Keys.{plain}
use Rattle.sqlite_schema.specs.Rules.{agree}
use Rattle.sqlite_rules.specs.Edit.{next_rowid}
use Rattle.sqlite.specs.Rows.{Updates, shown}
use Rattle.melon_sqlite.proofs.Texts.{value_query}
use Rattle.sqlite.specs.Rows.{Written, Task, Tries, TriesEach, Upserts, Clears, Puts, Judged, Meets, nothing, count_of}
use Rattle.sqlite.specs.Does.{Tally, Does}
use Rattle.sqlite.specs.Listing.{understood}
use Rattle.sqlite.specs.State.{State, mode_of, Executes, Shows}
use Rattle.sqlite.specs.declared.error.Error.{Error}
use Rattle.sqlite.proofs.Callers.{runs_as, statement_of}
use Rattle.sqlite_trees.specs.View.{IsShaped}
use Rattle.sqlite_trees.specs.declared.store.Shape.TheVariants.{Table}
use Rattle.melon_outside.specs.Kept.{text_cmp, name_of, with_value}
use Rattle.melon_sqlite.specs.Contents.{IsKept, rows_in, value_of}
use Rattle.melon_sqlite.specs.Statements.{Did, Undone}
use Rattle.melon_sqlite.specs.Tables.{kept_schema, values_table, put_value_text}
use Rattle.melon_sqlite.specs.Statements as rows
use Rattle.melon_sqlite.proofs.Sorted.{put_law, put_law_other}
use Rattle.melon_sqlite.proofs.Texts.{value_clause, value_command, value_is, value_plain}
use Rattle.melon_sqlite.proofs.Cells.{name_total, stored_value, cast_null, cast_int}
use Rattle.melon_sqlite.proofs.ValueForms.{row_form, rows_apart, agree_stored}
use Rattle.melon_sqlite.proofs.Upsert.{went, same_value}
use Rattle.melon_sqlite.proofs.UpsertValue.{ValuePut, params, task, fresh_row, puts_new, puts_over}
use Rattle.melon_sqlite.proofs.Puts.{made, kept_obeys, or_false}
use Rattle.melon_sqlite.proofs.Opens.{failed, executes_open}

module _ (limit : Option ℕ) (db : Trees) (fits : Obeys kept_schema db) (shaped : IsShaped Table (db 2)) (s m : List ℕ) (v : ℤ) where
  abbrev our_task : Task
  our_task = task limit db fits shaped s m v

  abbrev new_row : Row
  new_row = fresh_row limit db fits shaped s m v

  clears : (one : Written) (found : List Row) → Clears our_task Abort new_row db found (Ok one) → Puts our_task new_row db (Ok one)
  clears one [] h = h
  clears one (x ∷ more) h = h

  judged : (one : Written) (verdict : Option Refusal) → Judged our_task Abort (value_clause ∷ []) new_row db verdict (Ok one) → Upserts our_task Abort new_row db (value_clause ∷ []) (Ok one)
  judged one None h = h
  judged one (Some why) h = absurd (let e : ◌≡◌ {A = Result Written (Option Error)} (Ok one) (Err (Some (Rattle.sqlite.specs.Effect.edit_error why))) = h in cc)

  meets : (one : Written) (found : List Row) → AreConflicts (Some (1 ∷ 2 ∷ [])) kept_schema.indexes values_table (db 2) new_row found
      → Meets our_task (Upserts our_task Abort new_row db []) new_row db value_clause found (Ok one) → ValuePut db s m v one.trees
  meets one [] conflicts h =
      puts_new limit db fits shaped s m v one
      (λ r there same. conflicts.complete r there (rw same refl))
      (clears one h.0 h.2)
  meets one (there ∷ more) conflicts h =
      let it = conflicts.sound there (inl refl) in
      let f = row_form db fits shaped it.0 it.1 in
      let agreed : agree plain (1 ∷ 2 ∷ []) it.0 (1 ∷ 2 ∷ []) new_row ≡ true = or_false _ it.2 in
      let keys = agree_stored f.0 f.1 f.2 f.3 (next_rowid (db 2)) s m v (subst (λ x. agree plain (1 ∷ 2 ∷ []) x (1 ∷ 2 ∷ []) new_row ≡ true) f.4 agreed) in
      let is : it.0 ≡ stored_value f.0 s m f.3 = rw (← keys.0, ← keys.1) f.4 in
      puts_over limit db fits shaped s m v one f.0 f.3 (subst (Has (db 2)) is it.1)
      (subst (λ w. Updates our_task (record { lets = []; body = value_query }) (params limit db fits shaped s m v ++ w ∷ shown values_table new_row) db (Ok one)) (ap rowid it.3 ∙ ap rowid f.4) h)

did_put : (old new : State) (s m : List ℕ) (n : ℕ) → IsKept old.now → ValuePut old.now.trees s m (pos n) new.now.trees → new.now.schema ≡ kept_schema → IsDatabase new.now
    → Shows old new new.now (if old.in_transaction then old.committed else new.now) old.in_transaction → Did (with_value (record { name = m; number = n })) s old new
did_put old new s m n K up schema sound shows =
    let kept : IsKept new.now = record { schema = schema; sound = sound; rows = subst (IsShaped Table) (sym up.other) K.rows; values = up.shaped } in
    let was = rows_apart old.now.trees (kept_obeys old.now K) K.values in
    let is = rows_apart new.now.trees (kept_obeys new.now kept) kept.values in
    let row = stored_value up.id s m (pos n) in
    record {
      kept = kept;
      changes = (
        made (ap (λ rs. rows_in rs s) up.other) (put_law text_cmp name_of name_total value_of (old.now.trees 2) (new.now.trees 2) row was is up.over),
        λ other apart. made (ap (λ rs. rows_in rs other) up.other) (put_law_other text_cmp name_of name_total value_of (old.now.trees 2) (new.now.trees 2) row other was is up.over apart),
      );
      shown = shows;
    }

pub puts : (old new : State) (s m : List ℕ) (n : ℕ) (count : ℕ) → IsKept old.now → Executes put_value_text (Text s ∷ Text m ∷ Int (pos n) ∷ []) old new (Ok count)
    → Did (with_value (record { name = m; number = n })) s old new
puts old new s m n count K h =
    let given = Text s ∷ Text m ∷ Int (pos n) ∷ [] in
    let db = old.now.trees in
    let fits = kept_obeys old.now K in
    let job = our_task old.step_limit db fits K.values s m (pos n) in
    let w = runs_as put_value_text given old new kept_schema K.schema value_command value_is value_plain count h in
    let text = statement_of put_value_text (understood kept_schema put_value_text) in
    let done = went (subst (λ sc. Does old.step_limit (mode_of old) given (record old.now { schema = sc }) text None value_command (Ok (w.tally, new.now))) K.schema w.changed) in
    let now = ap (λ (p : Tally × Database). p.1) (same_value (went (went done.2).2).2) in
    let source = went done.1 in
    let counter = went source.2 in
    let tried = went counter.2 in
    let each = subst (λ rs. TriesEach job Abort (value_clause ∷ []) rs (count_of counter.0) (nothing db) (Ok tried.0)) source.1.1 tried.1 in
    let one = went each in
    let try = subst (λ x. Tries job Abort (value_clause ∷ []) x db (Ok one.0)) (ap₂ (λ v w. with_rowid Chosen (db 2) (v ∷ Text s ∷ Text m ∷ w ∷ [])) cast_null (cast_int (pos n))) one.1 in
    let upsert : ValuePut db s m (pos n) one.0.trees = elim try [
      | inl refused ↦ absurd (let e = refused.1 in cc)
      | inr it ↦ let u = judged old.step_limit db fits K.values s m (pos n) one.0 it.0 it.2 in meets old.step_limit db fits K.values s m (pos n) one.0 u.0 u.1 u.2
    ] in
    let counts = went tried.2 in
    let trees : new.now.trees ≡ one.0.trees =
    ap (λ (d : Database). d.trees) now ∙ ap (λ (it : Written). it.trees) (same_value counts.2) ∙ same_value counts.1 ∙ ap (λ (p : Written × ℤ). p.0.trees) (same_value one.2) in
    did_put old new s m n K (subst (ValuePut db s m (pos n)) (sym trees) upsert) (ap (λ (d : Database). d.schema) now) w.sound w.shown

pub does_put_value : (old new : State) (s m : List ℕ) (n : ℕ) (r : Result ℕ Error) → Executes put_value_text (Text s ∷ Text m ∷ Int (pos n) ∷ []) old new r
    → rows.Does (with_value (record { name = m; number = n })) s old new r
does_put_value old new s m n (Ok count) h = (executes_open put_value_text (Text s ∷ Text m ∷ Int (pos n) ∷ []) old new (Ok count) h, λ K. puts old new s m n count K h)
does_put_value old new s m n (Err e) h = (executes_open put_value_text (Text s ∷ Text m ∷ Int (pos n) ∷ []) old new (Err e) h, failed put_value_text (Text s ∷ Text m ∷ Int (pos n) ∷ []) old new e h)
