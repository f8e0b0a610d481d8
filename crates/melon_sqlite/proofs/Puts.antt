-- The statement that puts a row, whole.
use Rattle.std.proofs.Common.{◌≡◌, inl, inr, ℕ, ℤ, Bool, true, false, List, [], ◌∷◌, Ok, Err, Result, Option, None, Some, refl, sym, ap, ap₂, ◌∙◌, subst}
use Rattle.std.specs.Prelude.{if◌then◌else◌}
use Rattle.sqlite_value.specs.declared.value.Value.TheVariants.{Text, Blob}
use Rattle.sqlite_value.specs.Order.{Row}
use Rattle.sqlite_trees.specs.Tree.{Trees, rowid}
use Rattle.sqlite_schema.specs.Rules.{Obeys}
use Rattle.sqlite_schema.specs.declared.command.Conflict.TheVariants.{Abort}
use Rattle.sqlite_catalog.specs.Listing.{IsSound}
use Rattle.sqlite_rules.specs.declared.error.Refusal.{Refusal}
use Rattle.sqlite_rules.specs.declared.error.Rowids.TheVariants.{Chosen}
use Rattle.sqlite_rules.specs.Edit.{with_rowid}
use Rattle.sqlite_rules.specs.Keys.{AreConflicts}
use Rattle.sqlite_rules.specs.Lists.{Has}
use Rattle.sqlite.specs.Effect.{Database, IsDatabase}
use Rattle.std.proofs.Common.{◌||◌, ◌++◌}
use Rattle.sqlite_value.specs.Keys.{plain}
use Rattle.sqlite_schema.specs.Rules.{agree}
use Rattle.sqlite_rules.specs.Edit.{next_rowid}
use Rattle.sqlite.specs.Rows.{Updates, shown}
use Rattle.melon_sqlite.proofs.Texts.{put_query}
use Rattle.sqlite.specs.Rows.{Written, Task, Tries, TriesEach, Upserts, Clears, Puts, Judged, Meets, nothing, count_of}
use Rattle.sqlite.specs.Does.{Tally, Does}
use Rattle.sqlite.specs.Listing.{understood}
use Rattle.sqlite.specs.State.{State, mode_of, Executes, Shows}
use Rattle.sqlite.specs.declared.error.Error.{Error}
use Rattle.sqlite.proofs.Callers.{runs_as, statement_of}
use Rattle.melon_outside.specs.declared.kept.KeptRow.{KeptRow}
use Rattle.melon_outside.specs.declared.kept.Kept.{Kept}
use Rattle.melon_outside.specs.declared.kept.KeptValue.{KeptValue}
use Rattle.sqlite_trees.specs.View.{IsShaped}
use Rattle.sqlite_trees.specs.declared.store.Shape.TheVariants.{Table}
use Rattle.melon_outside.specs.Kept.{key_cmp, key_of, with_row}
use Rattle.melon_sqlite.specs.Contents.{IsKept, values_in, row_of}
use Rattle.melon_sqlite.specs.Statements.{Did, Undone}
use Rattle.melon_sqlite.specs.Tables.{kept_schema, rows_table, put_text}
use Rattle.melon_sqlite.specs.Statements as rows
use Rattle.melon_outside.proofs.Places.{key_total}
use Rattle.melon_sqlite.proofs.Sorted.{put_law, put_law_other}
use Rattle.melon_sqlite.proofs.Texts.{put_clause, put_command, put_is, put_plain}
use Rattle.melon_sqlite.proofs.Cells.{stored, cast_null}
use Rattle.melon_sqlite.proofs.Opens.{failed, executes_open}
use Rattle.melon_sqlite.proofs.Forms.{row_form, rows_apart, agree_stored}
use Rattle.melon_sqlite.proofs.Upsert.{went, same_value, Upserted, params, task, fresh_row, puts_new, puts_over}

pub made : {rows now : List KeptRow} {values found : List KeptValue} → now ≡ rows → found ≡ values
    → ◌≡◌ {A = Kept} (record { rows = now; values = found }) (record { rows = rows; values = values })
made p q = ap₂ (λ a b. record { rows = a; values = b }) p q

pub or_false : (a : Bool) → (a || (false || false)) ≡ true → a ≡ true
or_false true h = refl
or_false false h = h

pub kept_obeys : (db : Database) → IsKept db → Obeys kept_schema db.trees
kept_obeys db K = (subst (λ s. IsSound s db.trees) K.schema K.sound).obeys

module _ (limit : Option ℕ) (db : Trees) (fits : Obeys kept_schema db) (shaped : IsShaped Table (db 0)) (s t i b : List ℕ) where
  abbrev our_task : Task
  our_task = task limit db fits shaped s t i b

  abbrev new_row : Row
  new_row = fresh_row limit db fits shaped s t i b

  clears : (one : Written) (found : List Row) → Clears our_task Abort new_row db found (Ok one) → Puts our_task new_row db (Ok one)
  clears one [] h = h
  clears one (x ∷ more) h = h

  judged : (one : Written) (verdict : Option Refusal) → Judged our_task Abort (put_clause ∷ []) new_row db verdict (Ok one) → Upserts our_task Abort new_row db (put_clause ∷ []) (Ok one)
  judged one None h = h
  judged one (Some why) h = absurd (let e : ◌≡◌ {A = Result Written (Option Error)} (Ok one) (Err (Some (Rattle.sqlite.specs.Effect.edit_error why))) = h in cc)

  meets : (one : Written) (found : List Row) → AreConflicts (Some (1 ∷ 2 ∷ 3 ∷ [])) kept_schema.indexes rows_table (db 0) new_row found
      → Meets our_task (Upserts our_task Abort new_row db []) new_row db put_clause found (Ok one) → Upserted db s t i b one.trees
  meets one [] conflicts h =
      puts_new limit db fits shaped s t i b one
      (λ r there same. conflicts.complete r there (rw same refl))
      (clears one h.0 h.2)
  meets one (there ∷ more) conflicts h =
      let it = conflicts.sound there (inl refl) in
      let f = row_form db fits shaped it.0 it.1 in
      let agreed : agree plain (1 ∷ 2 ∷ 3 ∷ []) it.0 (1 ∷ 2 ∷ 3 ∷ []) new_row ≡ true = or_false _ it.2 in
      let keys = agree_stored f.0 f.1 f.2 f.3 f.4 (next_rowid (db 0)) s t i b (subst (λ x. agree plain (1 ∷ 2 ∷ 3 ∷ []) x (1 ∷ 2 ∷ 3 ∷ []) new_row ≡ true) f.5 agreed) in
      let is : it.0 ≡ stored f.0 s t i f.4 = rw (← keys.0, ← keys.1, ← keys.2) f.5 in
      puts_over limit db fits shaped s t i b one f.0 f.4 (subst (Has (db 0)) is it.1)
      (subst (λ v. Updates our_task (record { lets = []; body = put_query }) (params limit db fits shaped s t i b ++ v ∷ shown rows_table new_row) db (Ok one)) (ap rowid it.3 ∙ ap rowid f.5) h)

did_put : (old new : State) (s t i b : List ℕ) → IsKept old.now → Upserted old.now.trees s t i b new.now.trees → new.now.schema ≡ kept_schema → IsDatabase new.now
    → Shows old new new.now (if old.in_transaction then old.committed else new.now) old.in_transaction → Did (with_row (record { table = t; id = i; body = b })) s old new
did_put old new s t i b K up schema sound shows =
    let kept : IsKept new.now = record { schema = schema; sound = sound; rows = up.shaped; values = subst (IsShaped Table) (sym up.other) K.values } in
    let was = rows_apart old.now.trees (kept_obeys old.now K) K.rows in
    let is = rows_apart new.now.trees (kept_obeys new.now kept) kept.rows in
    let row = stored up.id s t i b in
    record {
      kept = kept;
      changes = (
        made (put_law key_cmp key_of key_total row_of (old.now.trees 0) (new.now.trees 0) row was is up.over) (ap (λ rs. values_in rs s) up.other),
        λ other apart. made (put_law_other key_cmp key_of key_total row_of (old.now.trees 0) (new.now.trees 0) row other was is up.over apart) (ap (λ rs. values_in rs other) up.other),
      );
      shown = shows;
    }

pub puts : (old new : State) (s t i b : List ℕ) (count : ℕ) → IsKept old.now → Executes put_text (Text s ∷ Text t ∷ Text i ∷ Blob b ∷ []) old new (Ok count)
    → Did (with_row (record { table = t; id = i; body = b })) s old new
puts old new s t i b count K h =
    let given = Text s ∷ Text t ∷ Text i ∷ Blob b ∷ [] in
    let db = old.now.trees in
    let fits = kept_obeys old.now K in
    let job = our_task old.step_limit db fits K.rows s t i b in
    let row = new_row old.step_limit db fits K.rows s t i b in
    let w = runs_as put_text given old new kept_schema K.schema put_command put_is put_plain count h in
    let text = statement_of put_text (understood kept_schema put_text) in
    let done = went (subst (λ sc. Does old.step_limit (mode_of old) given (record old.now { schema = sc }) text None put_command (Ok (w.tally, new.now))) K.schema w.changed) in
    let now = ap (λ (p : Tally × Database). p.1) (same_value (went (went done.2).2).2) in
    let source = went done.1 in
    let counter = went source.2 in
    let tried = went counter.2 in
    let each = subst (λ rs. TriesEach job Abort (put_clause ∷ []) rs (count_of counter.0) (nothing db) (Ok tried.0)) source.1.1 tried.1 in
    let one = went each in
    let try = subst (λ x. Tries job Abort (put_clause ∷ []) x db (Ok one.0)) (ap (λ v. with_rowid Chosen (db 0) (v ∷ given)) cast_null) one.1 in
    let upsert : Upserted db s t i b one.0.trees = elim try [
      | inl refused ↦ absurd (let e = refused.1 in cc)
      | inr it ↦ let u = judged old.step_limit db fits K.rows s t i b one.0 it.0 it.2 in meets old.step_limit db fits K.rows s t i b one.0 u.0 u.1 u.2
    ] in
    let counts = went tried.2 in
    let trees : new.now.trees ≡ one.0.trees =
    ap (λ (d : Database). d.trees) now ∙ ap (λ (it : Written). it.trees) (same_value counts.2) ∙ same_value counts.1 ∙ ap (λ (p : Written × ℤ). p.0.trees) (same_value one.2) in
    did_put old new s t i b K (subst (Upserted db s t i b) (sym trees) upsert) (ap (λ (d : Database). d.schema) now) w.sound w.shown

pub does_put : (old new : State) (s t i b : List ℕ) (r : Result ℕ Error) → Executes put_text (Text s ∷ Text t ∷ Text i ∷ Blob b ∷ []) old new r
    → rows.Does (with_row (record { table = t; id = i; body = b })) s old new r
does_put old new s t i b (Ok count) h = (executes_open put_text (Text s ∷ Text t ∷ Text i ∷ Blob b ∷ []) old new (Ok count) h, λ K. puts old new s t i b count K h)
does_put old new s t i b (Err e) h = (executes_open put_text (Text s ∷ Text t ∷ Text i ∷ Blob b ∷ []) old new (Err e) h, failed put_text (Text s ∷ Text t ∷ Text i ∷ Blob b ∷ []) old new e h)
