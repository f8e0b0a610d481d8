-- An app with its history grows as its store does.
use Rattle.std.proofs.Common.{◌≡◌, ℕ, List, [], ◌∷◌, ◌++◌, append-nil, refl, ap, sym, ◌∙◌, subst, arith}
use Rattle.std.specs.Prelude.{Result, Ok, Err, Some, None}
use Rattle.melon_raw.specs.Rows.{Rows}
use Rattle.melon_schema.specs.Seen.{SeenSchema}
use Rattle.melon_outside.specs.declared.kept.Kept.{Kept}
use Rattle.melon_board.specs.Opening.{open_plan, rows_opened, same_version, value_in}
use Rattle.melon_schema.specs.Faults.{◌>>=◌}
use Rattle.melon_change.specs.declared.change.Change.{Change}
use Rattle.melon_change.specs.declared.op.Op.{Op}
use Rattle.melon_change.specs.declared.history.Entry.{Entry}
use Rattle.melon_change.specs.declared.history.Origin.{Origin}
use Rattle.melon_change.specs.declared.history.Origin.TheVariants.{Local}
use Rattle.melon_change.specs.Changes.{after_set}
use Rattle.melon_change.specs.Batch.{batch_of}
use Rattle.melon_change.specs.History.{replay}
use Rattle.melon_board.specs.declared.fault.WriteFault.TheVariants.{StoreFull, SessionFull}
use Rattle.melon_board.specs.Batches.{kept_batch, version_name}
use Rattle.melon_board.specs.Plans.{Plan, within_limit, entry_plan, install_plan, write_plan, as_batch}
use Rattle.melon_board.specs.Sizes.{stored_bytes, journal_bytes}
use Rattle.melon_board.specs.Stores.{with_entry}
use Rattle.melon_machine.specs.State.{App, store_of, grown_to}

pub replay_one_more : (rows : Rows) (es : List Entry) (e : Entry) → replay rows (es ++ e ∷ []) ≡ after_set (replay rows es) e.set
replay_one_more rows [] e = refl
replay_one_more rows (f ∷ es) e = replay_one_more (after_set rows f.set) es e

-- the history of an app with one entry more leaves the store with it
grown_entry : (app : App) (e : Entry) → store_of (grown_to app (with_entry (store_of app) e)) ≡ with_entry (store_of app) e
grown_entry app e = λ i. record { name = app.name; schema = app.schema; rows = replay_one_more app.opening app.entries e i; entries = app.entries ++ e ∷ []; last = app.last }

-- what a chain of tests leads to
chained : {A B E : Type 0} (P : B → Type 0) (r : Result A E) (f : A → Result B E) → ((x : A) (y : B) → f x ≡ Ok y → P y) → (y : B) → (r >>= f) ≡ Ok y → P y
chained P (Ok x) f h y is = h x y is
chained P (Err e) f h y is = absurd (apart is)
  where
    apart : {B E : Type 0} {e : E} {y : B} → Err e ≡ Ok y → ⊥
    apart is = grind (arith, is)

abbrev value_or : {B E : Type 0} → B → Result B E → B
value_or d (Ok x) = x
value_or d (Err e) = d

-- what stands in an Ok
of_ok : {B E : Type 0} {x y : B} (r : Result B E) → r ≡ Ok x → r ≡ Ok y → x ≡ y
of_ok {B} {E} {x} {y} r h k = sym (ap (value_or x) h) ∙ ap (value_or x) k

-- what holds of the plan of each entry, and of the plan to do nothing, holds of every plan of a batch
module _ (app : App) (P : Plan → Type 0) (entry : (e : Entry) → P (record { batch = Some (kept_batch app.schema.tables e.set); after = with_entry (store_of app) e })) (none : P (record { batch = None; after = store_of app })) where
  planned_entry : (e : Entry) (plan : Plan) → entry_plan (store_of app) e ≡ Ok plan → P plan
  unfolding entry_plan
  planned_entry e plan is =
      let store = store_of app in
      chained P (within_limit StoreFull (stored_bytes store.schema.tables (after_set store.rows e.set)))
      (λ _. within_limit SessionFull (journal_bytes store.schema.tables (store.entries ++ e ∷ [])) >>= λ _. Ok (record { batch = Some (kept_batch store.schema.tables e.set); after = with_entry store e }))
      (λ _ y at. chained P (within_limit SessionFull (journal_bytes store.schema.tables (store.entries ++ e ∷ [])))
      (λ _. Ok (record { batch = Some (kept_batch store.schema.tables e.set); after = with_entry store e }))
      (λ _ z same. subst P (of_ok _ refl same) (entry e)) y at) plan is

  planned_install : (origin : Origin) (set : List Change) (plan : Plan) → install_plan (store_of app) origin set ≡ Ok plan → P plan
  planned_install origin [] plan is = subst P (of_ok _ refl is) none
  planned_install origin (c ∷ cs) plan is = planned_entry (record { origin = origin; set = c ∷ cs }) plan is

  planned_write : (ops : List Op) (plan : Plan) → write_plan (store_of app) ops ≡ Ok plan → P plan
  planned_write ops plan is = chained P (as_batch (batch_of app.schema.tables (store_of app).rows ops)) (install_plan (store_of app) Local) (λ set y at. planned_install Local set y at) plan is

module _ (app : App) (ops : List Op) (plan : Plan) (is : write_plan (store_of app) ops ≡ Ok plan) where
  -- the app grown to the store of a plan has that store
  pub grows_written : store_of (grown_to app plan.after) ≡ plan.after
  grows_written = planned_write app (λ p. store_of (grown_to app p.after) ≡ p.after) (grown_entry app) refl ops plan is

  -- and its history goes on
  pub longer_written : (more : List Entry) × (plan.after.entries ≡ app.entries ++ more)
  longer_written = planned_write app (λ p. (more : List Entry) × (p.after.entries ≡ app.entries ++ more)) (λ e. (e ∷ [], refl)) ([], sym (append-nil app.entries)) ops plan is

-- a store that was just opened has no entries
pub none_opened : (name : List ℕ) (schema : SeenSchema) (kept : Kept) (plan : Plan) → open_plan name schema kept ≡ Ok plan → plan.after.entries ≡ []
unfolding open_plan
none_opened name schema kept plan is =
    chained (λ (p : Plan). p.after.entries ≡ []) (rows_opened schema.tables kept.rows) _
    (λ rows y at. chained (λ (p : Plan). p.after.entries ≡ []) (same_version (value_in version_name kept.values) schema.version) _
    (λ _ z same. ap (λ (p : Plan). p.after.entries) (sym (of_ok _ refl same))) y at) plan is

-- and has the name under which it was opened
pub opened_name : (name : List ℕ) (schema : SeenSchema) (kept : Kept) (plan : Plan) → open_plan name schema kept ≡ Ok plan → plan.after.name ≡ name
unfolding open_plan
opened_name name schema kept plan is =
    chained (λ (p : Plan). p.after.name ≡ name) (rows_opened schema.tables kept.rows) _
    (λ rows y at. chained (λ (p : Plan). p.after.name ≡ name) (same_version (value_in version_name kept.values) schema.version) _
    (λ _ z same. ap (λ (p : Plan). p.after.name) (sym (of_ok _ refl same))) y at) plan is
