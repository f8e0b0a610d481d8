-- Each line of an app leaves legal histories, over whatever is loaded in order.
use Rattle.std.proofs.Common.{◌≡◌, ℕ, ◌≤◌, le_refl, zero, suc, List, [], ◌∷◌, ◌++◌, length, length-append, set, Bool, true, false, refl, ap, sym, subst, arith}
use Rattle.std.specs.Prelude.{Option, Some, None, Result, Ok, Err, slice_get, if◌then◌else◌}
use Rattle.std.specs.List.{remove, AllByRecursion}
use Rattle.serde_json.specs.Data.{Data}
use Rattle.melon_schema.specs.Names.{is_id}
use Rattle.melon_schema.specs.Places.{table_named}
use Rattle.melon_schema.specs.Schema.{schema_of}
use Rattle.melon_schema.specs.Seen.{SeenSchema}
use Rattle.melon_schema.specs.declared.schema_fault.SchemaFault.{SchemaFault}
use Rattle.melon_outside.specs.Kept.{is_in_order}
use Rattle.melon_outside.specs.Keeping.{Stores}
use Rattle.melon_outside.specs.declared.kept.Kept.{Kept}
use Rattle.melon_outside.specs.declared.kept.KeptBatch.{KeptBatch}
use Rattle.melon_outside.specs.declared.kept.OpenFault.{OpenFault}
use Rattle.melon_raw.specs.Rows.{table_at}
use Rattle.melon_change.specs.declared.op.Op.{Op}
use Rattle.melon_change.specs.declared.op.OpsFault.{OpsFault}
use Rattle.melon_change.specs.Forms.{ops_of}
use Rattle.melon_query.specs.declared.query.Query.{Query}
use Rattle.melon_query.specs.declared.query_fault.QueryFault.{QueryFault}
use Rattle.melon_query.specs.Reading.{query_of}
use Rattle.melon_queue.specs.Queues.{entered, nested, quit}
use Rattle.melon_queue.specs.Seen.{SeenQueue}
use Rattle.melon_queue.specs.declared.queue.QueueFault.{QueueFault}
use Rattle.melon_board.proofs.Continued as continued
use Rattle.melon_board.proofs.Distinct as schemas
use Rattle.melon_board.proofs.KeptOn as written
use Rattle.melon_board.proofs.Reopened as opened
use Rattle.melon_board.specs.Lasting.{IsWellFormed, have_different_names}
use Rattle.melon_board.specs.Opening.{open_plan}
use Rattle.melon_board.specs.Plans.{Plan, write_plan}
use Rattle.melon_board.specs.Stores.{SeenStore, Continues, store_key}
use Rattle.melon_board.specs.declared.fault.WriteFault.{WriteFault}
use Rattle.melon_views.specs.declared.emission.Shape.{Shape}
use Rattle.melon_relation.specs.declared.relation.Relation.{Relation}
use Rattle.melon_relation.specs.declared.fault.RelationFault.{RelationFault}
use Rattle.melon_relation.specs.Relations.{related}
use Rattle.melon_script.specs.SeenLine as lines
use Rattle.melon_script.specs.SeenLine.{SeenLine}
use Rattle.melon_script.specs.declared.line.LineShape.{LineShape}
use Rattle.melon_script.specs.declared.item.Item.{Item}
use Rattle.melon_machine.specs.Calls.{Calls, Done, Load, Commit, asks, with_end, Follows}
use Rattle.melon_machine.specs.Legal.{IsLegalApp, AreLegal}
use Rattle.melon_machine.specs.State.{App, Observer, Watch, Answer, Owner, named, store_of, opened_as, grown_to, queued_to, observed_by, with_history}
use Rattle.melon_machine.specs.Outcomes.{Stepped}
use Rattle.melon_machine.specs.Apps.{Told, told, put_back, place_of, opens_by, opens_under, open_fault, opens_unless, closes, on_found, on_place, on_app, writes_by, writes, write_fault, writes_unless, write_app, entered_as, enter_app, nested_as, nest_app, left_as, leave_app, fetched, rows_shown, parent_shown, children_shown, place_in, taken_fault, shape_in, unless_told, with_place, watches, observes_as, observes, observe_app, watches_by, watch_app, drops, drop_app, turned, turns_of, turns_at, turn_app, looks, app_step}
use Rattle.melon_machine.specs.Refusals.{id_refusal, writer_refusal, observer_refusal}
use Rattle.melon_machine.proofs.Grown.{grows_written, longer_written, none_opened}
use Rattle.melon_machine.proofs.Simulated.{opened_store, legal_at}

-- ---- whatever becomes of calls

-- however the calls end, over whatever is loaded in order
abbrev pub Always : {X : Type 0} → (X → Type 0) → Calls X → Type 0
Always P (Done x) = P x
Always P (Load name does) = ((kept : Kept) → is_in_order kept ≡ true → Always P (does (Some kept))) × Always P (does None)
Always P (Commit name batch does) = Always P (does true) × Always P (does false)

pub always_follows : {X : Type 0} (P : X → Type 0) (calls : Calls X) (was : Stores) (used : List Bool) (x : X) (now : Stores) → Always P calls → Follows calls was used x now → P x
always_follows P (Done y) was used x now a f = subst P f.1 a
always_follows P (Load name does) was [] x now a f = absurd f
always_follows P (Load name does) was (true ∷ used) x now a f = always_follows P (does (Some (was name))) was used x now (a.0 (was name) f.0) f.1
always_follows P (Load name does) was (false ∷ used) x now a f = always_follows P (does None) was used x now a.1 f
always_follows P (Commit name batch does) was [] x now a f = absurd f
always_follows P (Commit name batch does) was (true ∷ used) x now a f = always_follows P (does true) _ used x now a.0 f
always_follows P (Commit name batch does) was (false ∷ used) x now a f = always_follows P (does false) was used x now a.1 f

pub always_end : {X Y : Type 0} (P : X → Type 0) (Q : Y → Type 0) (f : X → Y) → ((x : X) → P x → Q (f x)) → (calls : Calls X) → Always P calls → Always Q (with_end f calls)
always_end P Q f h (Done x) a = h x a
always_end P Q f h (Load name does) a = (λ kept ordered. always_end P Q f h (does (Some kept)) (a.0 kept ordered), always_end P Q f h (does None) a.1)
always_end P Q f h (Commit name batch does) a = (always_end P Q f h (does true) a.0, always_end P Q f h (does false) a.1)

pub always_asked : {X : Type 0} (P : X → Type 0) (name : List ℕ) (batch : Option KeptBatch) (done failed : X) → P done → P failed → Always P (asks name batch done failed)
always_asked P name None done failed h k = h
always_asked P name (Some batch) done failed h k = (h, k)

-- ---- apps

abbrev pub AppsLegal : Calls (Stepped (List App)) → Type 0
AppsLegal calls = Always (λ s. AreLegal s.after) calls

legal_more : (apps : List App) (app : App) → AreLegal apps → IsLegalApp app → AreLegal (apps ++ app ∷ [])
legal_more [] app h k = (k, tt)
legal_more (a ∷ apps) app h k = (h.0, legal_more apps app h.1 k)

legal_less : (apps : List App) (place : ℕ) → AreLegal apps → AreLegal (remove apps place)
legal_less [] zero h = tt
legal_less [] (suc place) h = tt
legal_less (a ∷ apps) zero h = h.1
legal_less (a ∷ apps) (suc place) h = (h.0, legal_less apps place h.1)

pub legal_set : (apps : List App) (place : ℕ) (app : App) → AreLegal apps → IsLegalApp app → AreLegal (set apps place app)
legal_set [] zero app h k = tt
legal_set [] (suc place) app h k = tt
legal_set (a ∷ apps) zero app h k = (k, h.1)
legal_set (a ∷ apps) (suc place) app h k = (h.0, legal_set apps place app h.1 k)

-- ---- opening

opened_legal : (name : List ℕ) (schema : SeenSchema) (kept : Kept) (plan : Plan) → have_different_names schema.tables ≡ true → is_in_order kept ≡ true → open_plan name schema kept ≡ Ok plan → IsLegalApp (opened_as plan.after)
opened_legal name schema kept plan different ordered is =
    let store = plan.after in
    let k = opened.opens_kept name schema kept plan different ordered is in
    let same : store ≡ store_of (opened_as store) = opened_store store (none_opened name schema kept plan is) in
    record {
      formed = subst (λ (s : SeenStore). IsWellFormed s) same k.formed;
      legal = subst (λ (s : SeenStore). Continues store.rows s) same (continued.opens name schema kept plan is);
      ascend = λ t. (k.formed.rows t).ascending;
      within = tt;
    }

opens_by_legal : (apps : List App) (name : List ℕ) (r : Result Plan OpenFault) → ((plan : Plan) → r ≡ Ok plan → IsLegalApp (opened_as plan.after)) → AreLegal apps → AppsLegal (opens_by with_history apps name r)
opens_by_legal apps name (Err fault) new h = h
opens_by_legal apps name (Ok plan) new h = always_asked (λ s. AreLegal s.after) (store_key name) plan.batch _ _ (legal_more apps (opened_as plan.after) h (new plan refl)) h

opens_under_legal : (apps : List App) (name : List ℕ) (json : Data) (r : Result SeenSchema SchemaFault) → schema_of json ≡ r → AreLegal apps → AppsLegal (opens_under with_history apps name r)
opens_under_legal apps name json (Err fault) is h = h
opens_under_legal apps name json (Ok schema) is h =
    (λ kept ordered. opens_by_legal apps name (open_plan name schema kept) (λ plan opens. opened_legal name schema kept plan (schemas.read json schema is) ordered opens) h, h)

open_legal : (apps : List App) (name : List ℕ) (json : Data) (fault : Option ℕ) → AreLegal apps → AppsLegal (opens_unless with_history apps name json fault)
open_legal apps name json (Some number) h = h
open_legal apps name json None h = opens_under_legal apps name json (schema_of json) refl h

close_legal : (apps : List App) (name : List ℕ) (place : Option ℕ) → AreLegal apps → AreLegal (closes with_history apps name place).after
close_legal apps name None h = h
close_legal apps name (Some place) h = legal_less apps place h

-- ---- an open app

abbrev TellsLegal : Calls (Told App) → Type 0
TellsLegal calls = Always (λ t. IsLegalApp t.app) calls

module _ (apps : List App) (name : List ℕ) (h : AreLegal apps) (does : App → Calls (Told App)) (stays : (app : App) → IsLegalApp app → TellsLegal (does app)) where
  found_legal : (place : ℕ) (found : Option App) → slice_get apps place ≡ found → AppsLegal (on_found with_history apps name does place found)
  found_legal place None here = h
  found_legal place (Some app) here =
      always_end (λ t. IsLegalApp t.app) (λ s. AreLegal s.after) (put_back apps place) (λ t k. legal_set apps place t.app h k) (does app) (stays app (legal_at apps place app here h))

  place_legal : (place : Option ℕ) → AppsLegal (on_place with_history apps name does place)
  place_legal None = h
  place_legal (Some place) = found_legal place (slice_get apps place) refl

  app_legal : AppsLegal (on_app with_history apps name does)
  app_legal = place_legal (place_of with_history name apps)

module _ (app : App) (h : IsLegalApp app) where
  -- ---- writing

  within_longer : (observers : List Observer) (n : ℕ) → length app.entries ≤ n → AllByRecursion (λ (o : Observer). o.at ≤ length app.entries) observers → AllByRecursion (λ (o : Observer). o.at ≤ n) observers
  within_longer [] n longer k = tt
  within_longer (o ∷ observers) n longer k = (omega (arith, longer, k.0), within_longer observers n longer k.1)

  grown_legal : (ops : List Op) (plan : Plan) → write_plan (store_of app) ops ≡ Ok plan → IsLegalApp (grown_to app plan.after)
  grown_legal ops plan is =
      let same : plan.after ≡ store_of (grown_to app plan.after) = sym (grows_written app ops plan is) in
      let longer = longer_written app ops plan is in
      record {
        formed = subst (λ (s : SeenStore). IsWellFormed s) same (written.written_formed (store_of app) ops plan h.formed is);
        legal = subst (λ (s : SeenStore). Continues app.opening s) same (continued.writes_on app.opening (store_of app) ops plan h.formed h.legal is);
        ascend = h.ascend;
        within = within_longer app.observers (length plan.after.entries) (omega (arith, ap length longer.1, length-append app.entries longer.0)) h.within;
      }

  writes_by_legal : (name : List ℕ) (ops : List Op) (r : Result Plan WriteFault) → write_plan (store_of app) ops ≡ r → TellsLegal (writes_by with_history name app r)
  writes_by_legal name ops (Err fault) is = h
  writes_by_legal name ops (Ok plan) is = always_asked (λ t. IsLegalApp t.app) (store_key app.name) plan.batch _ _ (grown_legal ops plan is) h

  writes_legal : (name : List ℕ) (r : Result (List Op) OpsFault) → TellsLegal (writes with_history name app r)
  writes_legal name (Err fault) = h
  writes_legal name (Ok ops) = writes_by_legal name ops (write_plan (store_of app) ops) refl

  write_legal : (name : List ℕ) (json : Data) (fault : Option Item) → TellsLegal (writes_unless with_history name json app fault)
  write_legal name json (Some refusal) = h
  write_legal name json None = writes_legal name (ops_of json)

  -- ---- the queue

  queued_legal : (q : SeenQueue) → IsLegalApp (queued_to app q)
  queued_legal q = record { formed = h.formed; legal = h.legal; ascend = h.ascend; within = h.within }

  enter_legal : (name writer : List ℕ) (good : Bool) (r : Result (ℕ × SeenQueue) QueueFault) → IsLegalApp (if good then entered_as with_history name writer app r else told app (writer_refusal writer)).app
  enter_legal name writer true (Ok entered) = queued_legal entered.1
  enter_legal name writer true (Err fault) = h
  enter_legal name writer false r = h

  nest_legal : (name writer : List ℕ) (good : Bool) (r : Result (ℕ × SeenQueue) QueueFault) → IsLegalApp (if good then nested_as with_history name writer app r else told app (writer_refusal writer)).app
  nest_legal name writer true (Ok nested) = queued_legal nested.1
  nest_legal name writer true (Err fault) = h
  nest_legal name writer false r = h

  leave_legal : (name writer : List ℕ) (good : Bool) → IsLegalApp (if good then left_as with_history name writer app (quit writer app.queue) else told app (writer_refusal writer)).app
  leave_legal name writer true = queued_legal _
  leave_legal name writer false = h

  -- ---- observers

  pub observed_legal : (observers : List Observer) → AllByRecursion (λ (o : Observer). o.at ≤ length app.entries) observers → IsLegalApp (observed_by app observers)
  observed_legal observers within = record { formed = h.formed; legal = h.legal; ascend = h.ascend; within = within }

  within_more : (observers : List Observer) (o : Observer) → o.at ≤ length app.entries → AllByRecursion (λ (o : Observer). o.at ≤ length app.entries) observers → AllByRecursion (λ (o : Observer). o.at ≤ length app.entries) (observers ++ o ∷ [])
  within_more [] o new k = (new, tt)
  within_more (p ∷ observers) o new k = (k.0, within_more observers o new k.1)

  within_less : (observers : List Observer) (place : ℕ) → AllByRecursion (λ (o : Observer). o.at ≤ length app.entries) observers → AllByRecursion (λ (o : Observer). o.at ≤ length app.entries) (remove observers place)
  within_less [] zero k = tt
  within_less [] (suc place) k = tt
  within_less (p ∷ observers) zero k = k.1
  within_less (p ∷ observers) (suc place) k = (k.0, within_less observers place k.1)

  pub within_set : (observers : List Observer) (place : ℕ) (o : Observer) → o.at ≤ length app.entries → AllByRecursion (λ (o : Observer). o.at ≤ length app.entries) observers → AllByRecursion (λ (o : Observer). o.at ≤ length app.entries) (set observers place o)
  within_set [] zero o new k = tt
  within_set [] (suc place) o new k = tt
  within_set (p ∷ observers) zero o new k = (new, k.1)
  within_set (p ∷ observers) (suc place) o new k = (k.0, within_set observers place o new k.1)

  watches_legal : (name observer : List ℕ) (watch : Watch) → IsLegalApp (watches with_history name observer app watch).app
  watches_legal name observer watch = observed_legal _ (within_more app.observers (named observer watch (length app.entries)) (le_refl (length app.entries)) h.within)

  unless_legal : (observer : List ℕ) (fault : Option ℕ) (t : Told App) → IsLegalApp t.app → IsLegalApp (unless_told with_history observer app fault t).app
  unless_legal observer (Some number) t k = h
  unless_legal observer None t k = k

  opens_observer_legal : (observer : List ℕ) (good : Bool) (t : Told App) → IsLegalApp t.app
      → IsLegalApp (if good then unless_told with_history observer app (taken_fault observer (with_history.observers app)) t else told app (observer_refusal 4 observer)).app
  opens_observer_legal observer true t k = unless_legal observer (taken_fault observer (with_history.observers app)) t k
  opens_observer_legal observer false t k = h

  placed_legal : (table : List ℕ) (does : ℕ → Told App) → ((t : ℕ) → IsLegalApp (does t).app) → (place : Option ℕ) → IsLegalApp (with_place with_history table app does place).app
  placed_legal table does k None = h
  placed_legal table does k (Some t) = k t

  observes_as_legal : (name observer : List ℕ) (query : Query) (shape : Option Shape) → IsLegalApp (observes_as with_history name observer app query shape).app
  observes_as_legal name observer query None = h
  observes_as_legal name observer query (Some shape) = watches_legal name observer (Answer query shape)

  observes_legal : (name observer : List ℕ) (t : ℕ) (shape : LineShape) (r : Result Query QueryFault) → IsLegalApp (observes with_history name observer app t shape r).app
  observes_legal name observer t shape (Err fault) = h
  observes_legal name observer t shape (Ok query) = observes_as_legal name observer query (shape_in (table_at app.schema.tables t).columns shape)

  observe_legal : (name observer table : List ℕ) (json : Data) (shape : LineShape) → IsLegalApp (observe_app with_history name observer table json shape app).app
  observe_legal name observer table json shape =
      opens_observer_legal observer (is_id observer) _ (placed_legal table _ (λ t. observes_legal name observer t shape (query_of app.schema.tables table json)) (table_named table app.schema.tables))

  watches_by_legal : (name observer : List ℕ) (r : Result Relation RelationFault) → IsLegalApp (watches_by with_history name observer app r).app
  watches_by_legal name observer (Err fault) = h
  watches_by_legal name observer (Ok relation) = watches_legal name observer (Owner relation)

  watches_id_legal : (name observer : List ℕ) (good : Bool) (r : Result Relation RelationFault) → IsLegalApp (if good then watches_by with_history name observer app r else told app id_refusal).app
  watches_id_legal name observer true r = watches_by_legal name observer r
  watches_id_legal name observer false r = h

  watch_legal : (name observer table id to : List ℕ) → IsLegalApp (watch_app with_history name observer table id to app).app
  watch_legal name observer table id to =
      opens_observer_legal observer (is_id observer) _
      (placed_legal table _ (λ t. placed_legal to _ (λ u. watches_id_legal name observer (is_id id) (related app.schema.tables (store_of app).rows t id u)) (table_named to app.schema.tables)) (table_named table app.schema.tables))

  drops_legal : (name observer : List ℕ) (good : Bool) (place : Option ℕ) → IsLegalApp (if good then drops with_history name observer app place else told app (observer_refusal 4 observer)).app
  drops_legal name observer true None = h
  drops_legal name observer true (Some place) = observed_legal _ (within_less app.observers place h.within)
  drops_legal name observer false place = h

  turns_of_legal : (name : List ℕ) (place : ℕ) (found : Option Observer) (observer : List ℕ) → IsLegalApp (turns_of name app place found observer).app
  turns_of_legal name place None observer = h
  turns_of_legal name place (Some o) observer = observed_legal _ (within_set app.observers place (turned app o) (le_refl (length app.entries)) h.within)

  turns_at_legal : (name observer : List ℕ) (place : Option ℕ) → IsLegalApp (turns_at name observer app place).app
  turns_at_legal name observer None = h
  turns_at_legal name observer (Some place) = turns_of_legal name place (slice_get app.observers place) observer

  turn_legal : (name observer : List ℕ) (good : Bool) (place : Option ℕ) → IsLegalApp (if good then turns_at name observer app place else told app (observer_refusal 4 observer)).app
  turn_legal name observer true place = turns_at_legal name observer place
  turn_legal name observer false place = h

-- ---- a line

pub app_step_legal : (apps : List App) (line : SeenLine) → AreLegal apps → AppsLegal (app_step apps line)
unfolding app_step
app_step_legal apps (lines.Open name schema) h = open_legal apps name schema (open_fault with_history apps name) h
app_step_legal apps (lines.Close name) h = close_legal apps name (place_of with_history name apps) h
app_step_legal apps (lines.Enter name writer) h =
    app_legal apps name h (λ app. Done (enter_app with_history name writer app)) (λ app k. enter_legal app k name writer (is_id writer) (entered writer app.queue))
app_step_legal apps (lines.Nest name writer) h =
    app_legal apps name h (λ app. Done (nest_app with_history name writer app)) (λ app k. nest_legal app k name writer (is_id writer) (nested writer app.queue))
app_step_legal apps (lines.Leave name writer) h =
    app_legal apps name h (λ app. Done (leave_app with_history name writer app)) (λ app k. leave_legal app k name writer (is_id writer))
app_step_legal apps (lines.Write name ops writer) h = app_legal apps name h (write_app with_history name ops writer) (λ app k. write_legal app k name ops (write_fault writer app.queue))
app_step_legal apps (lines.Fetch name table query) h = app_legal apps name h (looks with_history (fetched name table query)) (λ app k. k)
app_step_legal apps (lines.Rows name table) h = app_legal apps name h (looks with_history (rows_shown name table)) (λ app k. k)
app_step_legal apps (lines.Observe name observer table query shape) h =
    app_legal apps name h (λ app. Done (observe_app with_history name observer table query shape app)) (λ app k. observe_legal app k name observer table query shape)
app_step_legal apps (lines.Watch name observer table id to) h =
    app_legal apps name h (λ app. Done (watch_app with_history name observer table id to app)) (λ app k. watch_legal app k name observer table id to)
app_step_legal apps (lines.Turn name observer) h =
    app_legal apps name h (λ app. Done (turn_app name observer app)) (λ app k. turn_legal app k name observer (is_id observer) (place_in observer (with_history.observers app)))
app_step_legal apps (lines.Drop name observer) h =
    app_legal apps name h (λ app. Done (drop_app with_history name observer app)) (λ app k. drops_legal app k name observer (is_id observer) (place_in observer (with_history.observers app)))
app_step_legal apps (lines.Parent name table id to) h = app_legal apps name h (looks with_history (parent_shown name table id to)) (λ app k. k)
app_step_legal apps (lines.Children name table id to) h = app_legal apps name h (looks with_history (children_shown name table id to)) (λ app k. k)
app_step_legal apps (lines.Backend schema) h = h
app_step_legal apps (lines.Server table) h = h
