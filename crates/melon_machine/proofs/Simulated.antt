-- Apps with their histories step as those that have their stores alone.
use Rattle.std.proofs.Common.{◌≡◌, ℕ, zero, suc, ◌≤◌, le_refl, List, [], ◌∷◌, ◌++◌, map, length, take_all, Bool, true, false, bytes_eq, refl, ap, sym, ◌∙◌, subst, arith}
use Rattle.std.specs.Prelude.{Option, Some, None, option_map, Result, Ok, Err, slice_get, nat_le, not, is_some, if◌then◌else◌}
use Rattle.std.specs.List.{AllByRecursion}
use Rattle.std.proofs.lemmas.List.{map-set, map-append, length-map}
use Rattle.std.proofs.lemmas.Option.{slice_get-map}
use Rattle.indexmap.proofs.SetLemmas.{map-remove}
use Rattle.serde_json.specs.Data.{Data}
use Rattle.melon_schema.specs.Names.{is_name, is_id}
use Rattle.melon_queue.specs.Queues.{entered, nested}
use Rattle.melon_queue.specs.Seen.{SeenQueue}
use Rattle.melon_queue.specs.declared.queue.QueueFault.{QueueFault}
use Rattle.melon_schema.specs.Places.{table_named}
use Rattle.melon_schema.specs.Schema.{schema_of}
use Rattle.melon_schema.specs.Seen.{SeenSchema}
use Rattle.melon_schema.specs.declared.schema_fault.SchemaFault.{SchemaFault}
use Rattle.melon_outside.specs.declared.kept.Kept.{Kept}
use Rattle.melon_outside.specs.declared.kept.OpenFault.{OpenFault}
use Rattle.melon_change.proofs.Someness.{position-map}
use Rattle.melon_change.specs.Forms.{ops_of}
use Rattle.melon_change.specs.declared.op.Op.{Op}
use Rattle.melon_change.specs.declared.op.OpsFault.{OpsFault}
use Rattle.melon_board.specs.Opening.{open_plan}
use Rattle.melon_board.specs.Plans.{Plan, write_plan}
use Rattle.melon_board.specs.Stores.{SeenStore, store_key}
use Rattle.melon_board.specs.declared.fault.WriteFault.{WriteFault}
use Rattle.melon_script.specs.SeenLine as lines
use Rattle.melon_script.specs.SeenLine.{SeenLine}
use Rattle.melon_script.specs.declared.item.Item.{Item}
use Rattle.melon_script.specs.declared.item.Item.TheVariants as items
use Rattle.melon_machine.specs.Calls.{Calls, Done, Load, Commit, asks, with_end}
use Rattle.melon_raw.specs.Rows.{table_at}
use Rattle.melon_change.specs.declared.history.Entry.{Entry}
use Rattle.melon_change.specs.History.{History, replay, replay_to}
use Rattle.melon_query.specs.declared.query.Query.{Query}
use Rattle.melon_query.specs.declared.query_fault.QueryFault.{QueryFault}
use Rattle.melon_query.specs.Reading.{query_of}
use Rattle.melon_views.specs.declared.emission.Shape.{Shape}
use Rattle.melon_views.specs.Laws.{grown}
use Rattle.melon_views.specs.Views.{shown}
use Rattle.melon_views.proofs.Standings.{grown_views}
use Rattle.melon_relation.specs.declared.relation.Relation.{Relation}
use Rattle.melon_relation.specs.declared.fault.RelationFault.{RelationFault}
use Rattle.melon_relation.specs.Relations.{parent_in, related}
use Rattle.melon_relation.proofs.Histories.{grown_parents}
use Rattle.melon_script.specs.declared.line.LineShape.{LineShape}
use Rattle.melon_machine.specs.Legal.{IsLegalApp, AreLegal}
use Rattle.melon_machine.specs.Showing.{opening_item}
use Rattle.melon_machine.specs.State.{Watch, Answer, Owner, Observer, named, App, history_of, store_of, no_writers, opened_as, grown_to, watched_now, Answers, Owns, KeptObserver, kept_observer, KeptApp, kept_app, kept_now, kept_at, observer_kept, app_kept, apps_kept, watched_on, with_history, as_kept}
use Rattle.melon_machine.specs.Refusals.{keeper_refusal}
use Rattle.melon_machine.specs.Outcomes.{Stepped, stepped}
use Rattle.melon_machine.specs.Step.{is_turn}
use Rattle.melon_machine.specs.Apps.{Told, told, put_back, place_of, row_count, with_opened, opens_by, opens_over, opens_under, open_fault, opens_unless, open_step, closes, close_step, on_found, on_place, on_app, writes_by, writes, write_fault, writes_unless, write_app, entered_as, enter_app, nested_as, nest_app, leave_app, fetched, rows_shown, parent_shown, children_shown, place_in, taken_fault, shape_in, unless_told, opens_observer, with_place, watches, observes_as, observes, observe_app, watches_by, watch_app, drops, drop_app, looks, app_step, kept_told, kept_apps, plain_app_step}
use Rattle.melon_machine.proofs.Followed.{asks_end}
use Rattle.melon_machine.proofs.Grown.{grows_written, longer_written, none_opened}

pub end_twice : {X Y Z : Type 0} (f : Y → Z) (g : X → Y) (calls : Calls X) → with_end f (with_end g calls) ≡ with_end (λ x. f (g x)) calls
end_twice f g (Done x) = refl
end_twice f g (Load name does) = λ i. Load name (λ kept. end_twice f g (does kept) i)
end_twice f g (Commit name batch does) = λ i. Commit name batch (λ ok. end_twice f g (does ok) i)

pub place_same : (name : List ℕ) (apps : List App) → place_of as_kept name (apps_kept apps) ≡ place_of with_history name apps
place_same name apps = position-map (λ (a : KeptApp). bytes_eq a.store.name name) app_kept apps

-- ---- opening

-- without entries an app has the store with which it was opened
pub opened_store : (store : SeenStore) → store.entries ≡ [] → store ≡ store_of (opened_as store)
opened_store store none = λ i. record { name = store.name; schema = store.schema; rows = store.rows; entries = none i; last = store.last }

opened_same : (apps : List App) (name : List ℕ) (store : SeenStore) → store.entries ≡ [] → with_opened as_kept (apps_kept apps) name store ≡ kept_apps (with_opened with_history apps name store)
opened_same apps name store none =
    λ i. stepped ((ap (λ (s : SeenStore). apps_kept apps ++ kept_app s no_writers [] ∷ []) (opened_store store none) ∙ sym (map-append app_kept apps (opened_as store ∷ []))) i) (items.Open name (row_count store.rows) store.last)

opens_by_same : (apps : List App) (name : List ℕ) (r : Result Plan OpenFault) → ((plan : Plan) → r ≡ Ok plan → plan.after.entries ≡ []) → opens_by as_kept (apps_kept apps) name r ≡ with_end kept_apps (opens_by with_history apps name r)
opens_by_same apps name (Ok plan) none =
    ap (λ done. asks (store_key name) plan.batch done (stepped (apps_kept apps) keeper_refusal)) (opened_same apps name plan.after (none plan refl))
    ∙ asks_end kept_apps (store_key name) plan.batch (with_opened with_history apps name plan.after) (stepped apps keeper_refusal)
opens_by_same apps name (Err fault) none = refl

opens_over_same : (apps : List App) (name : List ℕ) (schema : SeenSchema) (kept : Option Kept) → opens_over as_kept (apps_kept apps) name schema kept ≡ with_end kept_apps (opens_over with_history apps name schema kept)
opens_over_same apps name schema None = refl
opens_over_same apps name schema (Some kept) = opens_by_same apps name (open_plan name schema kept) (none_opened name schema kept)

opens_under_same : (apps : List App) (name : List ℕ) (r : Result SeenSchema SchemaFault) → opens_under as_kept (apps_kept apps) name r ≡ with_end kept_apps (opens_under with_history apps name r)
opens_under_same apps name (Err fault) = refl
opens_under_same apps name (Ok schema) = λ i. Load (store_key name) (λ kept. opens_over_same apps name schema kept i)

open_fault_same : (apps : List App) (name : List ℕ) → open_fault as_kept (apps_kept apps) name ≡ open_fault with_history apps name
open_fault_same apps name =
    ap (λ p. if not (is_name name) then Some 4 else (if is_some p then Some 1 else (if nat_le 4 (length (apps_kept apps)) then Some 3 else None))) (place_same name apps)
    ∙ ap (λ n. if not (is_name name) then Some 4 else (if is_some (place_of with_history name apps) then Some 1 else (if nat_le 4 n then Some 3 else None))) (length-map apps app_kept)

open_same : (apps : List App) (name : List ℕ) (json : Data) → open_step as_kept (apps_kept apps) name json ≡ with_end kept_apps (open_step with_history apps name json)
open_same apps name json = ap (opens_unless as_kept (apps_kept apps) name json) (open_fault_same apps name) ∙ by_fault (open_fault with_history apps name)
  where
    by_fault : (fault : Option ℕ) → opens_unless as_kept (apps_kept apps) name json fault ≡ with_end kept_apps (opens_unless with_history apps name json fault)
    by_fault (Some number) = refl
    by_fault None = opens_under_same apps name (schema_of json)

close_same : (apps : List App) (name : List ℕ) → close_step as_kept (apps_kept apps) name ≡ kept_apps (close_step with_history apps name)
close_same apps name = ap (closes as_kept (apps_kept apps) name) (place_same name apps) ∙ by_place (place_of with_history name apps)
  where
    by_place : (place : Option ℕ) → closes as_kept (apps_kept apps) name place ≡ kept_apps (closes with_history apps name place)
    by_place None = refl
    by_place (Some place) = λ i. stepped (sym (map-remove app_kept apps place) i) (items.Close name)

-- ---- an open app

module _ (apps : List App) (name : List ℕ) (kept : KeptApp → Calls (Told KeptApp)) (does : App → Calls (Told App))
    (same : (place : ℕ) (app : App) → slice_get apps place ≡ Some app → kept (app_kept app) ≡ with_end kept_told (does app)) where
  put_back_same : (place : ℕ) → ◌≡◌ {A = Told App → Stepped (List KeptApp)} (λ t. put_back (apps_kept apps) place (kept_told t)) (λ t. kept_apps (put_back apps place t))
  put_back_same place = λ i t. record { after = sym (map-set app_kept apps place t.app) i; items = t.items }

  found_same : (place : ℕ) (found : Option App) → slice_get apps place ≡ found → on_found as_kept (apps_kept apps) name kept place (option_map app_kept found) ≡ with_end kept_apps (on_found with_history apps name does place found)
  found_same place None here = refl
  found_same place (Some app) here =
      ap (with_end (put_back (apps_kept apps) place)) (same place app here)
      ∙ end_twice (put_back (apps_kept apps) place) kept_told (does app)
      ∙ ap (λ (f : Told App → Stepped (List KeptApp)). with_end f (does app)) (put_back_same place)
      ∙ sym (end_twice kept_apps (put_back apps place) (does app))

  place_found : (place : Option ℕ) → on_place as_kept (apps_kept apps) name kept place ≡ with_end kept_apps (on_place with_history apps name does place)
  place_found None = refl
  place_found (Some place) = ap (on_found as_kept (apps_kept apps) name kept place) (slice_get-map app_kept apps place) ∙ found_same place (slice_get apps place) refl

  pub app_same : on_app as_kept (apps_kept apps) name kept ≡ with_end kept_apps (on_app with_history apps name does)
  app_same = ap (on_place as_kept (apps_kept apps) name kept) (place_same name apps) ∙ place_found (place_of with_history name apps)

-- an app that stands among legal ones is legal
pub legal_at : (apps : List App) (place : ℕ) (app : App) → slice_get apps place ≡ Some app → AreLegal apps → IsLegalApp app
legal_at [] place app here h = absurd (grind (arith, here))
legal_at (a ∷ apps) zero app here h = subst IsLegalApp (some_is here) h.0
  where
    some_is : {X : Type 0} {x y : X} → Some x ≡ Some y → x ≡ y
    some_is e = grind (arith, e)
legal_at (a ∷ apps) (suc place) app here h = legal_at apps place app here h.1

-- ---- observers

-- what was shown stays so in a history that has grown
kept_grown : (h : History) (more : List Entry) (at : ℕ) (watch : Watch) → at ≤ length h.entries → kept_at (grown h more) at watch ≡ kept_at h at watch
kept_grown h more at (Answer q s) within = λ i. Answers (record { query = q; shape = s; at = at; kept = grown_views h more q s at within i })
kept_grown h more at (Owner r) within = λ i. Owns (record { relation = r; at = at; kept = grown_parents h more r at within i })

observers_stay : (h : History) (more : List Entry) (observers : List Observer) → AllByRecursion (λ (o : Observer). o.at ≤ length h.entries) observers → map (observer_kept h) observers ≡ map (observer_kept (grown h more)) observers
observers_stay h more [] within = refl
observers_stay h more (o ∷ observers) within = λ i. kept_observer o.name (sym (kept_grown h more o.at o.watch within.0) i) ∷ observers_stay h more observers within.1 i

-- all entries of a history leave its rows now
pub rows_at_end : (h : History) → replay_to h (length h.entries) ≡ replay h.opening h.entries
rows_at_end h = ap (replay h.opening) (take_all (length h.entries) h.entries (le_refl (length h.entries)))

-- what is shown now is what is shown after all entries
pub kept_at_end : (h : History) (watch : Watch) → kept_at h (length h.entries) watch ≡ kept_now (length h.entries) (replay h.opening h.entries) watch
kept_at_end h (Answer q s) = λ i. Answers (record { query = q; shape = s; at = length h.entries; kept = shown q s (rows_at_end h i) })
kept_at_end h (Owner r) = λ i. Owns (record { relation = r; at = length h.entries; kept = parent_in r (rows_at_end h i) })

watching_same : (app : App) (observer : List ℕ) (watch : Watch) → watched_on (app_kept app) observer watch ≡ app_kept (watched_now app observer watch)
watching_same app observer watch =
    let h = history_of app in
    λ i. kept_app (store_of app) app.queue
    (((λ j. map (observer_kept h) app.observers ++ kept_observer observer (sym (kept_at_end h watch) j) ∷ []) ∙ sym (map-append (observer_kept h) app.observers (named observer watch (length app.entries) ∷ []))) i)

pub names_same : (h : History) (observers : List Observer) → map (λ (o : KeptObserver). o.name) (map (observer_kept h) observers) ≡ map (λ (o : Observer). o.name) observers
names_same h [] = refl
names_same h (o ∷ observers) = λ i. o.name ∷ names_same h observers i

-- ---- writing

writes_by_same : (name : List ℕ) (app : App) (r : Result Plan WriteFault) → IsLegalApp app
    → ((plan : Plan) → r ≡ Ok plan → (store_of (grown_to app plan.after) ≡ plan.after) × (more : List Entry) × (plan.after.entries ≡ app.entries ++ more))
    → writes_by as_kept name (app_kept app) r ≡ with_end kept_told (writes_by with_history name app r)
writes_by_same name app (Ok plan) legal grows =
    let g = grows plan refl in
    let h = history_of app in
    let longer : grown h g.1 ≡ history_of (grown_to app plan.after) = λ i. record { opening = app.opening; entries = sym g.2 i } in
    let stay : map (observer_kept h) app.observers ≡ map (observer_kept (history_of (grown_to app plan.after))) app.observers =
    observers_stay h g.1 app.observers legal.within ∙ ap (λ (l : History). map (observer_kept l) app.observers) longer in
    (λ i. asks (store_key app.name) plan.batch (told (kept_app (sym g.0 i) app.queue (stay i)) (items.Write name (length plan.after.entries))) (told (app_kept app) keeper_refusal))
    ∙ asks_end kept_told (store_key app.name) plan.batch (told (grown_to app plan.after) (items.Write name (length plan.after.entries))) (told app keeper_refusal)
writes_by_same name app (Err fault) legal grows = refl

writes_same : (name : List ℕ) (app : App) (r : Result (List Op) OpsFault) → IsLegalApp app → writes as_kept name (app_kept app) r ≡ with_end kept_told (writes with_history name app r)
writes_same name app (Ok ops) legal = writes_by_same name app (write_plan (store_of app) ops) legal (λ plan is. (grows_written app ops plan is, (longer_written app ops plan is).0, (longer_written app ops plan is).1))
writes_same name app (Err fault) legal = refl

write_same : (name : List ℕ) (json : Data) (app : App) (fault : Option Item) → IsLegalApp app → writes_unless as_kept name json (app_kept app) fault ≡ with_end kept_told (writes_unless with_history name json app fault)
write_same name json app (Some refusal) legal = refl
write_same name json app None legal = writes_same name app (ops_of json) legal

-- ---- the queue

entered_same : (name writer : List ℕ) (app : App) (r : Result (ℕ × SeenQueue) QueueFault) → entered_as as_kept name writer (app_kept app) r ≡ kept_told (entered_as with_history name writer app r)
entered_same name writer app (Ok entered) = refl
entered_same name writer app (Err fault) = refl

nested_same : (name writer : List ℕ) (app : App) (r : Result (ℕ × SeenQueue) QueueFault) → nested_as as_kept name writer (app_kept app) r ≡ kept_told (nested_as with_history name writer app r)
nested_same name writer app (Ok nested) = refl
nested_same name writer app (Err fault) = refl

-- a choice that is made alike on both sides
choice : {X Y : Type 0} (f : X → Y) (b : Bool) (x y : X) (p q : Y) → p ≡ f x → q ≡ f y → (if b then p else q) ≡ f (if b then x else y)
choice f true x y p q h k = h
choice f false x y p q h k = k

enter_same : (name writer : List ℕ) (app : App) → enter_app as_kept name writer (app_kept app) ≡ kept_told (enter_app with_history name writer app)
enter_same name writer app = choice kept_told (is_id writer) _ _ _ _ (entered_same name writer app (entered writer app.queue)) refl

nest_same : (name writer : List ℕ) (app : App) → nest_app as_kept name writer (app_kept app) ≡ kept_told (nest_app with_history name writer app)
nest_same name writer app = choice kept_told (is_id writer) _ _ _ _ (nested_same name writer app (nested writer app.queue)) refl

leave_same : (name writer : List ℕ) (app : App) → leave_app as_kept name writer (app_kept app) ≡ kept_told (leave_app with_history name writer app)
leave_same name writer app = choice kept_told (is_id writer) _ _ _ _ refl refl

-- ---- opening and dropping observers

module _ (name observer : List ℕ) (app : App) where
  abbrev IsSame : Told KeptApp → Told App → Type 0
  IsSame a b = a ≡ kept_told b

  watches_same : (watch : Watch) → IsSame (watches as_kept name observer (app_kept app) watch) (watches with_history name observer app watch)
  watches_same watch = λ i. told (watching_same app observer watch i) (opening_item app.schema.tables name observer (length app.entries) (replay app.opening app.entries) watch)

  unless_same : (fault : Option ℕ) (a : Told KeptApp) (b : Told App) → IsSame a b → IsSame (unless_told as_kept observer (app_kept app) fault a) (unless_told with_history observer app fault b)
  unless_same (Some number) a b h = refl
  unless_same None a b h = h

  placed_same : (table : List ℕ) (does : ℕ → Told KeptApp) (does' : ℕ → Told App) → ((t : ℕ) → IsSame (does t) (does' t)) → (place : Option ℕ)
      → IsSame (with_place as_kept table (app_kept app) does place) (with_place with_history table app does' place)
  placed_same table does does' h None = refl
  placed_same table does does' h (Some t) = h t

  names_are : as_kept.observers (app_kept app) ≡ with_history.observers app
  names_are = names_same (history_of app) app.observers

  observes_as_same : (query : Query) (shape : Option Shape) → IsSame (observes_as as_kept name observer (app_kept app) query shape) (observes_as with_history name observer app query shape)
  observes_as_same query None = refl
  observes_as_same query (Some shape) = watches_same (Answer query shape)

  observes_same : (t : ℕ) (shape : LineShape) (r : Result Query QueryFault) → IsSame (observes as_kept name observer (app_kept app) t shape r) (observes with_history name observer app t shape r)
  observes_same t shape (Err fault) = refl
  observes_same t shape (Ok query) = observes_as_same query (shape_in (table_at app.schema.tables t).columns shape)

  opens_same : (a : Told KeptApp) (b : Told App) → IsSame a b → IsSame (opens_observer as_kept observer (app_kept app) a) (opens_observer with_history observer app b)
  opens_same a b h =
      choice kept_told (is_id observer) _ _ _ _
      (ap (λ (names : List (List ℕ)). unless_told as_kept observer (app_kept app) (taken_fault observer names) a) names_are ∙ unless_same (taken_fault observer (with_history.observers app)) a b h) refl

  observe_same : (table : List ℕ) (json : Data) (shape : LineShape) → IsSame (observe_app as_kept name observer table json shape (app_kept app)) (observe_app with_history name observer table json shape app)
  observe_same table json shape = opens_same _ _ (placed_same table _ _ (λ t. observes_same t shape (query_of app.schema.tables table json)) (table_named table app.schema.tables))

  watches_by_same : (r : Result Relation RelationFault) → IsSame (watches_by as_kept name observer (app_kept app) r) (watches_by with_history name observer app r)
  watches_by_same (Err fault) = refl
  watches_by_same (Ok relation) = watches_same (Owner relation)

  watch_same : (table id to : List ℕ) → IsSame (watch_app as_kept name observer table id to (app_kept app)) (watch_app with_history name observer table id to app)
  watch_same table id to =
      opens_same _ _
      (placed_same table _ _ (λ t. placed_same to _ _ (λ u. choice kept_told (is_id id) _ _ _ _ (watches_by_same (related app.schema.tables (store_of app).rows t id u)) refl) (table_named to app.schema.tables)) (table_named table app.schema.tables))

  drops_same : (place : Option ℕ) → IsSame (drops as_kept name observer (app_kept app) place) (drops with_history name observer app place)
  drops_same None = refl
  drops_same (Some place) = λ i. told (kept_app (store_of app) app.queue (sym (map-remove (observer_kept (history_of app)) app.observers place) i)) (items.Drop name observer)

  drop_same : IsSame (drop_app as_kept name observer (app_kept app)) (drop_app with_history name observer app)
  drop_same =
      choice kept_told (is_id observer) _ _ _ _
      (ap (λ (names : List (List ℕ)). drops as_kept name observer (app_kept app) (place_in observer names)) names_are ∙ drops_same (place_in observer (with_history.observers app))) refl

-- ---- a line

pub plain_app_same : (apps : List App) (line : SeenLine) → AreLegal apps → is_turn line ≡ false → plain_app_step (apps_kept apps) line ≡ with_end kept_apps (app_step apps line)
unfolding app_step plain_app_step
plain_app_same apps (lines.Open name schema) legal plain = open_same apps name schema
plain_app_same apps (lines.Close name) legal plain = λ i. Done (close_same apps name i)
plain_app_same apps (lines.Enter name writer) legal plain =
    app_same apps name (λ app. Done (enter_app as_kept name writer app)) (λ app. Done (enter_app with_history name writer app)) (λ place app here. ap Done (enter_same name writer app))
plain_app_same apps (lines.Nest name writer) legal plain =
    app_same apps name (λ app. Done (nest_app as_kept name writer app)) (λ app. Done (nest_app with_history name writer app)) (λ place app here. ap Done (nest_same name writer app))
plain_app_same apps (lines.Leave name writer) legal plain =
    app_same apps name (λ app. Done (leave_app as_kept name writer app)) (λ app. Done (leave_app with_history name writer app)) (λ place app here. ap Done (leave_same name writer app))
plain_app_same apps (lines.Write name ops writer) legal plain =
    app_same apps name (write_app as_kept name ops writer) (write_app with_history name ops writer)
    (λ place app here. write_same name ops app (write_fault writer app.queue) (legal_at apps place app here legal))
plain_app_same apps (lines.Fetch name table query) legal plain = app_same apps name (looks as_kept (fetched name table query)) (looks with_history (fetched name table query)) (λ place app here. refl)
plain_app_same apps (lines.Rows name table) legal plain = app_same apps name (looks as_kept (rows_shown name table)) (looks with_history (rows_shown name table)) (λ place app here. refl)
plain_app_same apps (lines.Observe name observer table query shape) legal plain =
    app_same apps name (λ app. Done (observe_app as_kept name observer table query shape app)) (λ app. Done (observe_app with_history name observer table query shape app))
    (λ place app here. ap Done (observe_same name observer app table query shape))
plain_app_same apps (lines.Watch name observer table id to) legal plain =
    app_same apps name (λ app. Done (watch_app as_kept name observer table id to app)) (λ app. Done (watch_app with_history name observer table id to app))
    (λ place app here. ap Done (watch_same name observer app table id to))
plain_app_same apps (lines.Turn name observer) legal plain = absurd (grind (arith, plain))
plain_app_same apps (lines.Drop name observer) legal plain =
    app_same apps name (λ app. Done (drop_app as_kept name observer app)) (λ app. Done (drop_app with_history name observer app)) (λ place app here. ap Done (drop_same name observer app))
plain_app_same apps (lines.Parent name table id to) legal plain =
    app_same apps name (looks as_kept (parent_shown name table id to)) (looks with_history (parent_shown name table id to)) (λ place app here. refl)
plain_app_same apps (lines.Children name table id to) legal plain =
    app_same apps name (looks as_kept (children_shown name table id to)) (looks with_history (children_shown name table id to)) (λ place app here. refl)
plain_app_same apps (lines.Backend schema) legal plain = refl
plain_app_same apps (lines.Server table) legal plain = refl
