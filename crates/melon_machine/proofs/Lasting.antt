-- Each line of an app leaves the apps sound.
use Rattle.std.proofs.Common.{◌≡◌, ◌≢◌, ℕ, zero, suc, List, [], ◌∷◌, ◌++◌, length, set, Bool, true, false, bytes_eq, refl, ap, sym, ◌∙◌, subst, arith}
use Rattle.std.specs.Prelude.{Option, Some, None, Result, Ok, Err, slice_get, nat_le, not, is_some, if◌then◌else◌}
use Rattle.std.specs.List.{remove}
use Rattle.std.proofs.lemmas.List.{map-append}
use Rattle.std.proofs.Math.Seq.{map-set_same}
use Rattle.std.proofs.lemmas.Option.{get_or_from_slice_get}
use Rattle.std.proofs.lemmas.Slice.Eq.{bytes_eq-Decides}
use Rattle.indexmap.proofs.SetLemmas.{map-remove}
use Rattle.serde_json.specs.Data.{Data}
use Rattle.melon_schema.specs.Names.{is_name, is_id}
use Rattle.melon_queue.specs.Queues.{entered, nested, quit}
use Rattle.melon_queue.specs.Seen.{SeenQueue}
use Rattle.melon_queue.specs.declared.queue.QueueFault.{QueueFault}
use Rattle.melon_schema.specs.Schema.{schema_of}
use Rattle.melon_schema.specs.Seen.{SeenSchema}
use Rattle.melon_schema.specs.declared.schema_fault.SchemaFault.{SchemaFault}
use Rattle.melon_outside.specs.Kept.{batched, is_in_order}
use Rattle.melon_outside.specs.Keeping.{Stores}
use Rattle.melon_outside.specs.declared.kept.Kept.{Kept}
use Rattle.melon_outside.specs.declared.kept.KeptBatch.{KeptBatch}
use Rattle.melon_outside.specs.declared.kept.OpenFault.{OpenFault}
use Rattle.melon_change.proofs.Someness.{position-map}
use Rattle.melon_change.specs.Forms.{ops_of}
use Rattle.melon_change.specs.declared.op.Op.{Op}
use Rattle.melon_change.specs.declared.op.OpsFault.{OpsFault}
use Rattle.melon_board.proofs.Continued as continued
use Rattle.melon_board.proofs.Distinct as schemas
use Rattle.melon_board.proofs.KeptOn as written
use Rattle.melon_board.proofs.Reopened as opened
use Rattle.melon_board.specs.Keeps.{Keeps}
use Rattle.melon_board.specs.Lasting.{IsWellFormed, have_different_names, kept_after}
use Rattle.melon_board.specs.Opening.{open_plan}
use Rattle.melon_board.specs.Plans.{Plan, write_plan}
use Rattle.melon_board.specs.Stores.{SeenStore, Continues, store_key}
use Rattle.melon_board.specs.declared.fault.WriteFault.{WriteFault}
use Rattle.melon_script.specs.SeenLine as lines
use Rattle.melon_script.specs.SeenLine.{SeenLine}
use Rattle.melon_script.specs.declared.item.Item.{Item}
use Rattle.melon_machine.specs.Calls.{Calls, Done, Load, Commit, asks, with_end, next, after_next, after_batch, Followed, follow}
use Rattle.melon_schema.specs.Places.{table_named}
use Rattle.melon_raw.specs.Rows.{table_at}
use Rattle.melon_query.specs.declared.query.Query.{Query}
use Rattle.melon_query.specs.declared.query_fault.QueryFault.{QueryFault}
use Rattle.melon_query.specs.Reading.{query_of}
use Rattle.melon_views.specs.declared.emission.Shape.{Shape}
use Rattle.melon_relation.specs.declared.relation.Relation.{Relation}
use Rattle.melon_relation.specs.declared.fault.RelationFault.{RelationFault}
use Rattle.melon_relation.specs.Relations.{related}
use Rattle.melon_script.specs.declared.line.LineShape.{LineShape}
use Rattle.melon_machine.specs.State.{App, Observer, store_of, opened_as, grown_to, queued_to, observed_by, with_history}
use Rattle.melon_machine.specs.Outcomes.{Stepped, stepped}
use Rattle.melon_machine.specs.Apps.{Told, told, put_back, place_of, with_opened, opens_by, opens_over, opens_under, opens_unless, open_step, closes, on_found, on_place, on_app, writes_by, writes, write_fault, writes_unless, write_app, entered_as, enter_app, nested_as, nest_app, left_as, leave_app, fetched, rows_shown, parent_shown, children_shown, place_in, taken_fault, shape_in, unless_told, with_place, observes_as, observes, observe_app, watches_by, watch_app, drops, drop_app, turns_of, turns_at, turn_app, looks, app_step}
use Rattle.melon_machine.specs.Refusals.{keeper_refusal, writer_refusal, id_refusal, observer_refusal}
use Rattle.melon_machine.specs.Sound.{IsSoundApp, AreSoundApps, IsNotAmong, AreDifferent, names_of, AreSound}
use Rattle.melon_machine.proofs.Grown.{grows_written, none_opened, opened_name}
use Rattle.melon_machine.proofs.Names.{kept_there, kept_elsewhere, not_among, not_at, different_more, different_less}
use Rattle.melon_machine.proofs.Simulated.{opened_store}

-- ---- what is kept

-- whatever becomes of the calls, the apps are sound
abbrev pub Lasts : Calls (Stepped (List App)) → Stores → Type 0
Lasts calls kept = (outcomes : List Bool) → AreSound (follow calls kept outcomes).value.after (follow calls kept outcomes).kept

-- what is kept under a name is as it was
abbrev IsElsewhere : List ℕ → Stores → Stores → Type 0
IsElsewhere name kept kept' = (other : List ℕ) → name ≢ other → kept' (store_key other) ≡ kept (store_key other)

still : (app : App) (k k' : Kept) → k' ≡ k → IsSoundApp app k → IsSoundApp app k'
still app k k' same h = subst (IsSoundApp app) (sym same) h

-- apps of other names stay sound
sound_apart : (name : List ℕ) (apps : List App) (kept kept' : Stores) → IsElsewhere name kept kept' → IsNotAmong name (names_of apps) → AreSoundApps apps kept → AreSoundApps apps kept'
sound_apart name [] kept kept' elsewhere other h = tt
sound_apart name (a ∷ apps) kept kept' elsewhere other h =
    (still a (kept (store_key a.name)) (kept' (store_key a.name)) (elsewhere a.name (λ is. other.0 (sym is))) h.0, sound_apart name apps kept kept' elsewhere other.1 h.1)

sound_more : (apps : List App) (app : App) (kept : Stores) → AreSoundApps apps kept → IsSoundApp app (kept (store_key app.name)) → AreSoundApps (apps ++ app ∷ []) kept
sound_more [] app kept h k = (k, tt)
sound_more (a ∷ apps) app kept h k = (h.0, sound_more apps app kept h.1 k)

sound_less : (apps : List App) (place : ℕ) (kept : Stores) → AreSoundApps apps kept → AreSoundApps (remove apps place) kept
sound_less [] zero kept h = tt
sound_less [] (suc place) kept h = tt
sound_less (a ∷ apps) zero kept h = h.1
sound_less (a ∷ apps) (suc place) kept h = (h.0, sound_less apps place kept h.1)

sound_at : (apps : List App) (place : ℕ) (app : App) (kept : Stores) → slice_get apps place ≡ Some app → AreSoundApps apps kept → IsSoundApp app (kept (store_key app.name))
sound_at [] place app kept here h = absurd (grind (arith, here))
sound_at (a ∷ apps) zero app kept here h = subst (λ (b : App). IsSoundApp b (kept (store_key b.name))) (some_is here) h.0
  where
    some_is : {X : Type 0} {x y : X} → Some x ≡ Some y → x ≡ y
    some_is e = grind (arith, e)
sound_at (a ∷ apps) (suc place) app kept here h = sound_at apps place app kept here h.1

-- an app in the place of another of its name
sound_set : (apps : List App) (place : ℕ) (app app' : App) (kept kept' : Stores) → slice_get apps place ≡ Some app → app'.name ≡ app.name → AreDifferent (names_of apps)
    → IsElsewhere app.name kept kept' → IsSoundApp app' (kept' (store_key app'.name)) → AreSoundApps apps kept → AreSoundApps (set apps place app') kept'
sound_set [] place app app' kept kept' here same different elsewhere new h = absurd (grind (arith, here))
sound_set (a ∷ apps) zero app app' kept kept' here same different elsewhere new h =
    (new, sound_apart app.name apps kept kept' elsewhere (subst (λ (b : App). IsNotAmong b.name (names_of apps)) (some_is here) different.0) h.1)
  where
    some_is : {X : Type 0} {x y : X} → Some x ≡ Some y → x ≡ y
    some_is e = grind (arith, e)
sound_set (a ∷ apps) (suc place) app app' kept kept' here same different elsewhere new h = (
  still a (kept (store_key a.name)) (kept' (store_key a.name)) (elsewhere a.name (not_at (λ (b : App). b.name) a.name apps place app different.0 here)) h.0,
  sound_set apps place app app' kept kept' here same different.1 elsewhere new h.1,
)

-- ---- a batch

pub ordered_after : (name : List ℕ) (batch : KeptBatch) (kept : Stores) → ((other : List ℕ) → is_in_order (kept other) ≡ true) → is_in_order (batched batch (kept name)) ≡ true
    → (other : List ℕ) → is_in_order (after_batch name batch kept other) ≡ true
ordered_after name batch kept h k other = by (bytes_eq name other) refl
  where
    by : (b : Bool) → bytes_eq name other ≡ b → is_in_order (if bytes_eq name other then batched batch (kept other) else kept other) ≡ true
    by true e = ap (λ (b : Bool). is_in_order (if b then batched batch (kept other) else kept other)) e ∙ ap (λ (n : List ℕ). is_in_order (batched batch (kept n))) (sym (equal e)) ∙ k
      where
        equal : bytes_eq name other ≡ true → name ≡ other
        equal e = (bytes_eq-Decides name other).0 e
    by false e = ap (λ (b : Bool). is_in_order (if b then batched batch (kept other) else kept other)) e ∙ h other

-- a batch that is asked, where there is one
module _ {X : Type 0} (Stays : X → Stores → Type 0) (name : List ℕ) (done failed : X) (kept : Stores) (ordered : (other : List ℕ) → is_in_order (kept other) ≡ true) (undone : Stays failed kept) where
  pub asks_stays : (batch : Option KeptBatch)
      → ((kept' : Stores) → IsElsewhere name kept kept' → kept' (store_key name) ≡ kept_after batch (kept (store_key name)) → ((other : List ℕ) → is_in_order (kept' other) ≡ true) → Stays done kept')
      → is_in_order (kept_after batch (kept (store_key name))) ≡ true → (outcomes : List Bool) → Stays (follow (asks (store_key name) batch done failed) kept outcomes).value (follow (asks (store_key name) batch done failed) kept outcomes).kept
  asks_stays None k in_order outcomes = k kept (λ other apart. refl) refl ordered
  asks_stays (Some batch) k in_order outcomes = by (next outcomes)
    where
      by : (b : Bool) → Stays (if b then follow (Done done) (after_batch (store_key name) batch kept) (after_next outcomes) else follow (Done failed) kept (after_next outcomes)).value
          (if b then follow (Done done) (after_batch (store_key name) batch kept) (after_next outcomes) else follow (Done failed) kept (after_next outcomes)).kept
      by true = k (after_batch (store_key name) batch kept) (λ other apart. kept_elsewhere name other batch kept apart) (kept_there (store_key name) batch kept) (ordered_after (store_key name) batch kept ordered in_order)
      by false = undone

-- ---- opening

opened_is : (store : SeenStore) (k : Kept) → store.entries ≡ [] → IsWellFormed store → Continues store.rows store → Keeps store k → IsSoundApp (opened_as store) k
opened_is store k none formed legal keeps =
    let same : store ≡ store_of (opened_as store) = opened_store store none in
    record { formed = subst IsWellFormed same formed; legal = subst (Continues store.rows) same legal; keeps = subst (λ (s : SeenStore). Keeps s k) same keeps }

opens_by_lasts : (apps : List App) (name : List ℕ) (schema : SeenSchema) (kept : Stores) (r : Result Plan OpenFault) → open_plan name schema (kept (store_key name)) ≡ r → have_different_names schema.tables ≡ true
    → IsNotAmong name (names_of apps) → AreSound apps kept → Lasts (opens_by with_history apps name r) kept
opens_by_lasts apps name schema kept (Err fault) is different new h outcomes = h
opens_by_lasts apps name schema kept (Ok plan) is different new h outcomes =
    let store = plan.after in
    let k = opened.opens_kept name schema (kept (store_key name)) plan different (h.ordered (store_key name)) is in
    let named : store.name ≡ name = opened_name name schema (kept (store_key name)) plan is in
    asks_stays (λ (s : Stepped (List App)) (k : Stores). AreSound s.after k) name (with_opened with_history apps name store) (stepped apps keeper_refusal) kept h.ordered h plan.batch
    (λ kept' elsewhere there ordered. record {
      ordered = ordered;
      different = subst AreDifferent (sym (map-append (λ (a : App). a.name) apps (opened_as store ∷ []))) (different_more (names_of apps) store.name h.different (subst (λ (n : List ℕ). IsNotAmong n (names_of apps)) (sym named) new));
      apps = sound_more apps (opened_as store) kept' (sound_apart name apps kept kept' elsewhere new h.apps)
          (opened_is store (kept' (store_key store.name)) (none_opened name schema (kept (store_key name)) plan is) k.formed (continued.opens name schema (kept (store_key name)) plan is)
          (subst (Keeps store) (sym (ap (λ (n : List ℕ). kept' (store_key n)) named ∙ there)) k.keeps));
    }) k.keeps.ordered outcomes

opens_under_lasts : (apps : List App) (name : List ℕ) (json : Data) (kept : Stores) (r : Result SeenSchema SchemaFault) → schema_of json ≡ r → IsNotAmong name (names_of apps) → AreSound apps kept
    → Lasts (opens_under with_history apps name r) kept
opens_under_lasts apps name json kept (Err fault) is new h outcomes = h
opens_under_lasts apps name json kept (Ok schema) is new h outcomes = by (next outcomes)
  where
    by : (b : Bool) → AreSound (if b then follow (opens_over with_history apps name schema (Some (kept (store_key name)))) kept (after_next outcomes) else follow (opens_over with_history apps name schema None) kept (after_next outcomes)).value.after
        (if b then follow (opens_over with_history apps name schema (Some (kept (store_key name)))) kept (after_next outcomes) else follow (opens_over with_history apps name schema None) kept (after_next outcomes)).kept
    by true = opens_by_lasts apps name schema kept (open_plan name schema (kept (store_key name))) refl (schemas.read json schema is) new h (after_next outcomes)
    by false = h

none_named : (apps : List App) (name : List ℕ) → place_of with_history name apps ≡ None → IsNotAmong name (names_of apps)
none_named apps name none = not_among name (names_of apps) (position-map (λ (n : List ℕ). bytes_eq n name) (λ (a : App). a.name) apps ∙ none)

open_lasts : (apps : List App) (name : List ℕ) (json : Data) (kept : Stores) → AreSound apps kept → Lasts (open_step with_history apps name json) kept
open_lasts apps name json kept h = by_name (is_name name) (place_of with_history name apps) refl
  where
    by_name : (good : Bool) (place : Option ℕ) → place_of with_history name apps ≡ place
        → Lasts (opens_unless with_history apps name json (if not good then Some 4 else (if is_some place then Some 1 else (if nat_le 4 (length apps) then Some 3 else None)))) kept
    by_name false place e outcomes = h
    by_name true (Some at) e outcomes = h
    by_name true None e outcomes = by_room (nat_le 4 (length apps)) outcomes
      where
        by_room : (full : Bool) → Lasts (opens_unless with_history apps name json (if full then Some 3 else None)) kept
        by_room true outcomes = h
        by_room false outcomes = opens_under_lasts apps name json kept (schema_of json) refl (none_named apps name e) h outcomes

-- ---- closing

close_lasts : (apps : List App) (name : List ℕ) (kept : Stores) (place : Option ℕ) → AreSound apps kept → Lasts (Done (closes with_history apps name place)) kept
close_lasts apps name kept None h outcomes = h
close_lasts apps name kept (Some place) h outcomes = record {
  ordered = h.ordered;
  different = subst AreDifferent (sym (map-remove (λ (a : App). a.name) apps place)) (different_less (names_of apps) place h.different);
  apps = sound_less apps place kept h.apps;
}

-- ---- an open app

choice : {A B : Type 0} (f : A → B) (b : Bool) (x y : A) (p q : B) → p ≡ f x → q ≡ f y → (if b then p else q) ≡ f (if b then x else y)
choice f true x y p q h k = h
choice f false x y p q h k = k

module _ {X Y : Type 0} (f : X → Y) where
  abbrev pub ended : Followed X → Followed Y
  ended r = record { value = f r.value; kept = r.kept; left = r.left }

  pub follow_end : (calls : Calls X) (kept : Stores) (outcomes : List Bool) → follow (with_end f calls) kept outcomes ≡ ended (follow calls kept outcomes)
  follow_end (Done x) kept outcomes = refl
  follow_end (Load name does) kept outcomes =
      choice ended (next outcomes) _ _ _ _ (follow_end (does (Some (kept name))) kept (after_next outcomes)) (follow_end (does None) kept (after_next outcomes))
  follow_end (Commit name batch does) kept outcomes =
      choice ended (next outcomes) _ _ _ _ (follow_end (does true) (after_batch name batch kept) (after_next outcomes)) (follow_end (does false) kept (after_next outcomes))

-- an app after a handler is sound, and nothing else that is kept has changed
record Stays (app : App) (kept : Stores) (t : Told App) (kept' : Stores) : Type 0 where
  pub name : t.app.name ≡ app.name
  pub elsewhere : IsElsewhere app.name kept kept'
  pub ordered : (other : List ℕ) → is_in_order (kept' other) ≡ true
  pub sound : IsSoundApp t.app (kept' (store_key t.app.name))

module _ (apps : List App) (name : List ℕ) (kept : Stores) (h : AreSound apps kept) where
  put_sound : (place : ℕ) (app : App) (t : Told App) (kept' : Stores) → slice_get apps place ≡ Some app → Stays app kept t kept' → AreSound (put_back apps place t).after kept'
  put_sound place app t kept' here s = record {
    ordered = s.ordered;
    different = subst AreDifferent (sym (map-set_same (λ (a : App). a.name) apps place t.app app (s.name ∙ sym (ap (λ (a : App). a.name) (get_or_from_slice_get apps place app app here))))) h.different;
    apps = sound_set apps place app t.app kept kept' here s.name h.different s.elsewhere s.sound h.apps;
  }

  app_lasts : (does : App → Calls (Told App)) → ((app : App) → IsSoundApp app (kept (store_key app.name)) → (outcomes : List Bool) → Stays app kept (follow (does app) kept outcomes).value (follow (does app) kept outcomes).kept)
      → Lasts (on_app with_history apps name does) kept
  app_lasts does stays = by_place (place_of with_history name apps)
    where
      by_found : (place : ℕ) (found : Option App) → slice_get apps place ≡ found → Lasts (on_found with_history apps name does place found) kept
      by_found place None here outcomes = h
      by_found place (Some app) here outcomes =
          subst (λ (r : Followed (Stepped (List App))). AreSound r.value.after r.kept) (sym (follow_end (put_back apps place) (does app) kept outcomes))
          (by_end place app here outcomes)
        where
          by_end : (place : ℕ) (app : App) → slice_get apps place ≡ Some app → (outcomes : List Bool) → AreSound (ended (put_back apps place) (follow (does app) kept outcomes)).value.after (ended (put_back apps place) (follow (does app) kept outcomes)).kept
          by_end place app here outcomes = put_sound place app (follow (does app) kept outcomes).value (follow (does app) kept outcomes).kept here (stays app (sound_at apps place app kept here h.apps) outcomes)

      by_place : (place : Option ℕ) → Lasts (on_place with_history apps name does place) kept
      by_place None outcomes = h
      by_place (Some place) outcomes = by_found place (slice_get apps place) refl outcomes

module _ (name : List ℕ) (app : App) (kept : Stores) (ordered : (other : List ℕ) → is_in_order (kept other) ≡ true) (h : IsSoundApp app (kept (store_key app.name))) where
  stays_so : (item : Item) → Stays app kept (told app item) kept
  stays_so item = record { name = refl; elsewhere = λ other apart. refl; ordered = ordered; sound = h }

  grown_is : (store : SeenStore) (k : Kept) → store_of (grown_to app store) ≡ store → IsWellFormed store → Continues app.opening store → Keeps store k → IsSoundApp (grown_to app store) k
  grown_is store k same formed legal keeps = record {
    formed = subst IsWellFormed (sym same) formed;
    legal = subst (Continues app.opening) (sym same) legal;
    keeps = subst (λ (s : SeenStore). Keeps s k) (sym same) keeps;
  }

  writes_by_stays : (ops : List Op) (r : Result Plan WriteFault) → write_plan (store_of app) ops ≡ r → (outcomes : List Bool)
      → Stays app kept (follow (writes_by with_history name app r) kept outcomes).value (follow (writes_by with_history name app r) kept outcomes).kept
  writes_by_stays ops (Err fault) is outcomes = stays_so _
  writes_by_stays ops (Ok plan) is outcomes =
      let k = written.writes (store_of app) (kept (store_key app.name)) ops plan h.formed h.keeps is in
      asks_stays (Stays app kept) app.name _ (told app keeper_refusal) kept ordered (stays_so keeper_refusal) plan.batch
      (λ kept' elsewhere there ordered'. record {
        name = refl;
        elsewhere = elsewhere;
        ordered = ordered';
        sound = grown_is plan.after (kept' (store_key app.name)) (grows_written app ops plan is) k.formed (continued.writes_on app.opening (store_of app) ops plan h.formed h.legal is)
            (subst (Keeps plan.after) (sym there) k.keeps);
      }) k.keeps.ordered outcomes

  write_stays : (r : Result (List Op) OpsFault) (outcomes : List Bool) → Stays app kept (follow (writes with_history name app r) kept outcomes).value (follow (writes with_history name app r) kept outcomes).kept
  write_stays (Ok ops) outcomes = writes_by_stays ops (write_plan (store_of app) ops) refl outcomes
  write_stays (Err fault) outcomes = stays_so _

  queued_is : (q : SeenQueue) → IsSoundApp (queued_to app q) (kept (store_key app.name))
  queued_is q = record { formed = h.formed; legal = h.legal; keeps = h.keeps }

  queued_stays : (q : SeenQueue) (item : Item) → Stays app kept (told (queued_to app q) item) kept
  queued_stays q item = record { name = refl; elsewhere = λ other apart. refl; ordered = ordered; sound = queued_is q }

  unless_stays : (json : Data) (fault : Option Item) (outcomes : List Bool) → Stays app kept (follow (writes_unless with_history name json app fault) kept outcomes).value (follow (writes_unless with_history name json app fault) kept outcomes).kept
  unless_stays json (Some refusal) outcomes = stays_so refusal
  unless_stays json None outcomes = write_stays (ops_of json) outcomes

  enter_stays : (writer : List ℕ) → Stays app kept (enter_app with_history name writer app) kept
  enter_stays writer = by (is_id writer) (entered writer app.queue)
    where
      by : (good : Bool) (r : Result (ℕ × SeenQueue) QueueFault) → Stays app kept (if good then entered_as with_history name writer app r else told app (writer_refusal writer)) kept
      by true (Ok entered) = queued_stays entered.1 _
      by true (Err fault) = stays_so _
      by false r = stays_so _

  nest_stays : (writer : List ℕ) → Stays app kept (nest_app with_history name writer app) kept
  nest_stays writer = by (is_id writer) (nested writer app.queue)
    where
      by : (good : Bool) (r : Result (ℕ × SeenQueue) QueueFault) → Stays app kept (if good then nested_as with_history name writer app r else told app (writer_refusal writer)) kept
      by true (Ok nested) = queued_stays nested.1 _
      by true (Err fault) = stays_so _
      by false r = stays_so _

  leave_stays : (writer : List ℕ) → Stays app kept (leave_app with_history name writer app) kept
  leave_stays writer = by (is_id writer)
    where
      by : (good : Bool) → Stays app kept (if good then left_as with_history name writer app (quit writer app.queue) else told app (writer_refusal writer)) kept
      by true = queued_stays _ _
      by false = stays_so _

  -- ---- observers

  observed_stays : (observers : List Observer) (items : List Item) → Stays app kept (record { app = observed_by app observers; items = items }) kept
  observed_stays observers items = record { name = refl; elsewhere = λ other apart. refl; ordered = ordered; sound = record { formed = h.formed; legal = h.legal; keeps = h.keeps } }

  unless_observed : (observer : List ℕ) (fault : Option ℕ) (t : Told App) → Stays app kept t kept → Stays app kept (unless_told with_history observer app fault t) kept
  unless_observed observer (Some number) t k = stays_so _
  unless_observed observer None t k = k

  opens_observer_stays : (observer : List ℕ) (good : Bool) (t : Told App) → Stays app kept t kept
      → Stays app kept (if good then unless_told with_history observer app (taken_fault observer (with_history.observers app)) t else told app (observer_refusal 4 observer)) kept
  opens_observer_stays observer true t k = unless_observed observer (taken_fault observer (with_history.observers app)) t k
  opens_observer_stays observer false t k = stays_so _

  placed_stays : (table : List ℕ) (does : ℕ → Told App) → ((t : ℕ) → Stays app kept (does t) kept) → (place : Option ℕ) → Stays app kept (with_place with_history table app does place) kept
  placed_stays table does k None = stays_so _
  placed_stays table does k (Some t) = k t

  observes_stays : (observer : List ℕ) (t : ℕ) (shape : LineShape) (r : Result Query QueryFault) → Stays app kept (observes with_history name observer app t shape r) kept
  observes_stays observer t shape (Err fault) = stays_so _
  observes_stays observer t shape (Ok query) = by (shape_in (table_at app.schema.tables t).columns shape)
    where
      by : (s : Option Shape) → Stays app kept (observes_as with_history name observer app query s) kept
      by None = stays_so _
      by (Some s) = observed_stays _ _

  observe_stays : (observer table : List ℕ) (json : Data) (shape : LineShape) → Stays app kept (observe_app with_history name observer table json shape app) kept
  observe_stays observer table json shape =
      opens_observer_stays observer (is_id observer) _ (placed_stays table _ (λ t. observes_stays observer t shape (query_of app.schema.tables table json)) (table_named table app.schema.tables))

  watches_id_stays : (observer : List ℕ) (good : Bool) (r : Result Relation RelationFault) (id : List ℕ) → Stays app kept (if good then watches_by with_history name observer app r else told app id_refusal) kept
  watches_id_stays observer true (Ok relation) id = observed_stays _ _
  watches_id_stays observer true (Err fault) id = stays_so _
  watches_id_stays observer false r id = stays_so _

  watch_stays : (observer table id to : List ℕ) → Stays app kept (watch_app with_history name observer table id to app) kept
  watch_stays observer table id to =
      opens_observer_stays observer (is_id observer) _
      (placed_stays table _ (λ t. placed_stays to _ (λ u. watches_id_stays observer (is_id id) (related app.schema.tables (store_of app).rows t id u) id) (table_named to app.schema.tables)) (table_named table app.schema.tables))

  drop_stays : (observer : List ℕ) → Stays app kept (drop_app with_history name observer app) kept
  drop_stays observer = by (is_id observer) (place_in observer (with_history.observers app))
    where
      by : (good : Bool) (place : Option ℕ) → Stays app kept (if good then drops with_history name observer app place else told app (observer_refusal 4 observer)) kept
      by true None = stays_so _
      by true (Some place) = observed_stays _ _
      by false place = stays_so _

  turn_stays : (observer : List ℕ) → Stays app kept (turn_app name observer app) kept
  turn_stays observer = by (is_id observer) (place_in observer (with_history.observers app))
    where
      by_found : (place : ℕ) (found : Option Observer) → Stays app kept (turns_of name app place found observer) kept
      by_found place None = stays_so _
      by_found place (Some o) = observed_stays _ _

      by : (good : Bool) (place : Option ℕ) → Stays app kept (if good then turns_at name observer app place else told app (observer_refusal 4 observer)) kept
      by true None = stays_so _
      by true (Some place) = by_found place (slice_get app.observers place)
      by false place = stays_so _

-- ---- a line

pub app_step_lasts : (apps : List App) (line : SeenLine) (kept : Stores) → AreSound apps kept → Lasts (app_step apps line) kept
unfolding app_step
app_step_lasts apps (lines.Open name schema) kept h = open_lasts apps name schema kept h
app_step_lasts apps (lines.Close name) kept h = close_lasts apps name kept (place_of with_history name apps) h
app_step_lasts apps (lines.Enter name writer) kept h =
    app_lasts apps name kept h (λ app. Done (enter_app with_history name writer app)) (λ app s outcomes. enter_stays name app kept h.ordered s writer)
app_step_lasts apps (lines.Nest name writer) kept h =
    app_lasts apps name kept h (λ app. Done (nest_app with_history name writer app)) (λ app s outcomes. nest_stays name app kept h.ordered s writer)
app_step_lasts apps (lines.Leave name writer) kept h =
    app_lasts apps name kept h (λ app. Done (leave_app with_history name writer app)) (λ app s outcomes. leave_stays name app kept h.ordered s writer)
app_step_lasts apps (lines.Write name ops writer) kept h =
    app_lasts apps name kept h (write_app with_history name ops writer) (λ app s outcomes. unless_stays name app kept h.ordered s ops (write_fault writer app.queue) outcomes)
app_step_lasts apps (lines.Fetch name table query) kept h =
    app_lasts apps name kept h (looks with_history (fetched name table query)) (λ app s outcomes. stays_so name app kept h.ordered s (fetched name table query (store_of app)))
app_step_lasts apps (lines.Rows name table) kept h =
    app_lasts apps name kept h (looks with_history (rows_shown name table)) (λ app s outcomes. stays_so name app kept h.ordered s (rows_shown name table (store_of app)))
app_step_lasts apps (lines.Observe name observer table query shape) kept h =
    app_lasts apps name kept h (λ app. Done (observe_app with_history name observer table query shape app)) (λ app s outcomes. observe_stays name app kept h.ordered s observer table query shape)
app_step_lasts apps (lines.Watch name observer table id to) kept h =
    app_lasts apps name kept h (λ app. Done (watch_app with_history name observer table id to app)) (λ app s outcomes. watch_stays name app kept h.ordered s observer table id to)
app_step_lasts apps (lines.Turn name observer) kept h = app_lasts apps name kept h (λ app. Done (turn_app name observer app)) (λ app s outcomes. turn_stays name app kept h.ordered s observer)
app_step_lasts apps (lines.Drop name observer) kept h = app_lasts apps name kept h (λ app. Done (drop_app with_history name observer app)) (λ app s outcomes. drop_stays name app kept h.ordered s observer)
app_step_lasts apps (lines.Parent name table id to) kept h =
    app_lasts apps name kept h (looks with_history (parent_shown name table id to)) (λ app s outcomes. stays_so name app kept h.ordered s (parent_shown name table id to (store_of app)))
app_step_lasts apps (lines.Children name table id to) kept h =
    app_lasts apps name kept h (looks with_history (children_shown name table id to)) (λ app s outcomes. stays_so name app kept h.ordered s (children_shown name table id to (store_of app)))
app_step_lasts apps (lines.Backend schema) kept h = λ outcomes. h
app_step_lasts apps (lines.Server table) kept h = λ outcomes. h
