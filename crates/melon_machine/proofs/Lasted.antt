-- Each step leaves the machine sound, and so does a run.
use Rattle.std.proofs.Common.{◌≡◌, ℕ, List, [], ◌∷◌, ◌++◌, Bool, true, false, bytes_eq, refl, ap, sym, ◌∙◌, subst}
use Rattle.std.specs.Prelude.{Option, Some, None, Result, Ok, Err, slice_get, if◌then◌else◌}
use Rattle.serde_json.specs.Data.{Data}
use Rattle.melon_schema.specs.Schema.{schema_of}
use Rattle.melon_schema.specs.Seen.{SeenSchema}
use Rattle.melon_schema.specs.declared.schema_fault.SchemaFault.{SchemaFault}
use Rattle.melon_change.specs.Forms.{ops_of}
use Rattle.melon_change.specs.declared.op.Op.{Op}
use Rattle.melon_change.specs.declared.op.OpsFault.{OpsFault}
use Rattle.melon_outside.specs.Kept.{batched, is_in_order}
use Rattle.melon_outside.specs.Keeping.{Stores}
use Rattle.melon_outside.specs.declared.kept.Kept.{Kept}
use Rattle.melon_outside.specs.declared.kept.KeptBatch.{KeptBatch}
use Rattle.melon_outside.specs.declared.kept.OpenFault.{OpenFault}
use Rattle.melon_backend.specs.Backends as backends
use Rattle.melon_backend.specs.Keeps.{KeepsLog}
use Rattle.melon_board.specs.Opening.{open_plan}
use Rattle.melon_board.specs.Plans.{Plan, write_plan}
use Rattle.melon_board.specs.Stores.{store_key}
use Rattle.melon_board.specs.declared.fault.WriteFault.{WriteFault}
use Rattle.melon_script.specs.SeenLine as lines
use Rattle.melon_script.specs.SeenLine.{SeenLine}
use Rattle.melon_script.specs.Script.{forms_in}
use Rattle.melon_script.specs.declared.item.Item.{Item}
use Rattle.melon_machine.specs.Apps.{Told, put_back, place_of, opens_by, opens_over, opens_under, open_fault, opens_unless, on_found, on_place, on_app, writes_by, writes, write_fault, writes_unless, write_app, enter_app, nest_app, leave_app, fetched, rows_shown, observe_app, watch_app, turn_app, drop_app, parent_shown, children_shown, looks, app_step}
use Rattle.melon_machine.specs.Calls.{Calls, Done, Load, Commit, asks, with_end, next, after_next, after_batch, Followed, follow, Follows}
use Rattle.melon_machine.specs.Outcomes.{Stepped, stepped_as}
use Rattle.melon_machine.specs.Run.{run_from, run}
use Rattle.melon_machine.specs.Servers.{begins_by, begins_over, begins_under, backend_step}
use Rattle.melon_machine.specs.Sound.{IsSoundApp, AreSoundApps, IsSoundIfOpen, IsSound, RunsAreSound}
use Rattle.melon_machine.specs.State.{App, Machine, Server, server_store, with_history, with_log, none_open}
use Rattle.melon_machine.specs.Step.{with_apps, with_server, step}
use Rattle.melon_machine.proofs.Followed.{follow_exact}
use Rattle.melon_machine.proofs.Lasting.{follow_end, app_step_lasts}
use Rattle.melon_machine.proofs.Served.{backend_lasts}
use Rattle.melon_machine.proofs.Whole.{by_line, app_line}

-- ---- the stores that calls commit to

-- the calls commit to no other stores than these
abbrev Only : {X : Type 0} → (List ℕ → Type 0) → Calls X → Type 0
Only P (Done x) = Unit {0}
Only P (Load name does) = (kept : Option Kept) → Only P (does kept)
Only P (Commit name batch does) = P name × ((ok : Bool) → Only P (does ok))

-- the store of an app
abbrev IsOfApp : List ℕ → Type 0
IsOfApp store = (name : List ℕ) × (store ≡ store_key name)

abbrev IsOfServer : List ℕ → Type 0
IsOfServer store = store ≡ server_store

either : {X : Type 0} (b : Bool) (r s : Followed X) (store : List ℕ) (k : Kept) → r.kept store ≡ k → s.kept store ≡ k → (if b then r else s).kept store ≡ k
either true r s store k h g = h
either false r s store k h g = g

kept_beside : (name other : List ℕ) (batch : KeptBatch) (kept : Stores) → bytes_eq name other ≡ false → after_batch name batch kept other ≡ kept other
kept_beside name other batch kept apart = ap (λ (b : Bool). if b then batched batch (kept other) else kept other) apart

-- another store is as it was
elsewhere : {X : Type 0} (P : List ℕ → Type 0) (other : List ℕ) → ((name : List ℕ) → P name → bytes_eq name other ≡ false) → (calls : Calls X) → Only P calls → (kept : Stores) (outcomes : List Bool)
    → (follow calls kept outcomes).kept other ≡ kept other
elsewhere P other apart (Done x) only kept outcomes = refl
elsewhere P other apart (Load name does) only kept outcomes =
    either (next outcomes) _ _ other (kept other) (elsewhere P other apart (does (Some (kept name))) (only (Some (kept name))) kept (after_next outcomes))
    (elsewhere P other apart (does None) (only None) kept (after_next outcomes))
elsewhere P other apart (Commit name batch does) only kept outcomes =
    either (next outcomes) _ _ other (kept other)
    (elsewhere P other apart (does true) (only.1 true) (after_batch name batch kept) (after_next outcomes) ∙ kept_beside name other batch kept (apart name only.0))
    (elsewhere P other apart (does false) (only.1 false) kept (after_next outcomes))

app_apart : (store : List ℕ) → IsOfApp store → bytes_eq store server_store ≡ false
app_apart store of = ap (λ (s : List ℕ). bytes_eq s server_store) of.1

server_apart : (name store : List ℕ) → IsOfServer store → bytes_eq store (store_key name) ≡ false
server_apart name store is = ap (λ (s : List ℕ). bytes_eq s (store_key name)) is

only_end : {X Y : Type 0} (P : List ℕ → Type 0) (f : X → Y) (calls : Calls X) → Only P calls → Only P (with_end f calls)
only_end P f (Done x) only = tt
only_end P f (Load name does) only = λ kept. only_end P f (does kept) (only kept)
only_end P f (Commit name batch does) only = (only.0, λ ok. only_end P f (does ok) (only.1 ok))

only_asked : {X : Type 0} (P : List ℕ → Type 0) (name : List ℕ) (batch : Option KeptBatch) (done failed : X) → P name → Only P (asks name batch done failed)
only_asked P name None done failed h = tt
only_asked P name (Some batch) done failed h = (h, λ ok. tt)

-- ---- lines of apps

abbrev OnlyApps : {X : Type 0} → Calls X → Type 0
OnlyApps calls = Only IsOfApp calls

opens_by_only : (apps : List App) (name : List ℕ) (r : Result Plan OpenFault) → OnlyApps (opens_by with_history apps name r)
opens_by_only apps name (Ok plan) = only_asked IsOfApp (store_key name) plan.batch _ _ (name, refl)
opens_by_only apps name (Err fault) = tt

opens_over_only : (apps : List App) (name : List ℕ) (schema : SeenSchema) (kept : Option Kept) → OnlyApps (opens_over with_history apps name schema kept)
opens_over_only apps name schema None = tt
opens_over_only apps name schema (Some kept) = opens_by_only apps name (open_plan name schema kept)

opens_under_only : (apps : List App) (name : List ℕ) (r : Result SeenSchema SchemaFault) → OnlyApps (opens_under with_history apps name r)
opens_under_only apps name (Err fault) = tt
opens_under_only apps name (Ok schema) = opens_over_only apps name schema

opens_only : (apps : List App) (name : List ℕ) (json : Data) (fault : Option ℕ) → OnlyApps (opens_unless with_history apps name json fault)
opens_only apps name json (Some number) = tt
opens_only apps name json None = opens_under_only apps name (schema_of json)

module _ (apps : List App) (name : List ℕ) (does : App → Calls (Told App)) (only : (app : App) → OnlyApps (does app)) where
  found_only : (place : ℕ) (found : Option App) → OnlyApps (on_found with_history apps name does place found)
  found_only place None = tt
  found_only place (Some app) = only_end IsOfApp (put_back apps place) (does app) (only app)

  place_only : (place : Option ℕ) → OnlyApps (on_place with_history apps name does place)
  place_only None = tt
  place_only (Some place) = found_only place (slice_get apps place)

  app_only : OnlyApps (on_app with_history apps name does)
  app_only = place_only (place_of with_history name apps)

writes_by_only : (name : List ℕ) (app : App) (r : Result Plan WriteFault) → OnlyApps (writes_by with_history name app r)
writes_by_only name app (Ok plan) = only_asked IsOfApp (store_key app.name) plan.batch _ _ (app.name, refl)
writes_by_only name app (Err fault) = tt

writes_only : (name : List ℕ) (app : App) (r : Result (List Op) OpsFault) → OnlyApps (writes with_history name app r)
writes_only name app (Ok ops) = writes_by_only name app (write_plan _ ops)
writes_only name app (Err fault) = tt

write_only : (name : List ℕ) (json : Data) (app : App) (fault : Option Item) → OnlyApps (writes_unless with_history name json app fault)
write_only name json app (Some refusal) = tt
write_only name json app None = writes_only name app (ops_of json)

step_only : (apps : List App) (line : SeenLine) → OnlyApps (app_step apps line)
unfolding app_step
step_only apps (lines.Open name schema) = opens_only apps name schema (open_fault with_history apps name)
step_only apps (lines.Close name) = tt
step_only apps (lines.Enter name writer) = app_only apps name (λ app. Done (enter_app with_history name writer app)) (λ app. tt)
step_only apps (lines.Nest name writer) = app_only apps name (λ app. Done (nest_app with_history name writer app)) (λ app. tt)
step_only apps (lines.Leave name writer) = app_only apps name (λ app. Done (leave_app with_history name writer app)) (λ app. tt)
step_only apps (lines.Write name ops writer) = app_only apps name (write_app with_history name ops writer) (λ app. write_only name ops app (write_fault writer app.queue))
step_only apps (lines.Fetch name table query) = app_only apps name (looks with_history (fetched name table query)) (λ app. tt)
step_only apps (lines.Rows name table) = app_only apps name (looks with_history (rows_shown name table)) (λ app. tt)
step_only apps (lines.Observe name observer table query shape) = app_only apps name (λ app. Done (observe_app with_history name observer table query shape app)) (λ app. tt)
step_only apps (lines.Watch name observer table id to) = app_only apps name (λ app. Done (watch_app with_history name observer table id to app)) (λ app. tt)
step_only apps (lines.Turn name observer) = app_only apps name (λ app. Done (turn_app name observer app)) (λ app. tt)
step_only apps (lines.Drop name observer) = app_only apps name (λ app. Done (drop_app with_history name observer app)) (λ app. tt)
step_only apps (lines.Parent name table id to) = app_only apps name (looks with_history (parent_shown name table id to)) (λ app. tt)
step_only apps (lines.Children name table id to) = app_only apps name (looks with_history (children_shown name table id to)) (λ app. tt)
step_only apps (lines.Backend schema) = tt
step_only apps (lines.Server table) = tt

-- ---- lines of the server

abbrev OnlyServer : {X : Type 0} → Calls X → Type 0
OnlyServer calls = Only IsOfServer calls

begins_by_only : (r : Result backends.Plan OpenFault) → OnlyServer (begins_by with_log r)
begins_by_only (Ok plan) = only_asked IsOfServer server_store plan.batch _ _ refl
begins_by_only (Err fault) = tt

begins_over_only : (schema : SeenSchema) (kept : Option Kept) → OnlyServer (begins_over with_log schema kept)
begins_over_only schema None = tt
begins_over_only schema (Some kept) = begins_by_only (backends.open_plan server_store schema kept)

begins_under_only : (r : Result SeenSchema SchemaFault) → OnlyServer (begins_under with_log r)
begins_under_only (Err fault) = tt
begins_under_only (Ok schema) = begins_over_only schema

backend_only : (server : Option Server) (json : Data) → OnlyServer (backend_step with_log server json)
backend_only None json = begins_under_only (schema_of json)
backend_only (Some server) json = tt

-- ---- a line, and all lines

server_still : (server : Option Server) (kept kept' : Stores) → kept' server_store ≡ kept server_store → IsSoundIfOpen server kept → IsSoundIfOpen server kept'
server_still None kept kept' same h = tt
server_still (Some server) kept kept' same h = subst (KeepsLog server.log server.schema.version) (sym same) h

apps_still : (apps : List App) (kept kept' : Stores) → ((name : List ℕ) → kept' (store_key name) ≡ kept (store_key name)) → AreSoundApps apps kept → AreSoundApps apps kept'
apps_still [] kept kept' same h = tt
apps_still (app ∷ apps) kept kept' same h = (subst (IsSoundApp app) (sym (same app.name)) h.0, apps_still apps kept kept' same h.1)

-- whatever becomes of the calls, the machine is sound
abbrev LeavesSound : Calls (Stepped Machine) → Stores → Type 0
LeavesSound calls kept = (outcomes : List Bool) → IsSound (follow calls kept outcomes).value.after (follow calls kept outcomes).kept

ends_sound : {X : Type 0} (f : X → Stepped Machine) (calls : Calls X) (kept : Stores)
    → ((outcomes : List Bool) → IsSound (f (follow calls kept outcomes).value).after (follow calls kept outcomes).kept) → LeavesSound (with_end f calls) kept
ends_sound f calls kept h outcomes = subst (λ (r : Followed (Stepped Machine)). IsSound r.value.after r.kept) (sym (follow_end f calls kept outcomes)) (h outcomes)

step_lasts : (m : Machine) (line : SeenLine) (kept : Stores) → IsSound m kept → LeavesSound (step m line) kept
unfolding step
step_lasts m line kept h = by_line (λ (l : SeenLine). LeavesSound (step m l) kept)
    (λ l is. subst (λ (calls : Calls (Stepped Machine)). LeavesSound calls kept) (sym (app_line m l is)) (ends_sound (stepped_as (with_apps m)) (app_step m.apps l) kept (λ outcomes. record {
      apps = app_step_lasts m.apps l kept h.apps outcomes;
      server = server_still m.server kept _ (elsewhere IsOfApp server_store app_apart (app_step m.apps l) (step_only m.apps l) kept outcomes) h.server;
    })))
    (λ json. ends_sound (stepped_as (with_server m)) (backend_step with_log m.server json) kept (λ outcomes.
    let stays = backend_lasts kept h.apps.ordered m.server json h.server outcomes in
    record {
      apps = record {
        ordered = stays.ordered;
        different = h.apps.different;
        apps = apps_still m.apps kept _ (λ name. elsewhere IsOfServer (store_key name) (server_apart name) (backend_step with_log m.server json) (backend_only m.server json) kept outcomes) h.apps.apps;
      };
      server = stays.sound;
    }))
    (λ table outcomes. h) line

-- so it is where the calls were made with exactly these outcomes
pub step_followed : (m : Machine) (line : SeenLine) (kept : Stores) (used : List Bool) (s : Stepped Machine) (kept' : Stores) → IsSound m kept → Follows (step m line) kept used s kept' → IsSound s.after kept'
step_followed m line kept used s kept' h f = subst (λ (r : Followed (Stepped Machine)). IsSound r.value.after r.kept) (follow_exact (step m line) kept used s kept' [] f) (step_lasts m line kept h (used ++ []))

-- nothing is open
pub none_sound : (kept : Stores) → ((name : List ℕ) → is_in_order (kept name) ≡ true) → IsSound none_open kept
none_sound kept ordered = record { apps = record { ordered = ordered; different = tt; apps = tt }; server = tt }

lines_last : (forms : List SeenLine) (m : Machine) (kept : Stores) (outcomes : List Bool) → IsSound m kept → IsSound (run_from m kept forms outcomes).after (run_from m kept forms outcomes).kept
lines_last [] m kept outcomes h = h
lines_last (line ∷ more) m kept outcomes h =
    let done = follow (step m line) kept outcomes in
    lines_last more done.value.after done.kept done.left (step_lasts m line kept h outcomes)

pub runs_are_sound : RunsAreSound
unfolding run
runs_are_sound script kept outcomes ordered =
    lines_last (forms_in script) none_open kept outcomes (none_sound kept ordered)
