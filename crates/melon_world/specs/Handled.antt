-- What a handler of a line answered and left.
use Rattle.std.specs.Prelude.{◌≡◌, ◌≢◌, ◌≤◌, ◌+◌, ◌⊎◌, ℕ, List, [], ◌∷◌, length, map, set, slice_get, Bool, true, false, Option, Some, None, Result, Ok, Err, IfOk, OnErr, if◌then◌else◌}
use Rattle.melon_outside.specs.Causes.{Rose}
use Rattle.melon_outside.specs.Keeping.{Stores, AreSame}
use Rattle.melon_outside.specs.SeenKeeper.{SeenKeeper, Answered, Later}
use Rattle.melon_outside.specs.Asking.{HoldsAsBefore}
use Rattle.melon_board.specs.declared.fault.WriteFault.{WriteFault}
use Rattle.melon_board.specs.declared.fault.WriteFault.TheVariants.{Memory}
use Rattle.melon_script.specs.declared.item.Item.{Item}
use Rattle.melon_script.specs.declared.item.Item.TheVariants as items
use Rattle.melon_board.specs.Stores.{SeenStore}
use Rattle.melon_schema.specs.declared.schema.TableSchema.{TableSchema}
use Rattle.melon_views.specs.declared.parent.Parent.{Parent}
use Rattle.melon_change.specs.History.{History}
use Rattle.melon_query.specs.Simple.{is_simple}
use Rattle.melon_schema.specs.Faults.{◌>>=◌}
use Rattle.melon_raw.specs.Rows.{table_at}
use Rattle.melon_relation.specs.declared.fault.RelationFault.{RelationFault}
use Rattle.melon_relation.specs.declared.relation.Relation.{Relation}
use Rattle.melon_relation.specs.Relations.{related, parent_in}
use Rattle.melon_relation.specs.Watching.{Watched, watch_opened}
use Rattle.melon_observe.specs.Journals.{changes_between}
use Rattle.serde_json.specs.View.{view}
use Rattle.melon_script.specs.SeenLine as lines
use Rattle.melon_script.specs.SeenLine.{SeenLine}
use Rattle.melon_script.specs.declared.item.Given.{Given}
use Rattle.melon_world.specs.declared.kind.LineKind.{LineKind}
use Rattle.melon_world.specs.declared.kind.LineKind.TheVariants as kinds
use Rattle.melon_machine.specs.Legal.{IsLegalApp, AreKeptAs, IsKeptAs}
use Rattle.melon_machine.specs.Showing.{given_parent}
use Rattle.melon_machine.specs.State.{App, Observer, named, observed_by, history_of, Watch, kept_at, KeptWatch, Answers, Owns, KeptObserver, KeptApp, Machine, KeptMachine, as_kept, observer_kept, app_kept}
use Rattle.melon_machine.specs.Apps.{place_of, place_in}
use Rattle.melon_machine.specs.Outcomes.{Stepped}
use Rattle.melon_machine.specs.Step.{kept_calls, is_turn, is_of_server}
use Rattle.melon_machine.specs.Calls.{Calls, Begins, Follows, failures, RoseBy, Meets, Interrupts}
use Rattle.melon_machine.specs.Refusals.{write_refusal}

-- A batch that was made is told with the journal's length; a refusal is told, unless memory runs out.
abbrev pub Tells : {E : Type 0} → List ℕ → Result ℕ WriteFault → Result Item E → Type 0
Tells app (Ok at) (Ok item) = item ≡ items.Write app at
Tells app (Ok at) (Err e) = ⊥
Tells app (Err fault) (Ok item) = (item ≡ write_refusal fault) × (fault ≢ Memory)
Tells app (Err fault) (Err e) = Unit {0}

-- With an answer the calls were met. On want of memory the object is as it was, and so is what the keeper holds, which was asked
-- for the first of the calls alone. The keeper's count rose where the answer tells that it failed.
pub record IsHandled {X T R E : Type 0} (calls : Calls X) (end : R → X) (tells : R → Bool) (before now : SeenKeeper) (was left : T) (result : Result R E) : Type 0 where
  pub met : IfOk result (λ answer. Meets calls before now (end answer))
  pub same : OnErr result (left ≡ was)
  pub held : OnErr result (HoldsAsBefore before now)
  pub interrupted : OnErr result (Interrupts calls before now)
  pub later : Later before now
  pub cause : IfOk result (λ answer. tells answer ≡ true → Rose before.faults now.faults)

-- ---- kinds of lines

-- the parts of a turn and of a line of the server, where the line is one
abbrev pub IsKind : SeenLine → LineKind → Type 0
IsKind line (kinds.Turn app observer) = line ≡ lines.Turn app.now observer.now
IsKind line (kinds.Backend schema) = line ≡ lines.Backend (view schema.now)
IsKind line (kinds.Server table) = line ≡ lines.Server table.now
IsKind line kinds.App = (is_turn line ≡ false) × (is_of_server line ≡ false)

-- ---- a step

-- The keeper held this, and every machine that the code had so makes calls over it that leave what it holds now and end so, with
-- the outcomes that it answered.
abbrev pub MeetsAs : (Machine → Calls (Stepped Machine)) → KeptMachine → SeenKeeper → SeenKeeper → Stepped KeptMachine → Type 0
MeetsAs calls was before now end =
    (m : Stores) → now.holds m → (kept : Stores) × before.holds kept × ((machine : Machine) → IsKeptAs machine was
    → (used : List Bool) × Follows (kept_calls (calls machine)) kept used end m × RoseBy (failures used) before.faults now.faults × Answered used before now)

-- The keeper holds what it held, and was asked for the first calls alone of every machine that the code had so.
abbrev pub InterruptsAs : (Machine → Calls (Stepped Machine)) → KeptMachine → SeenKeeper → SeenKeeper → Type 0
InterruptsAs calls was before now =
    (m : Stores) → now.holds m → (kept : Stores) × before.holds kept × AreSame m kept × ((machine : Machine) → IsKeptAs machine was
    → (used : List Bool) × Begins used (calls machine) kept × RoseBy (failures used) before.faults now.faults × Answered used before now)

-- ---- watches

-- a watch that was opened on a store, and what it shows
abbrev pub shown_of : SeenStore → Relation → Watched × Given
shown_of store r = (watch_opened (length store.entries) store.rows r, given_parent (table_at store.schema.tables r.to) (parent_in r store.rows))

abbrev pub watch_shown : SeenStore → ℕ → List ℕ → ℕ → Result (Watched × Given) RelationFault
watch_shown store table id to = related store.schema.tables store.rows table id to >>= λ r. Ok (shown_of store r)

-- ---- turns

-- the changes behind the position of an observer of a simple query
abbrev pub watch_bound : SeenStore → KeptWatch → Option ℕ
watch_bound store (Answers o) = if is_simple o.query then Some (changes_between o.at (length store.entries) store.entries) else None
watch_bound store (Owns w) = None

abbrev pub observer_bound : SeenStore → Option KeptObserver → Option ℕ
observer_bound store None = None
observer_bound store (Some o) = watch_bound store o.watch

abbrev pub place_bound : KeptApp → Option ℕ → Option ℕ
place_bound app None = None
place_bound app (Some place) = observer_bound app.store (slice_get app.observers place)

abbrev pub app_bound : List ℕ → Option KeptApp → Option ℕ
app_bound observer None = None
app_bound observer (Some app) = place_bound app (place_in observer (map (λ (o : KeptObserver). o.name) app.observers))

abbrev pub apps_bound : List KeptApp → List ℕ → Option ℕ → Option ℕ
apps_bound apps observer None = None
apps_bound apps observer (Some place) = app_bound observer (slice_get apps place)

-- how many steps a turn of an observer of a simple query takes at most
abbrev pub turn_bound : List KeptApp → List ℕ → List ℕ → Option ℕ
turn_bound apps name observer = apps_bound apps observer (place_of as_kept name apps)

abbrev pub line_bound : List KeptApp → SeenLine → Option ℕ
line_bound apps (lines.Turn name observer) = turn_bound apps name observer
line_bound apps line = None

-- at most so many steps, where there is a bound
abbrev pub IsBounded : Option ℕ → ℕ → ℕ → Type 0
IsBounded None before now = Unit {0}
IsBounded (Some bound) before now = now ≤ before + bound

-- ---- want of memory

-- what is watched is kept as at some position of the history, and not before this one
pub record StandsOn (h : History) (was : ℕ) (watch : Watch) (left : KeptWatch) : Type 0 where
  pub at : ℕ
  pub later : was ≤ at
  pub within : at ≤ length h.entries
  pub is : left ≡ kept_at h at watch

-- the observer stands at some position of the history, and not before its own
pub record StandsAt (app : App) (o : Observer) (left : KeptObserver) : Type 0 where
  pub at : ℕ
  pub later : o.at ≤ at
  pub within : at ≤ length app.entries
  pub is : left ≡ observer_kept (history_of app) (named o.name o.watch at)

-- In an app the observer of this name has gone on: it watches what it watched, and stands within the history and not before its
-- old position. All else is as it was.
pub record HasGoneOn (observer : List ℕ) (app left : App) : Type 0 where
  pub place : ℕ
  pub old : Observer
  pub at : ℕ
  pub there : slice_get app.observers place ≡ Some old
  pub called : old.name ≡ observer
  pub later : old.at ≤ at
  pub within : at ≤ length app.entries
  pub is : left ≡ observed_by app (set app.observers place (named observer old.watch at))

-- the same of an app that the code has so
pub record IsTurnedOn (observer : List ℕ) (app : App) (left : KeptApp) : Type 0 where
  pub next : App
  pub gone : HasGoneOn observer app next
  pub is : left ≡ app_kept next

-- the app is as it was, or the observer of this name has gone on
abbrev pub IsAppLeft : List ℕ → KeptApp → KeptApp → Type 0
IsAppLeft observer was left = (left ≡ was) ⊎ ((app : App) → app_kept app ≡ was → IsLegalApp app → IsTurnedOn observer app left)

-- This is how the code has apps of which the one of this name has an observer, of that name, that has gone on.
pub record AreTurnedOn (name observer : List ℕ) (apps : List App) (left : List KeptApp) : Type 0 where
  pub place : ℕ
  pub app : App
  pub next : App
  pub there : slice_get apps place ≡ Some app
  pub called : app.name ≡ name
  pub gone : HasGoneOn observer app next
  pub after : AreKeptAs (set apps place next) left

-- the apps are as they were, or an observer has gone on
abbrev pub AreLeft : List ℕ → List ℕ → List KeptApp → List KeptApp → Type 0
AreLeft name observer was left = (left ≡ was) ⊎ ((apps : List App) → AreKeptAs apps was → AreTurnedOn name observer apps left)

-- A turn has left the server as it was, and the apps too, but that its observer may have gone on. Any other line has done nothing.
abbrev pub IsLeft : SeenLine → KeptMachine → KeptMachine → Type 0
IsLeft (lines.Turn name observer) was left = AreLeft name observer was.apps left.apps × (left.server ≡ was.server)
IsLeft line was left = left ≡ was

-- what a watch's turn prints before the item that it is still
abbrev pub changed_items : List TableSchema → List ℕ → List ℕ → ℕ → Option (ℕ × Parent) → Item → List Item
changed_items tables app name to None still = still ∷ []
changed_items tables app name to (Some changed) still = items.Emit app name changed.0 (given_parent (table_at tables to) changed.1) ∷ still ∷ []
