-- What holds of the machine after every line of every script.
use Rattle.std.specs.Prelude.{◌≡◌, ◌≢◌, ℕ, List, [], ◌∷◌, map, Bool, true, Option, Some, None}
use Rattle.melon_outside.specs.Kept.{is_in_order}
use Rattle.melon_outside.specs.Keeping.{Stores}
use Rattle.melon_outside.specs.declared.kept.Kept.{Kept}
use Rattle.melon_board.specs.Keeps.{Keeps}
use Rattle.melon_board.specs.Lasting.{IsWellFormed}
use Rattle.melon_board.specs.Stores.{Continues, store_key}
use Rattle.melon_backend.specs.Keeps.{KeepsLog}
use Rattle.melon_machine.specs.State.{App, Machine, Server, server_store, store_of}
use Rattle.melon_machine.specs.Run.{run}

-- The app's journal is a legal history from its opening rows. What is kept of its store are the encodings of the replay, and the
-- store's values.
pub record IsSoundApp (app : App) (kept : Kept) : Type 0 where
  pub formed : IsWellFormed (store_of app)
  pub legal : Continues app.opening (store_of app)
  pub keeps : Keeps (store_of app) kept

-- the same of each app and what is kept under its name
abbrev pub AreSoundApps : List App → Stores → Type 0
AreSoundApps [] kept = Unit {0}
AreSoundApps (app ∷ apps) kept = IsSoundApp app (kept (store_key app.name)) × AreSoundApps apps kept

abbrev pub IsNotAmong : List ℕ → List (List ℕ) → Type 0
IsNotAmong name [] = Unit {0}
IsNotAmong name (other ∷ others) = (other ≢ name) × IsNotAmong name others

abbrev pub AreDifferent : List (List ℕ) → Type 0
AreDifferent [] = Unit {0}
AreDifferent (name ∷ names) = IsNotAmong name names × AreDifferent names

abbrev pub names_of : List App → List (List ℕ)
names_of apps = map (λ (a : App). a.name) apps

-- What is kept is in order, no two open apps have one name, and each is sound.
pub record AreSound (opened : List App) (kept : Stores) : Type 0 where
  pub ordered : (name : List ℕ) → is_in_order (kept name) ≡ true
  pub different : AreDifferent (names_of opened)
  pub apps : AreSoundApps opened kept

-- What is kept of the server are the bodies of its log's rows now, and its revision and version.
abbrev pub IsSoundServer : Server → Stores → Type 0
IsSoundServer server kept = KeepsLog server.log server.schema.version (kept server_store)

abbrev pub IsSoundIfOpen : Option Server → Stores → Type 0
IsSoundIfOpen None kept = Unit {0}
IsSoundIfOpen (Some server) kept = IsSoundServer server kept

-- The apps are sound, and so is the server where it is open.
pub record IsSound (m : Machine) (kept : Stores) : Type 0 where
  pub apps : AreSound m.apps kept
  pub server : IsSoundIfOpen m.server kept

-- Whatever the script and the outcomes of the keeper's calls, a run over what is kept in order ends so.
abbrev pub RunsAreSound : Type 0
RunsAreSound = (script : List ℕ) (kept : Stores) (outcomes : List Bool) → ((name : List ℕ) → is_in_order (kept name) ≡ true) → IsSound (run script kept outcomes).after (run script kept outcomes).kept
