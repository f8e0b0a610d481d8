-- What holds of an open app's history and its observers, and of the server's log.
use Rattle.std.specs.Prelude.{◌≡◌, ◌≤◌, List, length, Option, Some, None}
use Rattle.std.specs.List.{AllByRecursion}
use Rattle.melon_backend.specs.Standing.{Stands}
use Rattle.melon_board.specs.Lasting.{IsWellFormed}
use Rattle.melon_board.specs.Stores.{Continues}
use Rattle.melon_views.specs.Laws.{Ascend}
use Rattle.melon_machine.specs.State.{App, KeptApp, Observer, Machine, KeptMachine, Server, store_of, apps_kept, server_kept, kept_of}

-- The journal is a legal history from the opening rows, which ascend, and no observer stands behind its end.
pub record IsLegalApp (app : App) : Type 0 where
  pub formed : IsWellFormed (store_of app)
  pub legal : Continues app.opening (store_of app)
  pub ascend : Ascend app.opening
  pub within : AllByRecursion (λ (o : Observer). o.at ≤ length app.entries) app.observers

abbrev pub AreLegal : List App → Type 0
AreLegal apps = AllByRecursion IsLegalApp apps

-- A server that has the log's rows now stands for the log.
abbrev pub IsLegalServer : Server → Type 0
IsLegalServer server = Stands server.log (server_kept server)

abbrev pub IsLegalIfOpen : Option Server → Type 0
IsLegalIfOpen None = Unit {0}
IsLegalIfOpen (Some server) = IsLegalServer server

-- Each app's history is legal, and so is the server.
pub record IsLegal (m : Machine) : Type 0 where
  pub apps : AreLegal m.apps
  pub server : IsLegalIfOpen m.server

-- The histories are legal, and this is how the code has the apps.
pub record AreKeptAs (apps : List App) (now : List KeptApp) : Type 0 where
  pub same : apps_kept apps ≡ now
  pub legal : AreLegal apps

-- The machine is legal, and this is how the code has it.
pub record IsKeptAs (m : Machine) (now : KeptMachine) : Type 0 where
  pub same : kept_of m ≡ now
  pub legal : IsLegal m
