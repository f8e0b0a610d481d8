-- What the machine knows of its apps and of its server. It is told for two kinds of each: one with its whole history, and one as the
-- code has it.
use Rattle.std.specs.Prelude.{ℕ, List, [], ◌∷◌, ◌++◌, length, map, codes, Option, None, option_map}
use Rattle.std.specs.List.{remove}
use Rattle.melon_raw.specs.Rows.{Rows}
use Rattle.melon_schema.specs.Seen.{SeenSchema}
use Rattle.melon_change.specs.declared.history.Entry.{Entry}
use Rattle.melon_change.specs.History.{History, replay}
use Rattle.melon_queue.specs.Seen.{SeenQueue}
use Rattle.melon_board.specs.Stores.{SeenStore}
use Rattle.melon_log.specs.Log.{Log, revision, server_rows}
use Rattle.melon_log.specs.ServerRows.{ServerRows}
use Rattle.melon_backend.specs.Backends.{SeenBackend}
use Rattle.melon_backend.specs.Standing.{opened_log}
use Rattle.melon_query.specs.declared.query.Query.{Query}
use Rattle.melon_views.specs.declared.emission.Shape.{Shape}
use Rattle.melon_views.specs.Views.{shown, view}
use Rattle.melon_views.specs.Standing.{Observed}
use Rattle.melon_relation.specs.declared.relation.Relation.{Relation}
use Rattle.melon_relation.specs.Relations.{parent_in}
use Rattle.melon_relation.specs.Watching.{Watched, parent_view}

-- ---- observers

-- what is watched: the answer of a query in a shape, or the row to which a row belongs
pub data Watch : Type 0 where
  Answer : Query → Shape → Watch
  Owner : Relation → Watch

-- an observer: its name, what it watches, and after how many entries it stands
pub record Observer : Type 0 where
  pub name : List ℕ
  pub watch : Watch
  pub at : ℕ

abbrev pub named : List ℕ → Watch → ℕ → Observer
named name watch at = record { name = name; watch = watch; at = at }

-- ---- apps

-- An open app: the rows with which it was opened, the entries since, the queue of its writers, and its observers in the order of
-- their opening. Its rows now are the replay.
pub record App : Type 0 where
  pub name : List ℕ
  pub schema : SeenSchema
  pub opening : Rows
  pub entries : List Entry
  pub last : ℕ
  pub queue : SeenQueue
  pub observers : List Observer

abbrev pub history_of : App → History
history_of app = record { opening = app.opening; entries = app.entries }

abbrev pub store_of : App → SeenStore
store_of app = record { name = app.name; schema = app.schema; rows = replay app.opening app.entries; entries = app.entries; last = app.last }

-- nobody has entered
abbrev pub no_writers : SeenQueue
no_writers = record { names = []; depth = 0 }

-- an app that was just opened begins a history of its own with the rows of its store
abbrev pub opened_as : SeenStore → App
opened_as s = record { name = s.name; schema = s.schema; opening = s.rows; entries = []; last = s.last; queue = no_writers; observers = [] }

-- after a write that leaves the store so, the history has its entries
abbrev pub grown_to : App → SeenStore → App
grown_to app s = record { name = app.name; schema = app.schema; opening = app.opening; entries = s.entries; last = app.last; queue = app.queue; observers = app.observers }

abbrev pub queued_to : App → SeenQueue → App
queued_to app q = record { name = app.name; schema = app.schema; opening = app.opening; entries = app.entries; last = app.last; queue = q; observers = app.observers }

abbrev pub observed_by : App → List Observer → App
observed_by app observers = record { name = app.name; schema = app.schema; opening = app.opening; entries = app.entries; last = app.last; queue = app.queue; observers = observers }

-- an observer that is opened now
abbrev pub watched_now : App → List ℕ → Watch → App
watched_now app name watch = observed_by app (app.observers ++ named name watch (length app.entries) ∷ [])

abbrev pub unwatched : App → ℕ → App
unwatched app place = observed_by app (remove app.observers place)

-- ---- apps as the code has them

-- what an observer keeps: what it showed last
pub data KeptWatch : Type 0 where
  Answers : Observed → KeptWatch
  Owns : Watched → KeptWatch

pub record KeptObserver : Type 0 where
  pub name : List ℕ
  pub watch : KeptWatch

abbrev pub kept_observer : List ℕ → KeptWatch → KeptObserver
kept_observer name watch = record { name = name; watch = watch }

-- the rows now in the place of the opening rows, and with each observer what it showed last
pub record KeptApp : Type 0 where
  pub store : SeenStore
  pub queue : SeenQueue
  pub observers : List KeptObserver

abbrev pub kept_app : SeenStore → SeenQueue → List KeptObserver → KeptApp
kept_app store queue observers = record { store = store; queue = queue; observers = observers }

-- what is shown of these rows after so many entries is kept
abbrev pub kept_now : ℕ → Rows → Watch → KeptWatch
kept_now at rows (Answer q s) = Answers (record { query = q; shape = s; at = at; kept = shown q s rows })
kept_now at rows (Owner r) = Owns (record { relation = r; at = at; kept = parent_in r rows })

-- what is shown after the first entries is kept
abbrev pub kept_at : History → ℕ → Watch → KeptWatch
kept_at h at (Answer q s) = Answers (record { query = q; shape = s; at = at; kept = view q s h at })
kept_at h at (Owner r) = Owns (record { relation = r; at = at; kept = parent_view r h at })

abbrev pub observer_kept : History → Observer → KeptObserver
observer_kept h o = kept_observer o.name (kept_at h o.at o.watch)

abbrev pub app_kept : App → KeptApp
app_kept app = kept_app (store_of app) app.queue (map (observer_kept (history_of app)) app.observers)

abbrev pub watched_on : KeptApp → List ℕ → Watch → KeptApp
watched_on a name watch = kept_app a.store a.queue (a.observers ++ kept_observer name (kept_now (length a.store.entries) a.store.rows watch) ∷ [])

-- ---- kinds of apps

-- how the machine sees an app
pub record Kind (A : Type 0) : Type 0 where
  pub store : A → SeenStore
  pub queue : A → SeenQueue
  pub observers : A → List (List ℕ)
  pub opened : SeenStore → A
  pub grown : A → SeenStore → A
  pub queued : A → SeenQueue → A
  pub watching : A → List ℕ → Watch → A
  pub dropped : A → ℕ → A

abbrev pub with_history : Kind App
with_history = record {
  store = store_of;
  queue = λ app. app.queue;
  observers = λ app. map (λ (o : Observer). o.name) app.observers;
  opened = opened_as;
  grown = grown_to;
  queued = queued_to;
  watching = watched_now;
  dropped = unwatched;
}

abbrev pub as_kept : Kind KeptApp
as_kept = record {
  store = λ a. a.store;
  queue = λ a. a.queue;
  observers = λ a. map (λ (o : KeptObserver). o.name) a.observers;
  opened = λ s. kept_app s no_writers [];
  grown = λ a s. kept_app s a.queue a.observers;
  queued = λ a q. kept_app a.store q a.observers;
  watching = watched_on;
  dropped = λ a place. kept_app a.store a.queue (remove a.observers place);
}

-- ---- the server

-- an open server: the log of the pushes that it accepted since its opening
pub record Server : Type 0 where
  pub schema : SeenSchema
  pub log : Log

-- the name under which its rows are kept
abbrev pub server_store : List ℕ
server_store = codes "backend"

-- a server that was just opened begins a log of its own with the rows that are kept
abbrev pub server_opened : SeenBackend → Server
server_opened b = record { schema = b.schema; log = opened_log b }

-- as the code has it, with its rows now in the place of the pushes
abbrev pub server_kept : Server → SeenBackend
server_kept s = record { name = server_store; schema = s.schema; rows = server_rows s.log; revision = revision s.log }

-- how the machine sees the server
pub record ServerKind (S : Type 0) : Type 0 where
  pub opened : SeenBackend → S
  pub schema : S → SeenSchema
  pub rows : S → ServerRows
  pub revision : S → ℕ

abbrev pub with_log : ServerKind Server
with_log = record {
  opened = server_opened;
  schema = λ s. s.schema;
  rows = λ s. server_rows s.log;
  revision = λ s. revision s.log;
}

abbrev pub with_rows : ServerKind SeenBackend
with_rows = record {
  opened = λ b. b;
  schema = λ b. b.schema;
  rows = λ b. b.rows;
  revision = λ b. b.revision;
}

-- ---- the machine

-- the open apps in the order of their opening, and the server where it is open
pub record State (A S : Type 0) : Type 0 where
  pub apps : List A
  pub server : Option S

abbrev pub Machine : Type 0
Machine = State App Server

-- as the code has it
abbrev pub KeptMachine : Type 0
KeptMachine = State KeptApp SeenBackend

abbrev pub apps_kept : List App → List KeptApp
apps_kept apps = map app_kept apps

abbrev pub server_if_kept : Option Server → Option SeenBackend
server_if_kept server = option_map server_kept server

abbrev pub kept_of : Machine → KeptMachine
kept_of m = record { apps = apps_kept m.apps; server = server_if_kept m.server }

abbrev pub none_open : {A S : Type 0} → State A S
none_open = record { apps = []; server = None }
