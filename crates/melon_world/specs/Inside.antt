-- What the fields of apps, observers and worlds stand for.
use Rattle.melon_machine.specs.State.{KeptApp, KeptObserver, kept_observer, KeptMachine, KeptWatch, Answers, Owns}
use Rattle.melon_world.specs.declared.observer.Watching.{Watching}
use Rattle.melon_world.specs.declared.observer.Watching.TheVariants.{Answer, Owner}
use Rattle.melon_world.specs.declared.observer.NamedObserver.TheInside as observer
use Rattle.melon_world.specs.declared.app.App.TheInside as app
use Rattle.melon_world.specs.declared.world.World.TheInside as world

abbrev pub watch_in : Watching → KeptWatch
watch_in (Answer observed) = Answers observed
watch_in (Owner watched) = Owns watched

abbrev pub observer_in : observer.Inside → KeptObserver
observer_in o = kept_observer o.name (watch_in o.watching)

abbrev pub app_in : app.Inside → KeptApp
app_in a = record { store = a.store; queue = a.queue; observers = a.observers.items }

abbrev pub world_in : world.Inside → KeptMachine
world_in w = record { apps = w.apps.items; server = w.server }
