-- What the fields of a watch stand for.
use Rattle.melon_relation.specs.declared.observer.ParentObserver.TheInside as observer
use Rattle.melon_relation.specs.Watching.{Watched}

abbrev pub watched_in : observer.Inside → Watched
watched_in o = record { relation = o.relation; at = o.at; kept = o.kept }
