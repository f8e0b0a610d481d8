-- What contracts see of either kind of observer.
use Rattle.melon_views.specs.Standing.{Observed}
use Rattle.melon_observe.specs.declared.held.Held.{Held}
use Rattle.melon_observe.specs.declared.held.Held.TheVariants.{Simple, Reloading}

abbrev pub observed_by : Held → Observed
observed_by (Simple o) = o
observed_by (Reloading o) = o
