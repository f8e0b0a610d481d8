-- Observers that stand on a history.
use Rattle.std.specs.Prelude.{◌≡◌, ℕ, ◌≤◌, length}
use Rattle.melon_query.specs.declared.query.Query.{Query}
use Rattle.melon_change.specs.History.{History}
use Rattle.melon_views.specs.declared.emission.Shape.{Shape}
use Rattle.melon_views.specs.declared.emission.Emission.{Emission}
use Rattle.melon_views.specs.declared.emission.Turn.{Turn}
use Rattle.melon_views.specs.declared.emission.Turn.TheVariants.{Emit, Still}
use Rattle.melon_views.specs.Views.{view}

-- what contracts see of an observer: what it watches, its position, and what it keeps
pub record Observed : Type 0 where
  pub query : Query
  pub shape : Shape
  pub at : ℕ
  pub kept : Emission

-- The position is at most the history's length, and what is kept is the view there.
pub record Stands (h : History) (o : Observed) : Type 0 where
  pub within : o.at ≤ length h.entries
  pub keeps : o.kept ≡ view o.query o.shape h o.at

-- the observer after a turn
abbrev pub moved : Turn → Observed → Observed
moved (Emit n e) o = record { query = o.query; shape = o.shape; at = n; kept = e }
moved (Still n) o = record { query = o.query; shape = o.shape; at = n; kept = o.kept }
