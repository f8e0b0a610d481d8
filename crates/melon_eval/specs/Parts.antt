-- The conditions of a query taken apart.
use Rattle.std.specs.Prelude.{◌≡◌, List, filter}
use Rattle.melon_query.specs.declared.query.Cond.{Cond}
use Rattle.melon_eval.specs.Asking.{asks_of, asks_nothing, asks_something}
use Rattle.melon_eval.specs.Seen.{seen_asks, conds_at}
use Rattle.melon_eval.specs.declared.asks.Parts.{Parts}

-- Those without an `on`, those with one, and what all `on`s ask.
pub record AreParts (conds : List Cond) (parts : Parts) : Type 0 where
  pub plain : conds_at parts.plain.items ≡ filter asks_nothing conds
  pub joining : conds_at parts.joining.items ≡ filter asks_something conds
  pub asks : seen_asks parts.asks.items ≡ asks_of conds
