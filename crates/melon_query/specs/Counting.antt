-- What was counted of a query's conditions.
use Rattle.std.specs.Prelude.{ℕ, List, map}
use Rattle.std.specs.Option.{option_copied}
use Rattle.std.specs.Borrow.{Bor}
use Rattle.melon_query.specs.Limits.{Node}
use Rattle.melon_query.specs.declared.limits.Counted.{Counted}

abbrev pub seen_node : Counted → Node
seen_node n = record { values = n.values; table = option_copied n.table }

abbrev pub seen_nodes : List Counted → List Node
seen_nodes ns = map seen_node ns

abbrev pub seen_names : List (Bor (List ℕ)) → List (List ℕ)
seen_names names = map (λ n. n.now) names
