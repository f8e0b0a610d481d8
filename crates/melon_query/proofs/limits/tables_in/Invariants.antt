use Rattle.std.proofs.Common.{◌≡◌, [], drop}
use Rattle.melon_query.specs.Limits.{tables_in}
use Rattle.melon_query.specs.Counting.{seen_nodes, seen_names}
use Rattle.melon_query.proofs.limits.tables_in.Given as goal

abbrev pub invariant-loop-one : goal.invariant-loop-one
invariant-loop-one l = tables_in (seen_names l.names.items) (seen_nodes (drop l.one-index l.counted)) ≡ tables_in [] (seen_nodes l.counted)
