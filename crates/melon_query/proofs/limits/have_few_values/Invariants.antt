use Rattle.std.proofs.Common.{◌≡◌, drop, nat_le}
use Rattle.std.specs.List.{list_all}
use Rattle.melon_query.specs.Counting.{seen_nodes}
use Rattle.melon_query.proofs.limits.have_few_values.Given as goal

abbrev pub invariant-loop-one : goal.invariant-loop-one
invariant-loop-one l = list_all (λ n. nat_le n.values 1000) (seen_nodes (drop l.one-index l.counted)) ≡ list_all (λ n. nat_le n.values 1000) (seen_nodes l.counted)
