use Rattle.std.proofs.Common.{◌≡◌, ◌++◌, drop}
use Rattle.melon_query.specs.Limits.{all_nodes}
use Rattle.melon_query.specs.Counting.{seen_nodes}
use Rattle.melon_query.proofs.limits.+counting.Given as goal

abbrev pub invariant-count_each-loop-part : goal.invariant-count_each-loop-part
invariant-count_each-loop-part l = seen_nodes l.counted.items ++ all_nodes (drop l.part-index l.parts) ≡ seen_nodes l.fn.counted.items ++ all_nodes l.fn.parts
