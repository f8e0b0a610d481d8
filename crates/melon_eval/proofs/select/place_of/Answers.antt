use Rattle.std.proofs.Common.{Bor, rules}
use Rattle.std.proofs.lemmas.List.Sorted.{IsPartitionPoint-from_clause}
use Rattle.melon_raw.specs.declared.raw.Raw.{Raw}
use Rattle.melon_query.specs.Order.{comes_before}
use Rattle.melon_eval.proofs.select.place_of.Goals as goal

pub returns-clause-place : goal.returns-clause-place
returns-clause-place c = λ apart.
    IsPartitionPoint-from_clause (λ (other : Bor Raw). comes_before c.args.keys.now other.now c.args.row.now) c.args.kept.now c.partition_point.result c.partition_point.ensures.partitioned apart (λ a r q k. search rules)
