use Rattle.std.proofs.Common.{◌≡◌, ◌≤◌, [], take, drop, filter, length}
use Rattle.melon_query.specs.Order.{in_order, comes_before}
use Rattle.melon_eval.specs.Seen.{rows_at}
use Rattle.melon_eval.specs.Planned.{planned}
use Rattle.melon_eval.proofs.select.first_rows.Given as goal

abbrev pub invariant-loop-left : goal.invariant-loop-left
invariant-loop-left g l = record {
  empty : l.scratch.members.items ≡ [];
  within : l.left ≤ length l.table.rows;
  kept : rows_at l.kept.items ≡ take l.most (in_order (comes_before l.keys) (filter (planned l.plan) (drop l.left l.table.rows)));
}

abbrev pub decreases-loop-left : goal.decreases-loop-left
decreases-loop-left g l = l.left
