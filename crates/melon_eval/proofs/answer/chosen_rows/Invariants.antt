use Rattle.std.proofs.Common.{◌≡◌, [], take, filter}
use Rattle.melon_query.specs.Fresh.{at_most}
use Rattle.melon_eval.specs.Seen.{rows_at}
use Rattle.melon_eval.specs.Planned.{planned}
use Rattle.melon_eval.proofs.Paging.{IsFront}
use Rattle.melon_eval.proofs.answer.chosen_rows.Given as goal

abbrev pub invariant-loop-i : goal.invariant-loop-i
invariant-loop-i g l = record {
  empty : l.scratch.members.items ≡ [];
  front : IsFront l.most (filter (planned l.plan) (take l.i l.table.rows)) (rows_at l.chosen.items);
}
