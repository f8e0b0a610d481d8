use Rattle.melon_observe.proofs.Between.{Looking}
use Rattle.melon_observe.proofs.finding.first_on.Given as goal

abbrev pub invariant-loop-place : goal.invariant-loop-place
invariant-loop-place g l = Looking l.query l.shape l.board.entries l.at l.place l.initial.steps l.steps
