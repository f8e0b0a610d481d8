use Rattle.std.proofs.Common.{◌≡◌, ◌+◌}
use Rattle.melon_board.proofs.board.tick_all.Given as goal

abbrev pub invariant-loop : goal.invariant-loop
invariant-loop g l = l.steps ≡ l.initial.steps + l.counter
