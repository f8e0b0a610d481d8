use Rattle.std.proofs.Common.{length, ◌-◌}
use Rattle.melon_observe.proofs.Going.{HasTurned}
use Rattle.melon_observe.proofs.turning.turn_until_still.Given as goal

abbrev pub invariant-loop-turns : goal.invariant-loop-turns
invariant-loop-turns g l = HasTurned l.board l.fn.observer l.observer l.turns.items l.fn.steps l.steps

abbrev pub decreases-loop-turns : goal.decreases-loop-turns
decreases-loop-turns g l = length l.board.entries - l.observer.at
