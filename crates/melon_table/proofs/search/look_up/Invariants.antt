use Rattle.std.proofs.Common.{◌-◌}
use Rattle.melon_table.proofs.Halving.{Kept}
use Rattle.melon_table.proofs.search.look_up.Given as goal

abbrev pub invariant-loop-low : goal.invariant-loop-low
invariant-loop-low g l = Kept l.id l.rows.rows l.low l.high l.initial.steps l.steps

abbrev pub decreases-loop-low : goal.decreases-loop-low
decreases-loop-low g l = l.high - l.low
