use Rattle.std.proofs.Common.{◌-◌, ◌≤◌, length, take, drop}
use Rattle.melon_table.specs.Late.{AreBefore, AreFrom}
use Rattle.melon_table.proofs.keys.late_before.Given as goal

abbrev pub invariant-loop-low : goal.invariant-loop-low
invariant-loop-low l = (l.low ≤ l.high) × (l.high ≤ length l.late) × AreBefore 0 l.place (take l.low l.late) × AreFrom l.high l.place (drop l.high l.late)

abbrev pub decreases-loop-low : goal.decreases-loop-low
decreases-loop-low l = l.high - l.low
