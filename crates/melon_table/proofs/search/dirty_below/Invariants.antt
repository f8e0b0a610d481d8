use Rattle.std.proofs.Common.{◌-◌}
use Rattle.melon_table.specs.Dirty.{dirty_rows}
use Rattle.melon_table.proofs.DirtyBelow.{Cut}
use Rattle.melon_table.proofs.search.dirty_below.Given as goal

abbrev pub invariant-loop-low : goal.invariant-loop-low
invariant-loop-low g l = Cut l.id (dirty_rows l.rows.rows) l.low l.high

abbrev pub decreases-loop-low : goal.decreases-loop-low
decreases-loop-low g l = l.high - l.low
