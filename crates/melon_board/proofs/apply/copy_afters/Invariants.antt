use Rattle.std.proofs.Common.{◌≡◌, take}
use Rattle.melon_board.specs.Boards.{afters}
use Rattle.melon_board.proofs.apply.copy_afters.Given as goal

abbrev pub invariant-loop-change : goal.invariant-loop-change
invariant-loop-change l = l.rows ≡ afters (take l.change-index l.changes)
