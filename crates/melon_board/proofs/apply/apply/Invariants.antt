use Rattle.std.specs.Vec.Iter.{into_iter_items}
use Rattle.melon_board.proofs.Applied.{Applying}
use Rattle.melon_board.proofs.apply.apply.Given as goal

abbrev pub invariant-loop-row : goal.invariant-loop-row
invariant-loop-row l = Applying l.fn.tables l.fn.changes l.tables l.left (into_iter_items l.row-iterator)
