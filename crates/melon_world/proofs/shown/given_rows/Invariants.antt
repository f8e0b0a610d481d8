use Rattle.std.proofs.Common.{◌≡◌, ◌++◌, map}
use Rattle.std.specs.Vec.Iter.{into_iter_items}
use Rattle.melon_machine.specs.Showing.{given_row}
use Rattle.melon_world.proofs.shown.given_rows.Given as goal

abbrev pub invariant-loop-row : goal.invariant-loop-row
invariant-loop-row l = l.given ++ map (given_row l.columns l.places) (into_iter_items l.row-iterator) ≡ map (given_row l.columns l.places) l.fn.rows
