use Rattle.melon_views.specs.Laws.{NoneTouches}
use Rattle.melon_observe.proofs.reloading.Reloading.is_touched.Given as goal

abbrev pub invariant-loop-place : goal.invariant-loop-place
invariant-loop-place g l = NoneTouches l.self.query l.board.entries l.self.at l.place
