use Rattle.melon_views.specs.Laws.{NoneMatters}
use Rattle.melon_observe.proofs.finding.first_in.Given as goal

abbrev pub invariant-loop-place : goal.invariant-loop-place
invariant-loop-place l = NoneMatters l.query l.shape l.tail 0 l.place
