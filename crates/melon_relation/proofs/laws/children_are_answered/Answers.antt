use Rattle.melon_relation.proofs.Answered.{answered}
use Rattle.melon_relation.proofs.laws.children_are_answered.Goals as goal

pub returns : goal.returns
returns c = answered
