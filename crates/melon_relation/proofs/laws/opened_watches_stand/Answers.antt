use Rattle.melon_relation.proofs.Histories.{opened_stand}
use Rattle.melon_relation.proofs.laws.opened_watches_stand.Goals as goal

pub returns : goal.returns
returns c = opened_stand
