use Rattle.melon_pull.proofs.Applied.{incoming_once}
use Rattle.melon_pull.proofs.laws.twice_is_once.Goals as goal

pub returns : goal.returns
returns c = incoming_once
