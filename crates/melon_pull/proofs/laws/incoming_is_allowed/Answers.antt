use Rattle.melon_pull.proofs.Applied.{incoming_allowed}
use Rattle.melon_pull.proofs.laws.incoming_is_allowed.Goals as goal

pub returns : goal.returns
returns c = incoming_allowed
