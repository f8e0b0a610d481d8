use Rattle.melon_push.proofs.Settled.{is_allowed}
use Rattle.melon_push.proofs.laws.settled_is_allowed.Goals as goal

pub returns : goal.returns
returns c = is_allowed
