use Rattle.melon_push.proofs.Settled.{leaves_copies}
use Rattle.melon_push.proofs.laws.settled_leaves_copies.Goals as goal

pub returns : goal.returns
returns c = leaves_copies
