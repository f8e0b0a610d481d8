use Rattle.melon_pull.proofs.Applied.{incoming_leaves}
use Rattle.melon_pull.proofs.laws.incoming_leaves_fates.Goals as goal

pub returns : goal.returns
returns c = incoming_leaves
