use Rattle.melon_change.proofs.Legal.{batches}
use Rattle.melon_change.proofs.laws.batches_are_legal.Goals as goal

pub returns : goal.returns
returns c = batches
