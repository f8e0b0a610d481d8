use Rattle.melon_backend.proofs.Stood.{pull_is}
use Rattle.melon_backend.proofs.laws.pull_is_logs.Goals as goal

pub returns : goal.returns
returns c = pull_is
