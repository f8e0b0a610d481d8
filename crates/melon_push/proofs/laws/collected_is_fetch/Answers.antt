use Rattle.melon_push.proofs.Collected.{collected_fetch}
use Rattle.melon_push.proofs.laws.collected_is_fetch.Goals as goal

pub returns : goal.returns
returns c = collected_fetch
