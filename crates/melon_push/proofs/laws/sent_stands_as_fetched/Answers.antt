use Rattle.melon_push.proofs.Sent.{stands_as_fetched}
use Rattle.melon_push.proofs.laws.sent_stands_as_fetched.Goals as goal

pub returns : goal.returns
returns c = stands_as_fetched
