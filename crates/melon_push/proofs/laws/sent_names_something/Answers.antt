use Rattle.melon_push.proofs.Sent.{sent_names}
use Rattle.melon_push.proofs.laws.sent_names_something.Goals as goal

pub returns : goal.returns
returns c = sent_names
