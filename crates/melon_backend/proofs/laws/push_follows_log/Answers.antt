use Rattle.melon_backend.proofs.Stood.{verdict_is, push_follows}
use Rattle.melon_backend.proofs.laws.push_follows_log.Goals as goal

pub returns-clause-verdict : goal.returns-clause-verdict
returns-clause-verdict c = verdict_is

pub returns-clause-follows : goal.returns-clause-follows
returns-clause-follows c = push_follows
