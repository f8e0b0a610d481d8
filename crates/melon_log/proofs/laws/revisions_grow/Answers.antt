use Rattle.melon_log.proofs.Now.{grow}
use Rattle.melon_log.proofs.laws.revisions_grow.Goals as goal

pub returns-clause-grow : goal.returns-clause-grow
returns-clause-grow c = grow
