use Rattle.melon_log.proofs.Last.{lasts}
use Rattle.melon_log.proofs.Told.{tells}
use Rattle.melon_log.proofs.laws.pull_tells_touched.Goals as goal

pub returns-clause-rows : goal.returns-clause-rows
returns-clause-rows c = tells

pub returns-clause-last : goal.returns-clause-last
returns-clause-last c = lasts
