use Rattle.melon_log.proofs.Now.{pushed_row, unlisted}
use Rattle.melon_log.proofs.laws.row_follows_push.Goals as goal

pub returns-clause-follows : goal.returns-clause-follows
returns-clause-follows c = pushed_row

pub returns-clause-unlisted : goal.returns-clause-unlisted
returns-clause-unlisted c = unlisted
