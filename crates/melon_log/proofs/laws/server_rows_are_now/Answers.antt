use Rattle.melon_log.proofs.Now.{are_now}
use Rattle.melon_log.proofs.laws.server_rows_are_now.Goals as goal

pub returns : goal.returns
returns c = are_now
