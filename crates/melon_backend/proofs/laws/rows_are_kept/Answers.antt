use Rattle.melon_backend.proofs.KeptLogs.{push_keeps_log, kept_alike}
use Rattle.melon_backend.proofs.laws.rows_are_kept.Goals as goal

pub returns-clause-pushed : goal.returns-clause-pushed
returns-clause-pushed c = push_keeps_log

pub returns-clause-alike : goal.returns-clause-alike
returns-clause-alike c = kept_alike
