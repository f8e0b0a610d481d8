use Rattle.std.proofs.Common.{subst}
use Rattle.melon_schema.specs.Faults.{Gives}
use Rattle.melon_log.specs.declared.fault.AskFault.TheVariants.{Memory}
use Rattle.melon_backend.proofs.Stood.{pull_is}
use Rattle.melon_backend.proofs.backend.Backend.pull.Goals as goal

pub returns-clause-log : goal.returns-clause-log
returns-clause-log c = λ log stands. subst (λ form. Gives Memory c.tell.result form) (pull_is log c.args.self.now c.args.ask.now.last stands) c.tell.ensures
