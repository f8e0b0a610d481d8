use Rattle.melon_backend.proofs.Logged.{log_verdict, log_stands, log_keeps}
use Rattle.melon_backend.proofs.backend.Backend.push.Goals as goal

pub returns-clause-verdict : goal.returns-clause-verdict
returns-clause-verdict g c = λ log stands. log_verdict log c.args.self.now c.args.last c.args.changes.now stands c.accept.new.self c.accept.result c.accept.ensures.pushed

pub returns-clause-stands : goal.returns-clause-stands
returns-clause-stands g c = λ log stands. log_stands log c.args.self.now c.args.last c.args.changes.now stands c.requires c.accept.new.self c.accept.result c.accept.ensures.pushed

pub returns-clause-keeps : goal.returns-clause-keeps
returns-clause-keeps g c = λ log stands.
    log_keeps log c.args.self.now c.args.last c.args.changes.now stands c.requires (g.K.Keeper.seen c.args.keeper.now).holds (g.K.Keeper.seen c.accept.new.keeper).holds c.accept.new.self c.accept.result c.accept.ensures.pushed c.accept.ensures.keeper.kept
