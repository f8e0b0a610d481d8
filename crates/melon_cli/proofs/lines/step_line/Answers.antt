use Rattle.std.proofs.Common.{inr}
use Rattle.melon_script.specs.Seen.{seen}
use Rattle.melon_machine.specs.Step.{step}
use Rattle.melon_cli.proofs.Progress.{takes_step}
use Rattle.melon_cli.proofs.lines.step_line.Goals as goal

pub returns-in-Err-Memory-clause-memory : goal.returns-in-Err-Memory-clause-memory
returns-in-Err-Memory-clause-memory g c = λ is.
    inr (takes_step (λ m. step m (seen c.args.line.now)) c.args.world.now c.step.new.self (g.K.Keeper.seen c.args.keeper.now) (g.K.Keeper.seen c.step.new.keeper) c.in_ok-answer.answer (λ _. Unit {0}) c.in_ok-answer.ensures.met tt)
