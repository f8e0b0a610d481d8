use Rattle.std.proofs.Common.{inl, inr, subst, Option}
use Rattle.std.specs.Prelude.{Ok}
use Rattle.melon_script.specs.declared.line.Line.{Line}
use Rattle.melon_script.specs.Seen.{seen, ReadsLine}
use Rattle.melon_machine.specs.Run.{line_calls}
use Rattle.melon_cli.proofs.Progress.{takes_blank, takes_line, begins_nothing, begins_line}
use Rattle.melon_cli.proofs.lines.take_line.Goals as goal

pub returns-in-Ok-None-clause-ok : goal.returns-in-Ok-None-clause-ok
returns-in-Ok-None-clause-ok g c =
    takes_blank c.args.world.now c.args.bytes.now c.in-Ok-None.field-0 (g.K.Keeper.seen c.args.keeper.now) (g.W.Sink.written c.args.output.now) c.args.pending.now.items c.in-Ok-None.ensures c.in-Ok-None.field-0-is

pub returns-in-Ok-Some-clause-memory : goal.returns-in-Ok-Some-clause-memory
returns-in-Ok-Some-clause-memory g c = λ is.
    let read = subst (λ (r : Option Line). ReadsLine c.args.bytes.now (Ok r)) c.in-Ok-Some.field-0-is c.in-Ok-Some.ensures in
    let old = g.K.Keeper.seen c.args.keeper.now in let new = g.K.Keeper.seen c.step_line.new.keeper in
    elim (c.step_line.ensures.memory is) [
      | inl begun ↦ inl (begins_line c.args.world.now c.args.bytes.now c.in-Ok-Some.field-0 c.in-Ok-Some.line old new c.in-Ok-Some.ensures c.in-Ok-Some.field-0-is begun)
      | inr takes ↦ inr (
        inr (read.0, (seen c.in-Ok-Some.line, read.1)),
        takes_line c.args.world.now c.step_line.new.world c.args.bytes.now c.in-Ok-Some.field-0 c.in-Ok-Some.line old new (λ _. Unit {0}) c.in-Ok-Some.ensures c.in-Ok-Some.field-0-is takes,
      )
    ]

pub returns-in-Err-Memory-clause-memory : goal.returns-in-Err-Memory-clause-memory
returns-in-Err-Memory-clause-memory g c = λ is. inl (begins_nothing (λ m. line_calls m c.args.bytes.now) c.args.world.now (g.K.Keeper.seen c.args.keeper.now))
