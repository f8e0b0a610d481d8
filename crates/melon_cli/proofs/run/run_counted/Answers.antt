use Rattle.std.proofs.Common.{arith}
use Rattle.melon_cli.proofs.Progress.{whole, front_was_written, front_was_cut}
use Rattle.melon_cli.proofs.run.run_counted.Goals as goal

pub returns-in-Ok : goal.returns-in-Ok
returns-in-Ok g c =
    let before = g.W.Sink.written c.args.output.now in let between = g.W.Sink.written c.run_lines.new.output in let after = g.W.Sink.written c.flush.new.output in
    let old = g.K.Keeper.seen c.args.keeper.now in let new = g.K.Keeper.seen c.run_lines.new.keeper in
    let pending = c.run_lines.new.pending.items in let script = c.args.script.now in
    record {
      done = λ is. let p = c.run_lines.ensures.done is in (p.0, whole script old before new between after pending p.1 c.in-Ok.ensures.ok);
      bad_script = λ line is. let p = c.run_lines.ensures.bad_script line is in (p.0, whole script old before new between after pending p.1 c.in-Ok.ensures.ok);
      memory = λ is. front_was_written script old before new between after pending (c.run_lines.ensures.front c.in_default.not-WriteFault) c.in-Ok.ensures.ok;
      write_fault = λ is. absurd (c.in_default.not-WriteFault is);
      keeper_later = c.run_lines.ensures.keeper_later;
      output_later = omega (arith, c.run_lines.ensures.output_later, c.in-Ok.ensures.cause.later);
      words = c.run_lines.ensures.words;
      read_fault = c.run_lines.ensures.read_fault;
      too_long = c.run_lines.ensures.too_long;
    }

pub returns : goal.returns
returns g c =
    let before = g.W.Sink.written c.args.output.now in let between = g.W.Sink.written c.run_lines.new.output in let after = g.W.Sink.written c.flush.new.output in
    let old = g.K.Keeper.seen c.args.keeper.now in let new = g.K.Keeper.seen c.run_lines.new.keeper in
    let failed = c.in-Err.ensures in
    record {
      done = λ is. absurd cc;
      bad_script = λ line is. absurd cc;
      memory = λ is. absurd cc;
      write_fault = λ _. (
        omega (arith, c.run_lines.ensures.output_later, failed.cause.failed),
        front_was_cut c.args.script.now old before new between after c.run_lines.new.pending.items (c.run_lines.ensures.front c.in_default.not-WriteFault) failed.front,
      );
      keeper_later = c.run_lines.ensures.keeper_later;
      output_later = omega (arith, c.run_lines.ensures.output_later, failed.cause.later);
      words = λ is. cc;
      read_fault = λ is. cc;
      too_long = λ is. cc;
    }
