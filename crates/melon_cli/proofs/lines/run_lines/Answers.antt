use Rattle.std.proofs.Common.{◌≡◌, ◌≤◌, ◌+◌, ◌∙◌, ℕ, [], Err, Some, length, ap, sym, subst, arith}
use Rattle.std.proofs.lemmas.Grind.{common_steps}
use Rattle.melon_outside.specs.SeenKeeper.{SeenKeeper}
use Rattle.melon_outside.proofs.SeenKeepers.{later_refl, later_more}
use Rattle.melon_cli.specs.Runs.{RunsTo, Pends}
use Rattle.melon_cli.proofs.Progress.{at_start, after_line, at_outside, stopped, cut_short, at_end, front_of}
use Rattle.melon_cli.proofs.lines.run_lines.Goals as goal

pub loop-rest-init : goal.loop-rest-init
loop-rest-init g c = record {
  progress = at_start c.args.script.now (g.K.Keeper.seen c.args.keeper.now) (g.W.Sink.written c.args.output.now) c.args.pending.now.items c.new-world.result (g.met.K.Keeper.ordered c.args.keeper.now) c.requires.none c.new-world.ensures;
  counted = omega arith;
  keeper_later = later_refl (g.K.Keeper.seen c.args.keeper.now);
  output_later = omega arith;
}

pub loop-rest-preserved : goal.loop-rest-preserved
loop-rest-preserved g c =
    let script = c.args.script.now in let old = g.K.Keeper.seen c.args.keeper.now in let before = g.W.Sink.written c.args.output.now in
    let mid = g.K.Keeper.seen c.loop-rest.keeper in let written = g.W.Sink.written c.loop-rest.output in
    let new = g.K.Keeper.seen c.take_line.new.keeper in let after = g.W.Sink.written c.take_line.new.output in let pending' = c.take_line.new.pending.items in
    let world' = c.take_line.new.world in let bytes = c.next_line.result.0.now in let later = c.next_line.result.1.now in
    record {
      progress = after_line script old before mid written c.loop-rest.pending.items c.loop-rest.world c.loop-rest.rest.now c.loop-rest.number c.loop-rest.invariant.progress bytes later c.next_line.ensures.line new world' after pending' c.in-Ok.ensures.line c.in-Ok.ensures.ok;
      counted = omega (arith, c.loop-rest.invariant.counted, c.next_line.ensures.shorter);
      keeper_later = later_more old mid new c.loop-rest.invariant.keeper_later c.take_line.ensures.keeper_later;
      output_later = omega (arith, c.loop-rest.invariant.output_later, c.take_line.ensures.output_later);
    }

pub returns-in-Err-Outside-clause-bad_script : goal.returns-in-Err-Outside-clause-bad_script
returns-in-Err-Outside-clause-bad_script g c = λ line is.
    let script = c.args.script.now in let old = g.K.Keeper.seen c.args.keeper.now in let before = g.W.Sink.written c.args.output.now in
    let mid = g.K.Keeper.seen c.loop-rest.keeper in let written = g.W.Sink.written c.loop-rest.output in
    let new = g.K.Keeper.seen c.take_line.new.keeper in let after = g.W.Sink.written c.take_line.new.output in let pending' = c.take_line.new.pending.items in
    let world' = c.take_line.new.world in let bytes = c.next_line.result.0.now in let later = c.next_line.result.1.now in
    let outside = c.in-Err-Outside.ensures.outside (ap Err c.in-Err-Outside.field-0-is) in
    let p = at_outside script old before mid written c.loop-rest.pending.items c.loop-rest.world c.loop-rest.rest.now c.loop-rest.number c.loop-rest.invariant.progress bytes later c.next_line.ensures.line new after pending' outside.0 outside.1 in
    let same_keeper = ap g.K.Keeper.seen (sym outside.2) in
    let same : c.loop-rest.number + 1 ≡ line = cc in
    (p.0 ∙ ap Some same, subst (λ (s : SeenKeeper). RunsTo script old s [] (Pends before after pending')) same_keeper p.1)

pub returns-in-Err-Outside-clause-front : goal.returns-in-Err-Outside-clause-front
returns-in-Err-Outside-clause-front g c = λ _.
    let script = c.args.script.now in let old = g.K.Keeper.seen c.args.keeper.now in let before = g.W.Sink.written c.args.output.now in
    let mid = g.K.Keeper.seen c.loop-rest.keeper in let written = g.W.Sink.written c.loop-rest.output in
    let new = g.K.Keeper.seen c.take_line.new.keeper in let after = g.W.Sink.written c.take_line.new.output in let pending' = c.take_line.new.pending.items in
    let world' = c.take_line.new.world in let bytes = c.next_line.result.0.now in let later = c.next_line.result.1.now in
    let outside = c.in-Err-Outside.ensures.outside (ap Err c.in-Err-Outside.field-0-is) in
    let p = at_outside script old before mid written c.loop-rest.pending.items c.loop-rest.world c.loop-rest.rest.now c.loop-rest.number c.loop-rest.invariant.progress bytes later c.next_line.ensures.line new after pending' outside.0 outside.1 in
    let same_keeper = ap g.K.Keeper.seen (sym outside.2) in
    front_of script old before new after pending' [] (subst (λ (s : SeenKeeper). RunsTo script old s [] (Pends before after pending')) same_keeper p.1)

pub returns-in-Err-Memory-clause-front : goal.returns-in-Err-Memory-clause-front
returns-in-Err-Memory-clause-front g c = λ _.
    let script = c.args.script.now in let old = g.K.Keeper.seen c.args.keeper.now in let before = g.W.Sink.written c.args.output.now in
    let mid = g.K.Keeper.seen c.loop-rest.keeper in let written = g.W.Sink.written c.loop-rest.output in
    let new = g.K.Keeper.seen c.take_line.new.keeper in let after = g.W.Sink.written c.take_line.new.output in let pending' = c.take_line.new.pending.items in
    let world' = c.take_line.new.world in let bytes = c.next_line.result.0.now in let later = c.next_line.result.1.now in
    let none = ap Err c.in-Err-Memory.field-0-is in
    stopped script old before mid written c.loop-rest.pending.items c.loop-rest.world c.loop-rest.rest.now c.loop-rest.number c.loop-rest.invariant.progress bytes later c.next_line.ensures.line new world' after pending' (c.in-Err-Memory.ensures.untouched none) (c.in-Err-Memory.ensures.memory none)

pub returns-in-Err-Failed-clause-write_fault : goal.returns-in-Err-Failed-clause-write_fault
returns-in-Err-Failed-clause-write_fault g c = λ _.
    let script = c.args.script.now in let old = g.K.Keeper.seen c.args.keeper.now in let before = g.W.Sink.written c.args.output.now in
    let mid = g.K.Keeper.seen c.loop-rest.keeper in let written = g.W.Sink.written c.loop-rest.output in
    let new = g.K.Keeper.seen c.take_line.new.keeper in let after = g.W.Sink.written c.take_line.new.output in let pending' = c.take_line.new.pending.items in
    let world' = c.take_line.new.world in let bytes = c.next_line.result.0.now in let later = c.next_line.result.1.now in
    let failed = ap Err c.in-Err-Failed.field-0-is in
    let taken = c.in-Err-Failed.ensures.failed failed in (
      omega (arith, c.loop-rest.invariant.output_later, c.in-Err-Failed.ensures.cause failed),
      cut_short script old before mid written c.loop-rest.pending.items c.loop-rest.world c.loop-rest.rest.now c.loop-rest.number c.loop-rest.invariant.progress bytes later c.next_line.ensures.line new world' after taken.0 taken.1,
    )

pub returns-clause-done : goal.returns-clause-done
returns-clause-done g c = λ _.
    let script = c.args.script.now in let old = g.K.Keeper.seen c.args.keeper.now in let before = g.W.Sink.written c.args.output.now in
    let none : length c.loop-rest.rest.now ≡ 0 = grind (arith, common_steps) in
    at_end script old before (g.K.Keeper.seen c.loop-rest.keeper) (g.W.Sink.written c.loop-rest.output) c.loop-rest.pending.items c.loop-rest.world c.loop-rest.rest.now c.loop-rest.number c.loop-rest.invariant.progress none

pub returns-clause-front : goal.returns-clause-front
returns-clause-front g c = λ _.
    let script = c.args.script.now in let old = g.K.Keeper.seen c.args.keeper.now in let before = g.W.Sink.written c.args.output.now in
    let none : length c.loop-rest.rest.now ≡ 0 = grind (arith, common_steps) in
    let end = at_end script old before (g.K.Keeper.seen c.loop-rest.keeper) (g.W.Sink.written c.loop-rest.output) c.loop-rest.pending.items c.loop-rest.world c.loop-rest.rest.now c.loop-rest.number c.loop-rest.invariant.progress none in
    front_of script old before (g.K.Keeper.seen c.loop-rest.keeper) (g.W.Sink.written c.loop-rest.output) c.loop-rest.pending.items _ end.1
