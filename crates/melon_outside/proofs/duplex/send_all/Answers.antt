use Rattle.std.proofs.Common.{arith, ◌∙◌}
use Rattle.std.proofs.lemmas.Grind.{common_steps}
use Rattle.melon_outside.proofs.Chains.{front_grows}
use Rattle.melon_outside.proofs.duplex.send_all.Goals as goal

pub loop-done-preserved : goal.loop-done-preserved
loop-done-preserved g c = record {
  within = grind (arith, common_steps);
  front = front_grows _ _ _ c.args.bytes.now c.loop-done.done c.in_ok-done.field-0 c.loop-done.invariant.front c.in_ok-done.ensures.bytes.1;
  kept = c.write.ensures.kept ∙ c.loop-done.invariant.kept;
  later = omega arith;
  sound = λ h. c.write.ensures.sound_stays (c.loop-done.invariant.sound h);
}
