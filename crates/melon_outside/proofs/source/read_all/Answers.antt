use Rattle.std.proofs.Common.{arith}
use Rattle.melon_outside.proofs.Chains.{front_taken}
use Rattle.melon_outside.proofs.source.read_all.Goals as goal

pub loop-filled-preserved : goal.loop-filled-preserved
loop-filled-preserved g c = record {
  filled = c.in_ok-count.ensures.fits;
  within = c.in_ok-count.ensures.within;
  front = front_taken _ _ _ c.loop-filled.bytes.items c.read_more.new.bytes.items c.loop-filled.filled c.in_ok-count.count c.in_ok-count.ensures.front c.loop-filled.invariant.front c.in_ok-count.ensures.bytes;
  later = omega (arith, c.in_ok-count.ensures.cause.later, c.loop-filled.invariant.later);
}
