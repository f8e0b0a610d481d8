use Rattle.std.proofs.Common.{refl}
use Rattle.melon_push.proofs.Gathered.{more_gone}
use Rattle.melon_push.proofs.fetched.gather_gone.Goals as goal

pub loop-one-preserved : goal.loop-one-preserved
loop-one-preserved c = more_gone c.loop-one.all.items c.push.new.self.items _ c.args.gone.now c.loop-one.one-index c.one-item.result _ c.loop-one-test.true c.one-item.is c.in_ok-push.ensures.items refl c.loop-one.invariant
