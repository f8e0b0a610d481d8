use Rattle.std.proofs.Common.{refl}
use Rattle.sqlite.specs.Held.{state}
use Rattle.melon_outside.specs.Kept.{with_value, valued}
use Rattle.melon_sqlite.proofs.Inside.{loop_start, loop_step}
use Rattle.melon_sqlite.proofs.batch.set_all.Goals as goal

pub loop-value-init : goal.loop-value-init
loop-value-init g c = loop_start valued with_value c.args.store.now c.args.values.now (state g.S.Store c.args.conn.now)

pub loop-value-preserved : goal.loop-value-preserved
loop-value-preserved g c =
    loop_step valued with_value c.args.store.now c.args.values.now (λ x more k. refl) c.loop-value.value-index c.value-item.result c.loop-value-test.true c.value-item.is
    (state g.S.Store c.args.conn.now) (state g.S.Store c.loop-value.conn) (state g.S.Store c.set.new.conn) c.loop-value.invariant c.in_default.ensures.moves c.set.ensures.safe
