use Rattle.std.proofs.Common.{refl}
use Rattle.sqlite.specs.Held.{state}
use Rattle.melon_outside.specs.Kept.{without_row, removed}
use Rattle.melon_sqlite.proofs.Inside.{loop_start, loop_step}
use Rattle.melon_sqlite.proofs.batch.remove_all.Goals as goal

pub loop-key-init : goal.loop-key-init
loop-key-init g c = loop_start removed without_row c.args.store.now c.args.keys.now (state g.S.Store c.args.conn.now)

pub loop-key-preserved : goal.loop-key-preserved
loop-key-preserved g c =
    loop_step removed without_row c.args.store.now c.args.keys.now (λ x more k. refl) c.loop-key.key-index c.key-item.result c.loop-key-test.true c.key-item.is
    (state g.S.Store c.args.conn.now) (state g.S.Store c.loop-key.conn) (state g.S.Store c.remove.new.conn) c.loop-key.invariant c.in_default.ensures.moves c.remove.ensures.safe
