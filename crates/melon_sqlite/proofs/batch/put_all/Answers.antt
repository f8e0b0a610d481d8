use Rattle.std.proofs.Common.{refl}
use Rattle.sqlite.specs.Held.{state}
use Rattle.melon_outside.specs.Kept.{with_row, filled}
use Rattle.melon_sqlite.proofs.Inside.{loop_start, loop_step}
use Rattle.melon_sqlite.proofs.batch.put_all.Goals as goal

pub loop-row-init : goal.loop-row-init
loop-row-init g c = loop_start filled with_row c.args.store.now c.args.rows.now (state g.S.Store c.args.conn.now)

pub loop-row-preserved : goal.loop-row-preserved
loop-row-preserved g c =
    loop_step filled with_row c.args.store.now c.args.rows.now (λ x more k. refl) c.loop-row.row-index c.row-item.result c.loop-row-test.true c.row-item.is
    (state g.S.Store c.args.conn.now) (state g.S.Store c.loop-row.conn) (state g.S.Store c.put.new.conn) c.loop-row.invariant c.in_default.ensures.moves c.put.ensures.safe
