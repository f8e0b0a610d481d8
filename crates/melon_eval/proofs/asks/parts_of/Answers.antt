use Rattle.melon_eval.proofs.Askings.{parts_more}
use Rattle.melon_eval.proofs.asks.parts_of.Goals as goal

pub loop-cond-preserved : goal.loop-cond-preserved
loop-cond-preserved c =
    let added = c.in_ok-add_cond.ensures in
    parts_more c.args.conds.now c.loop-cond.cond-index c.cond-item.result c.loop-cond.parts c.add_cond.new.parts c.loop-cond-test.true c.cond-item.is added.plain added.joining added.asks c.loop-cond.invariant
