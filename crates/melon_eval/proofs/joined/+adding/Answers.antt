use Rattle.std.proofs.Common.{◌∙◌}
use Rattle.melon_eval.proofs.Joining.{tables_more}
use Rattle.melon_eval.proofs.joined.+adding.Goals as goal

pub add_all_tables-loop-cond-preserved : goal.add_all_tables-loop-cond-preserved
add_all_tables-loop-cond-preserved t c =
    tables_more c.loop-cond.joined.items c.add_tables.new.joined.items c.args.conds.now c.loop-cond.cond-index c.cond-item.result c.loop-cond-test.true c.cond-item.is c.in_ok-add_tables.ensures
    ∙ c.loop-cond.invariant
