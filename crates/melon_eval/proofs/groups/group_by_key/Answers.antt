use Rattle.std.proofs.Common.{[], take, ◌∙◌, sym}
use Rattle.melon_eval.specs.Seen.{seen_asks}
use Rattle.melon_eval.specs.Grouped.{group_of, is_keyed}
use Rattle.melon_eval.proofs.Grouping.{kept_none, kept_more, nothing_under}
use Rattle.melon_eval.proofs.groups.group_by_key.Goals as goal

pub loop-i-init : goal.loop-i-init
loop-i-init g c = λ id. sym (nothing_under c.new-groups.result id c.new-groups.ensures.empty) ∙ kept_none (seen_asks c.args.asks.now) c.args.table []

pub loop-i-preserved : goal.loop-i-preserved
loop-i-preserved g c = λ id.
    kept_more (seen_asks c.args.asks.now) c.args.table (is_keyed c.args.place id) c.args.rows.now.rows c.loop-i.i c.row.result.now (group_of c.loop-i.groups id) (group_of c.add_row.new.groups id) c.row.ensures.row (c.in_ok-add_row.ensures id) (c.loop-i.invariant id)
