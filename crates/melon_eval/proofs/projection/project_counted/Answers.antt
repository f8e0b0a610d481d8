use Rattle.std.proofs.Common.{List, ℕ}
use Rattle.std.specs.Option.{option_map}
use Rattle.melon_raw.specs.Rows.{at_id}
use Rattle.melon_query.specs.Shown.{shown_row}
use Rattle.melon_eval.proofs.Projecting.{gathered_more}
use Rattle.melon_eval.proofs.projection.project_counted.Goals as goal

pub loop-id-preserved : goal.loop-id-preserved
loop-id-preserved g c =
    gathered_more (λ (id : List ℕ). option_map (shown_row c.args.columns.now) (at_id id c.args.table.now.rows)) c.args.ids.now c.loop-id.id-index c.id-item.result c.loop-id.all c.add_shown.new.all c.loop-id-test.true c.id-item.is c.in_ok-add_shown.ensures c.loop-id.invariant
