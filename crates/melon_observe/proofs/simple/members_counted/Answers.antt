use Rattle.std.proofs.Common.{List, [], ◌∷◌, ◌++◌, map, filter, ap, ◌∙◌}
use Rattle.melon_query.specs.declared.shown.Shown.{Shown}
use Rattle.melon_query.specs.Shown.{shown_row}
use Rattle.melon_views.specs.Members.{chooses}
use Rattle.melon_observe.proofs.Keeping.{members_more}
use Rattle.melon_observe.proofs.simple.members_counted.Goals as goal

pub loop-i-preserved : goal.loop-i-preserved
loop-i-preserved g c =
    let columns = c.args.columns.now in
    let conds = c.args.query.now.conds in
    let row = c.row.result.now in
    c.in_ok-add_member.ensures
    ∙ (ap (λ (ms : List Shown). ms ++ map (shown_row columns) (filter (chooses conds) (row ∷ []))) c.loop-i.invariant
    ∙ members_more columns conds c.args.table.now.rows c.loop-i.i row c.row.ensures.row)
