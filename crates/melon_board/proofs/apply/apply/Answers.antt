use Rattle.std.proofs.Common.{List, ◌∷◌, Option, subst}
use Rattle.std.specs.Vec.Iter.{into_iter_items}
use Rattle.melon_raw.specs.declared.raw.Raw.{Raw}
use Rattle.melon_change.specs.declared.change.Change.{Change}
use Rattle.melon_board.proofs.Applied.{Applying, applied_more}
use Rattle.melon_board.proofs.apply.apply.Goals as goal

pub loop-row-preserved-in-Some-split_first : goal.loop-row-preserved-in-Some-split_first
loop-row-preserved-in-Some-split_first c =
    let start = c.args.tables.now in
    let all = c.args.changes.now in
    let tables = c.loop-row.tables in
    let change = c.in-Some-split_first.change.now in
    let later = c.in-Some-split_first.later.now in
    let so_far =
    subst (λ (rs : List (Option Raw)). Applying start all tables (change ∷ later) rs) c.in-Some.ensures.steps.0
    (subst (λ (cs : List Change). Applying start all tables cs (into_iter_items c.loop-row.row-iterator)) c.in-Some-split_first.ensures.cases.0 c.loop-row.invariant) in
    applied_more start all tables c.put_after.new.tables change later c.in-Some.row (into_iter_items c.next.new.self) so_far c.put_after.ensures.rows c.put_after.ensures.columns c.put_after.ensures.spare
