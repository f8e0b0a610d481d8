use Rattle.std.proofs.Common.{List, Some, take, filter, refl, ap, ◌∙◌}
use Rattle.std.proofs.lemmas.Result.{IfOk-weaker}
use Rattle.melon_query.specs.declared.query.SortKey.{SortKey}
use Rattle.melon_query.specs.Order.{in_order, comes_before}
use Rattle.melon_eval.specs.Seen.{rows_at}
use Rattle.melon_eval.specs.Pages.{page_of, ordered}
use Rattle.melon_eval.specs.Planned.{planned}
use Rattle.melon_eval.proofs.Paging.{ordered_already, page_limited}
use Rattle.melon_eval.proofs.answer.ordered_rows.Goals as goal

pub returns-then-is_empty : goal.returns-then-is_empty
returns-then-is_empty g c =
    IfOk-weaker c.chosen_rows.result _ _
    (λ rows is. ordered_already c.args.query.now (planned c.args.plan.now) c.args.table.now.rows (rows_at rows.items) c.limit.result (c.if-is_empty.ensures.0 refl) c.chosen_rows.ensures.ascending c.limit.ensures is)
    c.chosen_rows.ensures.rows

pub returns-in-Some : goal.returns-in-Some
returns-in-Some g c =
    let q = c.args.query.now in
    let passed = filter (planned c.args.plan.now) c.args.table.now.rows in
    IfOk-weaker c.first_rows.result _ _
    (λ rows is. ap (page_of q) (is ∙ ap (λ (keys : List SortKey). take c.in-Some.most (in_order (comes_before keys) passed)) c.as_slice-keys.ensures) ∙ page_limited q (Some c.in-Some.most) (in_order (comes_before q.sort) passed) c.in-Some.ensures)
    c.first_rows.ensures
