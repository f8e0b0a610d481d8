use Rattle.std.proofs.Common.{◌≡◌, ◌+◌, ◌-◌, ◌∷◌, List, take, drop, filter, ap, sym, ◌∙◌, arith}
use Rattle.melon_raw.specs.declared.raw.Raw.{Raw}
use Rattle.melon_query.specs.Order.{in_order, comes_before}
use Rattle.melon_eval.specs.Planned.{planned}
use Rattle.melon_eval.proofs.Steps.{splits_at}
use Rattle.melon_eval.proofs.select.first_rows.Goals as goal

pub loop-left-preserved : goal.loop-left-preserved
loop-left-preserved g c =
    let rows = c.args.table.now.rows in
    let left = c.loop-left.left in
    let one : left - 1 + 1 ≡ left = omega (arith, c.loop-left-test.true) in
    let kept = c.in_ok-keep_chosen.ensures in
    record {
      empty = kept.members;
      within = omega (arith, c.loop-left.invariant.within);
      kept =
          kept.kept (drop left rows) c.loop-left.invariant.kept
          ∙ ap (λ (rs : List Raw). take c.args.most (in_order (comes_before c.args.keys.now) (filter (planned c.args.plan.now) rs)))
          (sym (splits_at rows (left - 1) c.row-row.result.now c.row-row.ensures.row ∙ ap (λ n. c.row-row.result.now ∷ drop n rows) one));
    }
