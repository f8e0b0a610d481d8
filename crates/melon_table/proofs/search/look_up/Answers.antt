use Rattle.std.proofs.Common.{◌+◌, ◌-◌, ◌/◌, List, ℕ, refl, sym, subst, ap, ◌∙◌}
use Rattle.melon_raw.specs.Order.{id_cmp}
use Rattle.melon_table.proofs.Halving.{Kept, go_right, go_left, equal_ids, ascends_at}
use Rattle.melon_table.proofs.search.look_up.Goals as goal

pub loop-low-preserved-in-Less : goal.loop-low-preserved-in-Less
loop-low-preserved-in-Less g c =
    let rows = c.args.rows.now.rows in
    let id = c.args.id.now in
    let low = c.loop-low.low in
    let high = c.loop-low.high in
    let m = low + (high - low) / 2 in
    let less = ap (λ (i : List ℕ). id_cmp i id) (sym c.as_str.ensures) ∙ sym c.cmp.ensures ∙ c.in-Less.is in
    subst (λ now. Kept id rows (m + 1) high c.args.steps.now now) (sym c.at-row.ensures.cost)
    (go_right id rows low high c.args.steps.now c.loop-low.steps m c.at-row.result.now (ascends_at rows c.requires) c.loop-low-test.true refl c.at-row.ensures.row c.loop-low.invariant less)

pub loop-low-preserved : goal.loop-low-preserved
loop-low-preserved g c =
    let rows = c.args.rows.now.rows in
    let id = c.args.id.now in
    let low = c.loop-low.low in
    let high = c.loop-low.high in
    let m = low + (high - low) / 2 in
    let more = ap (λ (i : List ℕ). id_cmp i id) (sym c.as_str.ensures) ∙ sym c.cmp.ensures ∙ c.in-Greater.is in
    subst (λ now. Kept id rows low m c.args.steps.now now) (sym c.at-row.ensures.cost)
    (go_left id rows low high c.args.steps.now c.loop-low.steps m c.at-row.result.now (ascends_at rows c.requires) c.loop-low-test.true refl c.at-row.ensures.row c.loop-low.invariant more)

pub returns-in-Equal-clause-place : goal.returns-in-Equal-clause-place
returns-in-Equal-clause-place g c =
    (c.at-row.ensures.row, equal_ids _ _ (ap (λ (i : List ℕ). id_cmp i c.args.id.now) (sym c.as_str.ensures) ∙ sym c.cmp.ensures ∙ c.in-Equal.is))
