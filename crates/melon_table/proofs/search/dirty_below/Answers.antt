use Rattle.std.proofs.Common.{◌≡◌, ℕ, List, ◌+◌, ◌-◌, ◌/◌, true, false, sym, ap, ◌∙◌, arith}
use Rattle.std.specs.Ordering.{is_lt}
use Rattle.melon_raw.specs.Order.{is_below}
use Rattle.melon_table.specs.Dirty.{dirty_rows}
use Rattle.melon_table.proofs.DirtyBelow.{dirty_ascend, cut_right, cut_left, below_count}
use Rattle.melon_table.proofs.search.dirty_below.Goals as goal

pub loop-low-preserved-then-is_lt : goal.loop-low-preserved-then-is_lt
loop-low-preserved-then-is_lt g c =
    let rows = c.args.rows.now.rows in
    let id = c.args.id.now in
    let m = c.loop-low.low + (c.loop-low.high - c.loop-low.low) / 2 in
    let less : is_below c.dirty_at-row.result.now.id id ≡ true = ap (λ (i : List ℕ). is_below i id) (sym c.as_str.ensures) ∙ (ap is_lt (sym c.cmp.ensures) ∙ (sym c.is_lt.ensures ∙ c.if-is_lt.true)) in
    cut_right id (dirty_rows rows) c.loop-low.low c.loop-low.high m c.dirty_at-row.result.now (dirty_ascend rows c.requires) c.dirty_at-row.ensures.row c.loop-low.invariant less (omega (arith, c.loop-low-test.true))

pub loop-low-preserved : goal.loop-low-preserved
loop-low-preserved g c =
    let rows = c.args.rows.now.rows in
    let id = c.args.id.now in
    let m = c.loop-low.low + (c.loop-low.high - c.loop-low.low) / 2 in
    let more : is_below c.dirty_at-row.result.now.id id ≡ false = ap (λ (i : List ℕ). is_below i id) (sym c.as_str.ensures) ∙ (ap is_lt (sym c.cmp.ensures) ∙ (sym c.is_lt.ensures ∙ c.if-is_lt.false)) in
    cut_left id (dirty_rows rows) c.loop-low.low c.loop-low.high m c.dirty_at-row.result.now (dirty_ascend rows c.requires) c.dirty_at-row.ensures.row c.loop-low.invariant more (omega arith) (omega (arith, c.loop-low-test.true))

pub returns : goal.returns
returns g c =
    let cut = c.loop-low.invariant in
    let same : c.loop-low.low ≡ c.loop-low.high = omega (arith, cut.ordered, c.loop-low-test.false) in
    sym (below_count c.args.id.now (dirty_rows c.args.rows.now.rows) c.loop-low.low (omega (arith, cut.within, same)) cut.before (λ i r high found. cut.from i r (omega (arith, high, same)) found))
