use Rattle.std.proofs.Common.{sym, ◌∙◌}
use Rattle.melon_outside.specs.Kept.{key_cmp, key_of}
use Rattle.melon_outside.proofs.Order.{ascends-next, none_ascend, not_below}
use Rattle.melon_outside.proofs.Places.{key_total}
use Rattle.melon_outside.proofs.orders.do_rows_ascend.Goals as goal

pub returns-in-Some : goal.returns-in-Some
returns-in-Some c =
    not_below key_cmp key_of key_total c.loop-row.rest.now c.in-Some.row.now c.in-Some-first.next.now c.in-Some.later.now c.in-Some.ensures.cases.0 c.in-Some-first.ensures.value c.if-not-is_row_below.ensures
    ∙ c.loop-row.invariant ∙ sym (ascends-next key_cmp key_of key_total c.args.rows.now)

pub returns : goal.returns
returns c = none_ascend key_cmp key_of key_total c.loop-row.rest.now c.in_default.ensures.cases ∙ c.loop-row.invariant ∙ sym (ascends-next key_cmp key_of key_total c.args.rows.now)
