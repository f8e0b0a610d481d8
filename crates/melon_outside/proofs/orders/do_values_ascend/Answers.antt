use Rattle.std.proofs.Common.{sym, ◌∙◌}
use Rattle.std.proofs.lemmas.Cmp.{nat_list_cmp_total}
use Rattle.melon_outside.specs.Kept.{text_cmp, name_of}
use Rattle.melon_outside.proofs.Order.{ascends-next, none_ascend, not_below}
use Rattle.melon_outside.proofs.orders.do_values_ascend.Goals as goal

pub returns-in-Some : goal.returns-in-Some
returns-in-Some c =
    not_below text_cmp name_of nat_list_cmp_total c.loop-value.rest.now c.in-Some.value.now c.in-Some-first.next.now c.in-Some.later.now c.in-Some.ensures.cases.0 c.in-Some-first.ensures.value c.if-not-is_value_below.ensures
    ∙ c.loop-value.invariant ∙ sym (ascends-next text_cmp name_of nat_list_cmp_total c.args.values.now)

pub returns : goal.returns
returns c = none_ascend text_cmp name_of nat_list_cmp_total c.loop-value.rest.now c.in_default.ensures.cases ∙ c.loop-value.invariant ∙ sym (ascends-next text_cmp name_of nat_list_cmp_total c.args.values.now)
