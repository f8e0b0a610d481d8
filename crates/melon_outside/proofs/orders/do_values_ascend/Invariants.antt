use Rattle.std.proofs.Common.{◌≡◌, length}
use Rattle.melon_outside.specs.Kept.{text_cmp, name_of}
use Rattle.melon_outside.proofs.Order.{next_ascends}
use Rattle.std.proofs.lemmas.Cmp.{nat_list_cmp_total}
use Rattle.melon_outside.proofs.orders.do_values_ascend.Given as goal

abbrev pub invariant-loop-value : goal.invariant-loop-value
invariant-loop-value l = next_ascends text_cmp name_of nat_list_cmp_total l.rest ≡ next_ascends text_cmp name_of nat_list_cmp_total l.values

abbrev pub decreases-loop-value : goal.decreases-loop-value
decreases-loop-value l = length l.rest
