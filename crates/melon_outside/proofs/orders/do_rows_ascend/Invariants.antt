use Rattle.std.proofs.Common.{◌≡◌, length}
use Rattle.melon_outside.specs.Kept.{key_cmp, key_of}
use Rattle.melon_outside.proofs.Order.{next_ascends}
use Rattle.melon_outside.proofs.Places.{key_total}
use Rattle.melon_outside.proofs.orders.do_rows_ascend.Given as goal

abbrev pub invariant-loop-row : goal.invariant-loop-row
invariant-loop-row l = next_ascends key_cmp key_of key_total l.rest ≡ next_ascends key_cmp key_of key_total l.rows

abbrev pub decreases-loop-row : goal.decreases-loop-row
decreases-loop-row l = length l.rest
