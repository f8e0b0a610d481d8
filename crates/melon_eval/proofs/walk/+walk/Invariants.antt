use Rattle.std.proofs.Common.{◌≡◌, ◌+◌, ◌*◌, length, drop, Some}
use Rattle.melon_eval.specs.Seen.{conds_at}
use Rattle.melon_eval.specs.Chosen.{seen_members}
use Rattle.melon_eval.specs.Offers.{some_offered}
use Rattle.melon_eval.specs.Trials.{seen_offers}
use Rattle.melon_eval.proofs.Walking.{tried, left_from}
use Rattle.melon_eval.proofs.walk.+walk.Given as goal

abbrev pub decreases-some_offered : goal.decreases-some_offered
decreases-some_offered l = 2 * length l.offers.now

abbrev pub decreases-some_offered_with : goal.decreases-some_offered_with
decreases-some_offered_with l = 2 * length l.later.now + 1

abbrev pub invariant-some_offered-loop-row : goal.invariant-some_offered-loop-row
invariant-some_offered-loop-row l =
    (l.chosen.items ≡ l.fn.chosen.items)
    × (left_from (tried (conds_at l.conds) l.main (seen_members l.fn.chosen.items) l.offer.table (seen_offers l.later)) (drop l.row-index l.row-items) ≡ some_offered (conds_at l.conds) l.main (seen_members l.fn.chosen.items) (seen_offers l.fn.offers))
