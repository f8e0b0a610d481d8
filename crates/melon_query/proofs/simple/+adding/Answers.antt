use Rattle.std.proofs.Common.{◌∙◌, ◌+◌, List, ℕ, drop, ap}
use Rattle.melon_query.specs.Fresh.{all_ons}
use Rattle.melon_query.specs.Simple.{with_places}
use Rattle.melon_query.proofs.Ons.{places_more}
use Rattle.melon_query.proofs.simple.+adding.Goals as goal

pub with_all_tables-loop-cond-preserved : goal.with_all_tables-loop-cond-preserved
with_all_tables-loop-cond-preserved t c =
    ap (λ (places : List ℕ). with_places places (all_ons (drop (c.loop-cond.cond-index + 1) c.args.conds.now))) c.in_ok-places.ensures
    ∙ places_more c.loop-cond.places c.args.conds.now c.loop-cond.cond-index c.cond-item.result c.loop-cond-test.true c.cond-item.is
    ∙ c.loop-cond.invariant
