use Rattle.std.proofs.Common.{◌≡◌, drop}
use Rattle.melon_query.specs.Fresh.{all_ons}
use Rattle.melon_query.specs.Simple.{with_places}
use Rattle.melon_query.proofs.simple.+adding.Given as goal

abbrev pub invariant-with_all_tables-loop-cond : goal.invariant-with_all_tables-loop-cond
invariant-with_all_tables-loop-cond l = with_places l.places (all_ons (drop l.cond-index l.conds)) ≡ with_places l.fn.places (all_ons l.fn.conds)
