use Rattle.std.proofs.Common.{◌≡◌, drop}
use Rattle.melon_query.specs.Fresh.{all_ons, with_tables}
use Rattle.melon_eval.proofs.joined.+adding.Given as goal

abbrev pub invariant-add_all_tables-loop-cond : goal.invariant-add_all_tables-loop-cond
invariant-add_all_tables-loop-cond l = with_tables l.joined.items (all_ons (drop l.cond-index l.conds)) ≡ with_tables l.fn.joined.items (all_ons l.fn.conds)
