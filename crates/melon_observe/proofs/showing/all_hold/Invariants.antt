use Rattle.std.proofs.Common.{◌≡◌, drop}
use Rattle.melon_query.specs.Tuples.{alone}
use Rattle.melon_query.specs.Meaning.{all_hold}
use Rattle.melon_observe.proofs.showing.all_hold.Given as goal

abbrev pub invariant-loop-cond : goal.invariant-loop-cond
invariant-loop-cond l = all_hold (drop l.cond-index l.conds) (alone l.row) ≡ all_hold l.conds (alone l.row)
