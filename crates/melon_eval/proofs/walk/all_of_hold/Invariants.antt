use Rattle.std.proofs.Common.{◌≡◌, drop}
use Rattle.melon_query.specs.Meaning.{all_hold}
use Rattle.melon_eval.specs.Seen.{conds_at}
use Rattle.melon_eval.specs.Chosen.{tuple_of}
use Rattle.melon_eval.proofs.walk.all_of_hold.Given as goal

abbrev pub invariant-loop-cond : goal.invariant-loop-cond
invariant-loop-cond l = all_hold (conds_at (drop l.cond-index l.conds)) (tuple_of l.row l.members) ≡ all_hold (conds_at l.conds) (tuple_of l.row l.members)
