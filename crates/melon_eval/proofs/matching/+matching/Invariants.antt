use Rattle.std.proofs.Common.{◌≡◌, drop}
use Rattle.melon_query.specs.Meaning.{all_hold, some_holds}
use Rattle.melon_eval.specs.Chosen.{tuple_of}
use Rattle.melon_eval.proofs.matching.+matching.Given as goal

abbrev pub invariant-all_hold-loop-cond : goal.invariant-all_hold-loop-cond
invariant-all_hold-loop-cond l = all_hold (drop l.cond-index l.conds) (tuple_of l.row l.members) ≡ all_hold l.fn.conds (tuple_of l.row l.members)

abbrev pub invariant-some_holds-loop-cond : goal.invariant-some_holds-loop-cond
invariant-some_holds-loop-cond l = some_holds (drop l.cond-index l.conds) (tuple_of l.row l.members) ≡ some_holds l.fn.conds (tuple_of l.row l.members)
