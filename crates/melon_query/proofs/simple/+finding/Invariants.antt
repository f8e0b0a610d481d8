use Rattle.std.proofs.Common.{◌≡◌, drop}
use Rattle.melon_query.specs.Simple.{one_has_on}
use Rattle.melon_query.proofs.simple.+finding.Given as goal

abbrev pub invariant-one_has_on-loop-cond : goal.invariant-one_has_on-loop-cond
invariant-one_has_on-loop-cond l = one_has_on (drop l.cond-index l.conds) ≡ one_has_on l.fn.conds
