use Rattle.melon_relation.proofs.Histories.{grown_parents, grown_keep}
use Rattle.melon_relation.proofs.laws.grown_histories_keep_watching.Goals as goal

pub returns-clause-views : goal.returns-clause-views
returns-clause-views c = grown_parents

pub returns-clause-standing : goal.returns-clause-standing
returns-clause-standing c = grown_keep
