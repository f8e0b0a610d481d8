use Rattle.melon_views.proofs.Standings.{grown_views, grown_keeps}
use Rattle.melon_views.proofs.laws.grown_histories_keep_standing.Goals as goal

pub returns-clause-views : goal.returns-clause-views
returns-clause-views c = grown_views

pub returns-clause-standing : goal.returns-clause-standing
returns-clause-standing c = grown_keeps
