use Rattle.melon_views.proofs.Turning.{turn_within, turns_follow, turns_show}
use Rattle.melon_views.proofs.laws.turns_go_on.Goals as goal

pub returns-clause-ahead : goal.returns-clause-ahead
returns-clause-ahead c = turn_within

pub returns-clause-follow : goal.returns-clause-follow
returns-clause-follow c = turns_follow

pub returns-clause-views : goal.returns-clause-views
returns-clause-views c = turns_show
