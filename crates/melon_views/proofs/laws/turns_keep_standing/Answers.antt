use Rattle.melon_views.proofs.Standings.{turns_keep}
use Rattle.melon_views.proofs.laws.turns_keep_standing.Goals as goal

pub returns : goal.returns
returns c = turns_keep
