use Rattle.melon_views.proofs.Histories.{entries_change}
use Rattle.melon_views.proofs.laws.entries_change_views.Goals as goal

pub returns : goal.returns
returns c = entries_change
