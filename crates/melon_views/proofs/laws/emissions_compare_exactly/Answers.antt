use Rattle.melon_views.proofs.Same.{is_same-Decides}
use Rattle.melon_views.proofs.laws.emissions_compare_exactly.Goals as goal

pub returns : goal.returns
returns c = is_same-Decides
