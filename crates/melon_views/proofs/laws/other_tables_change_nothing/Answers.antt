use Rattle.melon_views.proofs.Reading.{others_change_nothing, untouched_views}
use Rattle.melon_views.proofs.laws.other_tables_change_nothing.Goals as goal

pub returns-clause-set : goal.returns-clause-set
returns-clause-set c = others_change_nothing

pub returns-clause-views : goal.returns-clause-views
returns-clause-views c = untouched_views
