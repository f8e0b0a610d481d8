use Rattle.melon_views.proofs.Histories.{first_due, none_due}
use Rattle.melon_views.proofs.laws.emissions_are_due.Goals as goal

pub returns-clause-first : goal.returns-clause-first
returns-clause-first c = first_due

pub returns-clause-none : goal.returns-clause-none
returns-clause-none c = none_due
