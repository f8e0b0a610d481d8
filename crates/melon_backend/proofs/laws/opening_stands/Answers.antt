use Rattle.melon_backend.proofs.Stood.{opening_stands}
use Rattle.melon_backend.proofs.KeptLogs.{opening_begins}
use Rattle.melon_backend.proofs.laws.opening_stands.Goals as goal

pub returns-clause-stands : goal.returns-clause-stands
returns-clause-stands c = opening_stands

pub returns-clause-begins : goal.returns-clause-begins
returns-clause-begins c = opening_begins
