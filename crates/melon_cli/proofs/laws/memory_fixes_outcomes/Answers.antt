use Rattle.melon_cli.proofs.Fixed.{fixed, none_fails}
use Rattle.melon_cli.proofs.laws.memory_fixes_outcomes.Goals as goal

pub returns : goal.returns
returns c = record { fixed = fixed; none_fails = none_fails }
