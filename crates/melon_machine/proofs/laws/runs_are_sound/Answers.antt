use Rattle.melon_machine.proofs.Lasted.{runs_are_sound}
use Rattle.melon_machine.proofs.laws.runs_are_sound.Goals as goal

pub returns : goal.returns
returns c = runs_are_sound
