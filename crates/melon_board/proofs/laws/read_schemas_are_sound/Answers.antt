use Rattle.melon_board.proofs.Sounding.{read_sound}
use Rattle.melon_board.proofs.laws.read_schemas_are_sound.Goals as goal

pub returns : goal.returns
returns c = read_sound
