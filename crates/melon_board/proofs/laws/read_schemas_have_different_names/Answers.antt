use Rattle.melon_board.proofs.Distinct.{read}
use Rattle.melon_board.proofs.laws.read_schemas_have_different_names.Goals as goal

pub returns : goal.returns
returns c = read
