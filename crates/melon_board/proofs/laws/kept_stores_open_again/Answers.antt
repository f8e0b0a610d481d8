use Rattle.melon_board.proofs.Again.{opens_again}
use Rattle.melon_board.proofs.laws.kept_stores_open_again.Goals as goal

pub returns : goal.returns
returns c = opens_again
