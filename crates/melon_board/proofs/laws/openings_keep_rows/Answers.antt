use Rattle.melon_board.proofs.Reopened.{opens_kept}
use Rattle.melon_board.proofs.laws.openings_keep_rows.Goals as goal

pub returns : goal.returns
returns c = opens_kept
