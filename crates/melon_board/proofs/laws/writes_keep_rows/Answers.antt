use Rattle.melon_board.proofs.KeptOn.{writes, installs, saves}
use Rattle.melon_board.proofs.laws.writes_keep_rows.Goals as goal

pub returns-clause-written : goal.returns-clause-written
returns-clause-written c = writes

pub returns-clause-installed : goal.returns-clause-installed
returns-clause-installed c = installs

pub returns-clause-saved : goal.returns-clause-saved
returns-clause-saved c = saves
