use Rattle.melon_board.proofs.Continued.{opens, writes_on, installs_on}
use Rattle.melon_board.proofs.laws.journals_stay_legal.Goals as goal

pub returns-clause-opened : goal.returns-clause-opened
returns-clause-opened c = opens

pub returns-clause-written : goal.returns-clause-written
returns-clause-written c = writes_on

pub returns-clause-installed : goal.returns-clause-installed
returns-clause-installed c = installs_on
