use Rattle.melon_board.proofs.LaidOut.{none_laid}
use Rattle.melon_board.proofs.opening.none_opened.Goals as goal

pub returns-clause-so_far : goal.returns-clause-so_far
returns-clause-so_far c = none_laid c.args.schema.now.tables c.in_ok-new.field-0 c.in_ok-new.ensures.columns c.in_ok-new.ensures.rows
