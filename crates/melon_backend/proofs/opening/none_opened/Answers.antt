use Rattle.melon_backend.proofs.LaidOut.{none_laid}
use Rattle.melon_backend.proofs.opening.none_opened.Goals as goal

pub returns-clause-so_far : goal.returns-clause-so_far
returns-clause-so_far c = none_laid c.args.schema.now.tables c.in_ok-no_tables.field-0.items c.in_ok-no_tables.ensures.kept c.in_ok-no_tables.ensures.rows
