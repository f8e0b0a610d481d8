use Rattle.melon_change.proofs.Founded.{fits_found}
use Rattle.melon_push.proofs.lookup.row_within.Goals as goal

pub returns-clause-fits : goal.returns-clause-fits
returns-clause-fits c = fits_found c.row_in.result c.args.id.now c.of.result.now c.args.tables.now c.args.table c.row_in.ensures.found c.row_in.ensures.kept c.of.ensures
