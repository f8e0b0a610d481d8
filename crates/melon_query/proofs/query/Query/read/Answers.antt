use Rattle.melon_query.proofs.SoundQueries.{given_sound}
use Rattle.melon_query.proofs.query.Query.read.Goals as goal

pub returns-clause-well_formed : goal.returns-clause-well_formed
returns-clause-well_formed c = given_sound c.args.schema.now.tables c.args.table.now c.in_ok-form.form c.query_in.result c.query_in.ensures
