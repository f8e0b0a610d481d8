use Rattle.melon_sqlite.proofs.Makes.{rows_is, values_is}
use Rattle.melon_sqlite.proofs.laws.texts_define_the_tables.Goals as goal

pub returns-clause-rows : goal.returns-clause-rows
returns-clause-rows c = rows_is.2

pub returns-clause-values : goal.returns-clause-values
returns-clause-values c = values_is.2
