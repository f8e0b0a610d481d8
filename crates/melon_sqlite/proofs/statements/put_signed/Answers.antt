use Rattle.std.proofs.Common.{w64, rules}
use Rattle.std.proofs.lemmas.Int.{to_z-of_z}
use Rattle.melon_sqlite.proofs.statements.put_signed.Goals as goal

pub returns-clause-survives : goal.returns-clause-survives
returns-clause-survives g c = rw (c.params-to_sql.ensures, c.params-to_sql-2.ensures, c.params-to_sql-3.ensures, to_z-of_z w64 c.args.number (search rules)) at c.execute.ensures.survives
