use Rattle.sqlite.specs.Held.{state}
use Rattle.melon_sqlite.proofs.Deletes.{does_remove}
use Rattle.melon_sqlite.proofs.statements.remove_row.Goals as goal

pub returns-clause-does : goal.returns-clause-does
returns-clause-does g c clean =
    does_remove (state g.S.Store c.args.conn.now) (state g.S.Store c.execute.new.self) c.args.store.now c.args.table.now c.args.id.now c.execute.result
    (rw (c.params-to_sql.ensures, c.params-to_sql-2.ensures, c.params-to_sql-3.ensures) at (c.execute.ensures.runs clean))
