use Rattle.sqlite.specs.Held.{state}
use Rattle.melon_sqlite.proofs.Puts.{does_put}
use Rattle.melon_sqlite.proofs.statements.put_row.Goals as goal

pub returns-clause-does : goal.returns-clause-does
returns-clause-does g c clean =
    does_put (state g.S.Store c.args.conn.now) (state g.S.Store c.execute.new.self) c.args.store.now c.args.table.now c.args.id.now c.args.body.now c.execute.result (rw (c.params-to_sql.ensures, c.params-to_sql-2.ensures, c.params-to_sql-3.ensures, c.params-to_sql-4.ensures) at (c.execute.ensures.runs clean))
