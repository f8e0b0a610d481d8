use Rattle.sqlite.specs.Held.{state}
use Rattle.melon_sqlite.proofs.Deletes.{does_clear}
use Rattle.melon_sqlite.proofs.statements.clear_rows.Goals as goal

pub returns-clause-does : goal.returns-clause-does
returns-clause-does g c clean =
    does_clear (state g.S.Store c.args.conn.now) (state g.S.Store c.execute.new.self) c.args.store.now c.execute.result
    (rw (c.params-to_sql.ensures) at (c.execute.ensures.runs clean))
