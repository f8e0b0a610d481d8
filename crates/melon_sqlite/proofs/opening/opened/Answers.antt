use Rattle.sqlite.specs.Held.{state}
use Rattle.melon_sqlite.proofs.Opened.{opened_holds}
use Rattle.melon_sqlite.proofs.opening.opened.Goals as goal

pub returns-in-Ok-clause-holds : goal.returns-in-Ok-clause-holds
returns-in-Ok-clause-holds g c =
    opened_holds g.S.Store c.tested.result (state g.S.Store c.args.connection) (state g.S.Store c.in-Ok.conn) c.tested.ensures.tells c.tested.ensures.knows c.tested.ensures.found c.tested.ensures.clean c.in-Ok.ensures.kept
