use Rattle.sqlite.specs.Held.{state}
use Rattle.melon_outside.specs.Kept.{cleared_if, removed}
use Rattle.melon_sqlite.specs.Transactions.{NoCommit}
use Rattle.melon_sqlite.proofs.Inside.{moves_then, safe_then, earlier}
use Rattle.melon_sqlite.proofs.batch.remove_batch.Goals as goal

pub returns-clause-moves : goal.returns-clause-moves
returns-clause-moves g c clean =
    let a = state g.S.Store c.args.conn.now in
    let b = state g.S.Store c.clear_if.new.conn in
    let d = state g.S.Store c.remove_all.new.conn in
    moves_then (cleared_if c.args.batch.now.clear) (removed c.args.batch.now.removes) c.args.store.now a b d c.remove_all.result (c.in_default.ensures.moves (earlier b d (NoCommit b) c.remove_all.ensures.safe clean)) (rw c.as_slice.ensures at (c.remove_all.ensures.moves clean))

pub returns-clause-safe : goal.returns-clause-safe
returns-clause-safe g c =
    safe_then (cleared_if c.args.batch.now.clear) c.args.store.now (state g.S.Store c.args.conn.now) (state g.S.Store c.clear_if.new.conn) (state g.S.Store c.remove_all.new.conn) c.clear_if.ensures.safe c.in_default.ensures.moves c.remove_all.ensures.safe
