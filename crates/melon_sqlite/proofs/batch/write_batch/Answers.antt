use Rattle.sqlite.specs.Held.{state}
use Rattle.melon_outside.specs.Kept.{cleared_if, removed, filled, valued}
use Rattle.melon_sqlite.specs.Transactions.{NoCommit}
use Rattle.melon_sqlite.proofs.Inside.{moves_then, safe_then, earlier}
use Rattle.melon_sqlite.proofs.batch.write_batch.Goals as goal

pub returns-clause-moves : goal.returns-clause-moves
returns-clause-moves g c clean =
    let a = state g.S.Store c.args.conn.now in
    let b = state g.S.Store c.put_batch.new.conn in
    let d = state g.S.Store c.set_all.new.conn in
    moves_then (λ k. filled c.args.batch.now.puts (removed c.args.batch.now.removes (cleared_if c.args.batch.now.clear k))) (valued c.args.batch.now.values) c.args.store.now a b d c.set_all.result (c.in_default.ensures.moves (earlier b d (NoCommit b) c.set_all.ensures.safe clean)) (rw c.as_slice.ensures at (c.set_all.ensures.moves clean))

pub returns-clause-safe : goal.returns-clause-safe
returns-clause-safe g c =
    safe_then (λ k. filled c.args.batch.now.puts (removed c.args.batch.now.removes (cleared_if c.args.batch.now.clear k))) c.args.store.now (state g.S.Store c.args.conn.now) (state g.S.Store c.put_batch.new.conn) (state g.S.Store c.set_all.new.conn) c.put_batch.ensures.safe c.in_default.ensures.moves c.set_all.ensures.safe
