use Rattle.sqlite.specs.Held.{state}
use Rattle.sqlite.specs.State.{CommitsBy}
use Rattle.std.proofs.Common.{codes, []}
use Rattle.melon_outside.specs.Kept.{batched}
use Rattle.melon_sqlite.proofs.Inside.{earlier}
use Rattle.melon_sqlite.proofs.Whole.{ends, finish_safe, write_safe}
use Rattle.melon_sqlite.proofs.transaction.finish.Goals as goal

pub returns-clause-done : goal.returns-clause-done
returns-clause-done g c clean =
    let old = state g.S.Store c.args.conn.now in
    let mid = state g.S.Store c.write_batch.new.conn in
    let new = state g.S.Store c.run_commit.new.conn in
    ends (batched c.args.batch.now) c.args.store.now old mid new c.run_commit.result (c.in_default.ensures.moves (earlier mid new (CommitsBy (codes "COMMIT") [] mid) c.run_commit.ensures.survives clean)) (c.run_commit.ensures.runs clean)

pub returns-clause-safe : goal.returns-clause-safe
returns-clause-safe g c =
    let old = state g.S.Store c.args.conn.now in
    let mid = state g.S.Store c.write_batch.new.conn in
    let new = state g.S.Store c.run_commit.new.conn in
    finish_safe (batched c.args.batch.now) c.args.store.now old mid new c.write_batch.ensures.safe c.in_default.ensures.moves c.run_commit.ensures.survives

pub returns-in-Err-clause-safe : goal.returns-in-Err-clause-safe
returns-in-Err-clause-safe g c =
    write_safe (batched c.args.batch.now) c.args.store.now (state g.S.Store c.args.conn.now) (state g.S.Store c.write_batch.new.conn) c.write_batch.ensures.safe
