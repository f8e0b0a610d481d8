use Rattle.sqlite.specs.Held.{state}
use Rattle.melon_outside.specs.Kept.{batched}
use Rattle.melon_sqlite.proofs.Inside.{earlier}
use Rattle.melon_sqlite.proofs.Whole.{not_begun, committed_whole, failed_whole, begin_safe, ok_safe, err_safe}
use Rattle.melon_sqlite.proofs.transaction.commit_batch.Goals as goal

pub returns-in-Err-clause-commits : goal.returns-in-Err-clause-commits
returns-in-Err-clause-commits g c clean =
    let b = c.in-Err.ensures.begun clean in
    (b.0, not_begun (state g.S.Store c.args.conn.now) (state g.S.Store c.begin.new.conn) b.1)

pub returns-in-Err-clause-safe : goal.returns-in-Err-clause-safe
returns-in-Err-clause-safe g c = begin_safe (batched c.args.batch.now) c.args.store.now (state g.S.Store c.args.conn.now) (state g.S.Store c.begin.new.conn) c.begin.ensures.safe

pub returns-in-Ok-clause-commits : goal.returns-in-Ok-clause-commits
returns-in-Ok-clause-commits g c clean =
    let old = state g.S.Store c.args.conn.now in
    let mid = state g.S.Store c.begin.new.conn in
    let new = state g.S.Store c.finish.new.conn in
    let b = c.in_default.ensures.begun (earlier mid new _ c.finish.ensures.safe clean) in
    let e = c.in-Ok.ensures.done clean in
    (λ o. b.0 (e.0 o), committed_whole (batched c.args.batch.now) c.args.store.now old mid new b.1 e.1)

pub returns-in-Ok-clause-safe : goal.returns-in-Ok-clause-safe
returns-in-Ok-clause-safe g c =
    ok_safe (batched c.args.batch.now) c.args.store.now (state g.S.Store c.args.conn.now) (state g.S.Store c.begin.new.conn) (state g.S.Store c.finish.new.conn)
    c.begin.ensures.safe c.in_default.ensures.begun c.finish.ensures.safe

pub returns-in-Err-finish-clause-commits : goal.returns-in-Err-finish-clause-commits
returns-in-Err-finish-clause-commits g c clean =
    let old = state g.S.Store c.args.conn.now in
    let mid = state g.S.Store c.begin.new.conn in
    let late = state g.S.Store c.finish.new.conn in
    let new = state g.S.Store c.abandon.new.conn in
    let clean_late = earlier late new _ c.abandon.ensures.safe clean in
    let b = c.in_default.ensures.begun (earlier mid late _ c.finish.ensures.safe clean_late) in
    let e = c.in-Err-finish.ensures.done clean_late in
    (λ o. b.0 (e.0 (c.abandon.ensures.opened clean o)), failed_whole old mid late new b.1 e.1 (c.abandon.ensures.abandons clean))

pub returns-in-Err-finish-clause-safe : goal.returns-in-Err-finish-clause-safe
returns-in-Err-finish-clause-safe g c =
    err_safe (batched c.args.batch.now) c.args.store.now (state g.S.Store c.args.conn.now) (state g.S.Store c.begin.new.conn) (state g.S.Store c.finish.new.conn) (state g.S.Store c.abandon.new.conn)
    c.begin.ensures.safe c.in_default.ensures.begun c.finish.ensures.safe c.in-Err-finish.ensures.done c.abandon.ensures.safe
