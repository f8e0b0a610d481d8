use Rattle.std.proofs.Common.{inl, refl, rules}
use Rattle.sqlite.specs.Held.{state}
use Rattle.melon_outside.specs.Kept.{batched}
use Rattle.melon_sqlite.specs.Telling.{settles}
use Rattle.melon_sqlite.proofs.Keeping.{outside_from, ok_done, err_done, may_leave, commits_seen}
use Rattle.melon_sqlite.proofs.Inside.{earlier}
use Rattle.melon_sqlite.proofs.keeper.SqliteKeeperKeeper.commit.Goals as goal

pub returns-then-not-is_autocommit-clause-commits : goal.returns-then-not-is_autocommit-clause-commits
returns-then-not-is_autocommit-clause-commits g c =
    rw (← c.self.view_is)
    (commits_seen c.self.inside.fits (state g.S.Store c.self.inside.connection) (state g.S.Store c.self.inside.connection) _ _ c.args.batch.now c.args.store.now _ (λ m h. (m, h, λ _. refl))
    (λ was h left l. inl (settles c.self.inside.fits (state g.S.Store c.self.inside.connection) (λ db. g.met.S.Store.settled c.self.inside.connection.store db) was left h l))
    (λ honest. honest) (search rules) (search rules))

pub returns-in-Ok-clause-commits : goal.returns-in-Ok-clause-commits
returns-in-Ok-clause-commits g c =
    let old = state g.S.Store c.self.inside.connection in
    let new = state g.S.Store c.commit_batch.new.conn in
    let f = batched c.args.batch.now in
    let outside = outside_from old.in_transaction c.is_autocommit.result c.is_autocommit.ensures.value c.if-not-is_autocommit.false in
    rw (← c.self.view_is)
    (commits_seen c.self.inside.fits old new _ _ c.args.batch.now c.args.store.now _
    (ok_done f c.args.store.now c.self.inside.fits old new c.self.invariant outside c.commit_batch.ensures.safe c.in-Ok.ensures.commits)
    (may_leave f c.args.store.now c.self.inside.fits old new c.self.invariant outside c.commit_batch.ensures.safe (λ db. g.met.S.Store.settled c.self.inside.connection.store db))
    (earlier old new _ c.commit_batch.ensures.safe) (search rules) (search rules))

pub returns-in-Err-clause-commits : goal.returns-in-Err-clause-commits
returns-in-Err-clause-commits g c =
    let old = state g.S.Store c.self.inside.connection in
    let new = state g.S.Store c.commit_batch.new.conn in
    let f = batched c.args.batch.now in
    let outside = outside_from old.in_transaction c.is_autocommit.result c.is_autocommit.ensures.value c.if-not-is_autocommit.false in
    rw (← c.self.view_is)
    (commits_seen c.self.inside.fits old new _ _ c.args.batch.now c.args.store.now _
    (err_done f c.args.store.now c.self.inside.fits old new c.self.invariant outside c.commit_batch.ensures.safe c.in-Err.ensures.commits)
    (may_leave f c.args.store.now c.self.inside.fits old new c.self.invariant outside c.commit_batch.ensures.safe (λ db. g.met.S.Store.settled c.self.inside.connection.store db))
    (earlier old new _ c.commit_batch.ensures.safe) (search rules) (search rules))
