use Rattle.sqlite.specs.Held.{state}
use Rattle.std.proofs.Common.{rules}
use Rattle.melon_sqlite.specs.Telling.{settles}
use Rattle.melon_sqlite.proofs.Keeping.{outside_from, load_knows, load_kept, load_found, load_leaves, load_tells, load_goes_on, loads_seen}
use Rattle.melon_sqlite.proofs.keeper.SqliteKeeperKeeper.load.Goals as goal

pub invariant_of-self-in-Ok : goal.invariant_of-self-in-Ok
invariant_of-self-in-Ok g c =
    load_knows c.self.inside.fits (state g.S.Store c.self.inside.connection) (state g.S.Store c.load_in_order.new.conn) c.self.invariant
    (outside_from (state g.S.Store c.self.inside.connection).in_transaction c.is_autocommit.result c.is_autocommit.ensures.value c.if-not-is_autocommit.false)
    c.load_in_order.ensures.safe c.load_in_order.ensures.opened c.load_in_order.ensures.stays

pub returns-in-Ok-clause-tells : goal.returns-in-Ok-clause-tells
returns-in-Ok-clause-tells g c =
    rw (← c.self.view_is)
    (load_tells c.self.inside.fits (state g.S.Store c.self.inside.connection) (state g.S.Store c.load_in_order.new.conn) c.args.store.now c.in-Ok.kept c.self.invariant c.in-Ok.ensures.loads)

pub returns-then-not-is_autocommit-clause-loads : goal.returns-then-not-is_autocommit-clause-loads
returns-then-not-is_autocommit-clause-loads g c =
    rw (← c.self.view_is)
    (loads_seen c.self.inside.fits (state g.S.Store c.self.inside.connection) (state g.S.Store c.self.inside.connection) _ _ c.args.store.now _ (λ m h. h) (λ m h. tt) tt
    (λ was h left l. settles c.self.inside.fits (state g.S.Store c.self.inside.connection) (λ db. g.met.S.Store.settled c.self.inside.connection.store db) was left h l)
    tt (search rules) (search rules))

pub returns-in-Ok-clause-loads : goal.returns-in-Ok-clause-loads
returns-in-Ok-clause-loads g c =
    let old = state g.S.Store c.self.inside.connection in
    let new = state g.S.Store c.load_in_order.new.conn in
    let outside = outside_from old.in_transaction c.is_autocommit.result c.is_autocommit.ensures.value c.if-not-is_autocommit.false in
    let all = c.load_in_order.ensures in
    rw (← c.self.view_is)
    (loads_seen c.self.inside.fits old new _ _ c.args.store.now _
    (load_kept c.self.inside.fits old new c.self.invariant outside all.safe all.opened all.stays)
    (load_found c.self.inside.fits old new c.self.invariant outside all.safe all.opened all.stays c.args.store.now c.in-Ok.kept c.in-Ok.ensures.loads)
    (search rules)
    (load_leaves c.self.inside.fits old new c.self.invariant outside all.safe all.opened all.stays (λ db. g.met.S.Store.settled c.self.inside.connection.store db))
    (load_goes_on c.self.inside.fits old new c.args.store.now c.in-Ok.kept c.self.invariant c.in-Ok.ensures.loads all.stays)
    (search rules) (search rules))

pub returns-in-Err-clause-loads : goal.returns-in-Err-clause-loads
returns-in-Err-clause-loads g c =
    let old = state g.S.Store c.self.inside.connection in
    let new = state g.S.Store c.load_in_order.new.conn in
    let outside = outside_from old.in_transaction c.is_autocommit.result c.is_autocommit.ensures.value c.if-not-is_autocommit.false in
    let all = c.load_in_order.ensures in
    rw (← c.self.view_is)
    (loads_seen c.self.inside.fits old new _ _ c.args.store.now _
    (load_kept c.self.inside.fits old new c.self.invariant outside all.safe all.opened all.stays)
    (λ m h. tt) tt
    (load_leaves c.self.inside.fits old new c.self.invariant outside all.safe all.opened all.stays (λ db. g.met.S.Store.settled c.self.inside.connection.store db))
    tt (search rules) (search rules))
