use Rattle.std.proofs.Common.{[], ◌∷◌, inl}
use Rattle.sqlite_value.specs.declared.value.Value.TheVariants.{Text}
use Rattle.sqlite.specs.Held.{state}
use Rattle.melon_sqlite.proofs.Inside.{earlier}
use Rattle.melon_sqlite.proofs.Loads.{rows_safe, both_safe, both_loaded, both_stay, one_stays, still_natural}
use Rattle.melon_sqlite.proofs.transaction.load_store.Goals as goal

pub returns-in-Err-clause-safe : goal.returns-in-Err-clause-safe
returns-in-Err-clause-safe g c = rows_safe (Text c.args.store.now ∷ []) (state g.S.Store c.args.conn.now) (state g.S.Store c.read_rows.new.conn) c.read_rows.ensures.survives

pub returns-in-Err-clause-stays : goal.returns-in-Err-clause-stays
returns-in-Err-clause-stays g c clean = one_stays (state g.S.Store c.args.conn.now) (state g.S.Store c.read_rows.new.conn) (c.in-Err.ensures.same clean)

pub returns-in-Ok-read_values-clause-loads : goal.returns-in-Ok-read_values-clause-loads
returns-in-Ok-read_values-clause-loads g c clean =
    let a = state g.S.Store c.args.conn.now in
    let b = state g.S.Store c.read_rows.new.conn in
    let d = state g.S.Store c.read_values.new.conn in
    let early = earlier b d _ c.read_values.ensures.survives clean in
    both_loaded c.args.store.now a b d c.in-Ok.rows c.in-Ok-read_values.values (c.in-Ok.ensures.rows early) (c.in-Ok-read_values.ensures.values clean) (c.in-Ok.ensures.same early) (c.in-Ok-read_values.ensures.same clean)

pub returns-in-Ok-read_values-clause-stays : goal.returns-in-Ok-read_values-clause-stays
returns-in-Ok-read_values-clause-stays g c clean =
    let a = state g.S.Store c.args.conn.now in
    let b = state g.S.Store c.read_rows.new.conn in
    let d = state g.S.Store c.read_values.new.conn in
    both_stay a b d (c.in-Ok.ensures.same (earlier b d _ c.read_values.ensures.survives clean)) (λ K. inl (c.in-Ok-read_values.ensures.same clean K))

pub returns-in-Ok-read_values-clause-safe : goal.returns-in-Ok-read_values-clause-safe
returns-in-Ok-read_values-clause-safe g c =
    both_safe (Text c.args.store.now ∷ []) (Text c.args.store.now ∷ []) (state g.S.Store c.args.conn.now) (state g.S.Store c.read_rows.new.conn) (state g.S.Store c.read_values.new.conn)
    c.read_rows.ensures.survives c.in-Ok.ensures.same c.read_values.ensures.survives

pub returns-in-Err-read_values-clause-stays : goal.returns-in-Err-read_values-clause-stays
returns-in-Err-read_values-clause-stays g c clean =
    let a = state g.S.Store c.args.conn.now in
    let b = state g.S.Store c.read_rows.new.conn in
    let d = state g.S.Store c.read_values.new.conn in
    both_stay a b d (c.in-Ok.ensures.same (earlier b d _ c.read_values.ensures.survives clean)) (c.in-Err-read_values.ensures.same clean)

pub returns-in-Err-read_values-clause-safe : goal.returns-in-Err-read_values-clause-safe
returns-in-Err-read_values-clause-safe g c =
    both_safe (Text c.args.store.now ∷ []) (Text c.args.store.now ∷ []) (state g.S.Store c.args.conn.now) (state g.S.Store c.read_rows.new.conn) (state g.S.Store c.read_values.new.conn)
    c.read_rows.ensures.survives c.in-Ok.ensures.same c.read_values.ensures.survives

pub returns-in-Ok-read_values-clause-natural : goal.returns-in-Ok-read_values-clause-natural
returns-in-Ok-read_values-clause-natural g c clean =
    let a = state g.S.Store c.args.conn.now in
    let b = state g.S.Store c.read_rows.new.conn in
    let d = state g.S.Store c.read_values.new.conn in
    still_natural c.args.store.now a b (c.in-Ok-read_values.ensures.natural clean) (c.in-Ok.ensures.same (earlier b d _ c.read_values.ensures.survives clean))
