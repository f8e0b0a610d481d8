use Rattle.std.proofs.Common.{[], ◌∷◌}
use Rattle.sqlite_value.specs.declared.value.Value.TheVariants.{Text}
use Rattle.sqlite.specs.Held.{state}
use Rattle.melon_outside.specs.Kept.{cleared}
use Rattle.melon_sqlite.proofs.Inside.{does_moves, keeps_clear}
use Rattle.melon_sqlite.proofs.batch.clear.Goals as goal

pub returns-clause-moves : goal.returns-clause-moves
returns-clause-moves g c clean =
    does_moves cleared c.args.store.now (state g.S.Store c.args.conn.now) (state g.S.Store c.clear_rows.new.conn) c.clear_rows.result (c.clear_rows.ensures.does clean)

pub returns-clause-safe : goal.returns-clause-safe
returns-clause-safe g c = keeps_clear (Text c.args.store.now ∷ []) (state g.S.Store c.args.conn.now) (state g.S.Store c.clear_rows.new.conn) c.clear_rows.ensures.survives
