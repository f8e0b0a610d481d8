use Rattle.std.proofs.Common.{[], ◌∷◌}
use Rattle.sqlite_value.specs.declared.value.Value.TheVariants.{Text}
use Rattle.sqlite.specs.Held.{state}
use Rattle.melon_outside.specs.Kept.{without_row}
use Rattle.melon_sqlite.proofs.Inside.{does_moves, keeps_remove}
use Rattle.melon_sqlite.proofs.batch.remove.Goals as goal

pub returns-clause-moves : goal.returns-clause-moves
returns-clause-moves g c clean =
    does_moves (without_row c.args.key.now) c.args.store.now (state g.S.Store c.args.conn.now) (state g.S.Store c.remove_row.new.conn) c.remove_row.result (rw (c.as_str.ensures, c.as_str-2.ensures) at (c.remove_row.ensures.does clean))

pub returns-clause-safe : goal.returns-clause-safe
returns-clause-safe g c = keeps_remove (Text c.args.store.now ∷ Text c.args.key.now.table ∷ Text c.args.key.now.id ∷ []) (state g.S.Store c.args.conn.now) (state g.S.Store c.remove_row.new.conn) (rw (c.as_str.ensures, c.as_str-2.ensures) at c.remove_row.ensures.survives)
