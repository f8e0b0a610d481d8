use Rattle.std.proofs.Common.{[], ◌∷◌}
use Rattle.sqlite_value.specs.declared.value.Value.TheVariants.{Text, Blob}
use Rattle.sqlite.specs.Held.{state}
use Rattle.melon_outside.specs.Kept.{with_row}
use Rattle.melon_sqlite.proofs.Inside.{does_moves, keeps_put}
use Rattle.melon_sqlite.proofs.batch.put.Goals as goal

pub returns-clause-moves : goal.returns-clause-moves
returns-clause-moves g c clean =
    does_moves (with_row c.args.row.now) c.args.store.now (state g.S.Store c.args.conn.now) (state g.S.Store c.put_row.new.conn) c.put_row.result (rw (c.as_str.ensures, c.as_str-2.ensures, c.as_slice.ensures) at (c.put_row.ensures.does clean))

pub returns-clause-safe : goal.returns-clause-safe
returns-clause-safe g c = keeps_put (Text c.args.store.now ∷ Text c.args.row.now.table ∷ Text c.args.row.now.id ∷ Blob c.args.row.now.body ∷ []) (state g.S.Store c.args.conn.now) (state g.S.Store c.put_row.new.conn) (rw (c.as_str.ensures, c.as_str-2.ensures, c.as_slice.ensures) at c.put_row.ensures.survives)
