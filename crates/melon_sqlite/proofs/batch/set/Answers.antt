use Rattle.std.proofs.Common.{[], ◌∷◌, pos}
use Rattle.sqlite_value.specs.declared.value.Value.TheVariants.{Int, Text}
use Rattle.sqlite.specs.Held.{state}
use Rattle.melon_outside.specs.Kept.{with_value}
use Rattle.melon_sqlite.proofs.Inside.{does_moves, keeps_value}
use Rattle.melon_sqlite.proofs.batch.set.Goals as goal

pub returns-clause-moves : goal.returns-clause-moves
returns-clause-moves g c clean =
    does_moves (with_value c.args.value.now) c.args.store.now (state g.S.Store c.args.conn.now) (state g.S.Store c.put_value.new.conn) c.put_value.result (rw (c.as_str.ensures) at (c.put_value.ensures.does clean))

pub returns-clause-safe : goal.returns-clause-safe
returns-clause-safe g c = keeps_value (Text c.args.store.now ∷ Text c.args.value.now.name ∷ Int (pos c.args.value.now.number) ∷ []) (state g.S.Store c.args.conn.now) (state g.S.Store c.put_value.new.conn) (rw (c.as_str.ensures) at c.put_value.ensures.survives)
