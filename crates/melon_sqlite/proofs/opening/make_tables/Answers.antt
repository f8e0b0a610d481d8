use Rattle.std.proofs.Common.{arith}
use Rattle.sqlite.specs.Held.{state}
use Rattle.melon_sqlite.proofs.Opened.{both_kept}
use Rattle.melon_sqlite.proofs.opening.make_tables.Goals as goal

pub returns-in-Ok-clause-kept : goal.returns-in-Ok-clause-kept
returns-in-Ok-clause-kept g c clean =
    both_kept c.make_values.result (state g.S.Store c.args.conn.now) (state g.S.Store c.make_rows.new.conn) (state g.S.Store c.make_values.new.conn)
    (c.in-Ok.ensures.kept (omega (arith, c.make_values.ensures.clean, clean))) (c.make_values.ensures.kept clean)
