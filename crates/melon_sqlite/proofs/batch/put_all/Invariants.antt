use Rattle.sqlite.specs.Held.{state}
use Rattle.melon_outside.specs.Kept.{filled}
use Rattle.melon_sqlite.specs.Transactions.{Looping}
use Rattle.melon_sqlite.proofs.batch.put_all.Given as goal

abbrev pub invariant-loop-row : goal.invariant-loop-row
invariant-loop-row g l = Looping filled l.store l.rows l.row-index (state g.S.Store l.fn.conn) (state g.S.Store l.conn)
