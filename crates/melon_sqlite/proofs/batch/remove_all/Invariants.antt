use Rattle.sqlite.specs.Held.{state}
use Rattle.melon_outside.specs.Kept.{removed}
use Rattle.melon_sqlite.specs.Transactions.{Looping}
use Rattle.melon_sqlite.proofs.batch.remove_all.Given as goal

abbrev pub invariant-loop-key : goal.invariant-loop-key
invariant-loop-key g l = Looping removed l.store l.keys l.key-index (state g.S.Store l.fn.conn) (state g.S.Store l.conn)
