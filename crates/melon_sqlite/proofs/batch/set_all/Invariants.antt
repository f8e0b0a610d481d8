use Rattle.sqlite.specs.Held.{state}
use Rattle.melon_outside.specs.Kept.{valued}
use Rattle.melon_sqlite.specs.Transactions.{Looping}
use Rattle.melon_sqlite.proofs.batch.set_all.Given as goal

abbrev pub invariant-loop-value : goal.invariant-loop-value
invariant-loop-value g l = Looping valued l.store l.values l.value-index (state g.S.Store l.fn.conn) (state g.S.Store l.conn)
