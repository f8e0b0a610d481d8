use Rattle.sqlite.specs.Held.{state}
use Rattle.melon_sqlite.specs.Transactions.{Idle}
use Rattle.melon_sqlite.proofs.Whole.{begins, begin_leaves}
use Rattle.sqlite.proofs.StateLemmas.{survives_weaker}
use Rattle.melon_sqlite.proofs.transaction.begin.Goals as goal

pub returns-clause-begun : goal.returns-clause-begun
returns-clause-begun g c clean = begins (state g.S.Store c.args.conn.now) (state g.S.Store c.run_begin.new.conn) c.run_begin.result (c.run_begin.ensures.runs clean)

pub returns-clause-safe : goal.returns-clause-safe
returns-clause-safe g c =
    let old = state g.S.Store c.args.conn.now in
    survives_weaker old (state g.S.Store c.run_begin.new.conn) _ (λ _. Idle old → ⊥) (λ _ db. begin_leaves old db) c.run_begin.ensures.survives
