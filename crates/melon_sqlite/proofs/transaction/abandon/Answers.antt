use Rattle.std.proofs.Common.{◌≡◌, true, false, Bool, not}
use Rattle.sqlite.specs.Held.{state}
use Rattle.sqlite.proofs.StateLemmas.{survives_weaker}
use Rattle.melon_sqlite.specs.Transactions.{IsOverKept}
use Rattle.melon_sqlite.proofs.Whole.{rolls, rolls_open, rollback_leaves}
use Rattle.melon_sqlite.proofs.transaction.abandon.Goals as goal

inside_from : (b r : Bool) → r ≡ not b → r ≡ false → b ≡ true
inside_from true r e f = Rattle.std.proofs.Common.refl
inside_from false r e f = absurd (cc)

pub returns-clause-opened : goal.returns-clause-opened
returns-clause-opened g c clean = rolls_open (state g.S.Store c.args.conn.now) (state g.S.Store c.run_rollback.new.conn) c.run_rollback.result (c.run_rollback.ensures.runs clean)

pub returns-clause-abandons : goal.returns-clause-abandons
returns-clause-abandons g c clean known =
    let old = state g.S.Store c.args.conn.now in
    rolls old (state g.S.Store c.run_rollback.new.conn) c.run_rollback.result (c.run_rollback.ensures.runs clean)
    (inside_from old.in_transaction c.is_autocommit.result c.is_autocommit.ensures.value c.if-is_autocommit.false) known

pub returns-clause-safe : goal.returns-clause-safe
returns-clause-safe g c =
    let old = state g.S.Store c.args.conn.now in
    let inside = inside_from old.in_transaction c.is_autocommit.result c.is_autocommit.ensures.value c.if-is_autocommit.false in
    survives_weaker old (state g.S.Store c.run_rollback.new.conn) _ (λ _. IsOverKept old → ⊥) (λ _ db by known. rollback_leaves old db inside by (known inside)) c.run_rollback.ensures.survives
