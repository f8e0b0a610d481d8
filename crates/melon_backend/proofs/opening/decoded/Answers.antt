use Rattle.std.proofs.Common.{ℕ, List, length, ap, sym, ◌∙◌}
use Rattle.melon_backend.specs.Bodies.{kept_row}
use Rattle.melon_backend.proofs.Back.{kept_row-is}
use Rattle.melon_backend.proofs.opening.decoded.Goals as goal

pub returns-then-eq-clause-size : goal.returns-then-eq-clause-size
returns-then-eq-clause-size c = ap length (kept_row-is c.args.table.now c.args.kept.now.body c.in_ok-row.row (ap (λ (bytes : List ℕ). kept_row c.args.table.now bytes) (sym c.as_slice.ensures) ∙ c.in_ok-row.ensures))
