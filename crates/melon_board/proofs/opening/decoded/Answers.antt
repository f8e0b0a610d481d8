use Rattle.std.proofs.Common.{ℕ, List, ap, sym, ◌∙◌}
use Rattle.melon_raw.specs.Decoding.{kept_row}
use Rattle.melon_raw.proofs.RowBack.{kept_row-is}
use Rattle.melon_board.proofs.opening.decoded.Goals as goal

pub returns-then-eq-clause-row : goal.returns-then-eq-clause-row
returns-then-eq-clause-row c = kept_row-is c.args.table.now c.args.kept.now.body c.in_ok-row.row (ap (λ (bytes : List ℕ). kept_row c.args.table.now bytes) (sym c.as_slice.ensures) ∙ c.in_ok-row.ensures)
