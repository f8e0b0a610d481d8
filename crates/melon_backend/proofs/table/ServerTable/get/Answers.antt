use Rattle.std.proofs.Common.{ℕ, List, ap, sym, ◌∙◌}
use Rattle.melon_log.specs.ServerRows.{at_id}
use Rattle.melon_backend.specs.Inside.{flat, rows_in}
use Rattle.melon_backend.proofs.Tables.{found}
use Rattle.melon_backend.proofs.table.ServerTable.get.Goals as goal

pub returns-in-Some : goal.returns-in-Some
returns-in-Some c = c.as_ref.ensures.value ∙ (ap flat c.in-Some.ensures.value ∙ sym (ap (λ (i : List ℕ). at_id i (rows_in c.args.self.now)) (sym c.as_str.ensures) ∙ found c.args.self.now c.as_str.result.now c.requires))

pub returns-in-None : goal.returns-in-None
returns-in-None c = ap flat c.in-None.ensures.value ∙ sym (ap (λ (i : List ℕ). at_id i (rows_in c.args.self.now)) (sym c.as_str.ensures) ∙ found c.args.self.now c.as_str.result.now c.requires)
