use Rattle.std.proofs.Common.{◌∙◌, ap}
use Rattle.melon_schema.specs.Places.{declared_table}
use Rattle.melon_schema.proofs.Named.{declared_table-entries}
use Rattle.melon_schema.proofs.app_schema.AppSchema.named.Goals as goal

pub returns-clause-value : goal.returns-clause-value
returns-clause-value c = c.get.ensures.value ∙ declared_table-entries _ _ c.self.invariant.named ∙ ap (λ s. declared_table c.args.name.now s.tables) c.self.view_is
