use Rattle.std.proofs.Common.{◌∙◌, ap}
use Rattle.melon_schema.specs.Places.{table_named}
use Rattle.melon_schema.proofs.Named.{table_named-entries}
use Rattle.melon_schema.proofs.app_schema.AppSchema.table.Goals as goal

pub returns-clause-value : goal.returns-clause-value
returns-clause-value c = c.get_index_of.ensures.index ∙ table_named-entries _ _ c.self.invariant.named ∙ ap (λ s. table_named c.args.name.now s.tables) c.self.view_is
