use Rattle.std.proofs.Common.{List, ℕ, ap, sym, ◌∙◌}
use Rattle.melon_schema.specs.Places.{table_named}
use Rattle.melon_backend.proofs.Tellings.{none_repeated}
use Rattle.melon_backend.proofs.named.name_table.Goals as goal

pub returns-in-None-clause-once : goal.returns-in-None-clause-once
returns-in-None-clause-once c = none_repeated c.args.schema.now.tables c.args.told.now (ap (λ (n : List ℕ). table_named n c.args.schema.now.tables) (sym c.as_str.ensures) ∙ sym c.in-None.ensures.value) c.requires.known
