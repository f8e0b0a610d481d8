use Rattle.std.proofs.Common.{◌∙◌}
use Rattle.melon_table.proofs.Stock.{len_is}
use Rattle.melon_table.proofs.shelf.Shelf.len.Goals as goal

pub returns : goal.returns
returns c = c.len.ensures ∙ len_is c.self.inside _ c.self.view_is c.self.invariant
