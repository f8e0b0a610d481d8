use Rattle.std.proofs.Common.{◌∙◌}
use Rattle.melon_table.proofs.Dirtied.{count_is}
use Rattle.melon_table.proofs.shelf.Shelf.dirty_len.Goals as goal

pub returns : goal.returns
returns c = c.len.ensures ∙ count_is c.self.inside _ c.self.view_is c.self.invariant
