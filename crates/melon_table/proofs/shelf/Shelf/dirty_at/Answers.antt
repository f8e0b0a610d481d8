use Rattle.std.proofs.Common.{◌∙◌, arith}
use Rattle.melon_table.proofs.Dirtied.{count_is, has_dirty, dirty_is}
use Rattle.melon_table.proofs.shelf.Shelf.dirty_at.Goals as goal

pub at-requires : goal.at-requires
at-requires g c = omega (arith, c.requires, count_is c.self.inside _ c.self.view_is c.self.invariant)

pub index-requires : goal.index-requires
index-requires g c = has_dirty c.self.inside _ c.self.view_is c.self.invariant c.args.i c.at.result c.at.ensures

pub returns-clause-row : goal.returns-clause-row
returns-clause-row g c = dirty_is c.self.inside _ c.self.view_is c.self.invariant c.args.i c.at.result c.at.ensures ∙ c.index.ensures
