use Rattle.std.proofs.Common.{◌∙◌}
use Rattle.melon_table.proofs.Stock.{inside, has_row, row_is}
use Rattle.melon_table.proofs.shelf.Shelf.at.Goals as goal

pub at-requires : goal.at-requires
at-requires g c = inside c.self.inside _ c.self.view_is c.self.invariant c.args.place c.requires

pub index-requires : goal.index-requires
index-requires g c = has_row c.self.inside _ c.self.view_is c.self.invariant c.args.place c.requires c.at.result c.at.ensures

pub returns-clause-row : goal.returns-clause-row
returns-clause-row g c = row_is c.self.inside _ c.self.view_is c.self.invariant c.args.place c.requires c.at.result c.at.ensures ∙ c.index.ensures
