use Rattle.std.proofs.Common.{◌≡◌, Some, sym, ap, ◌∙◌}
use Rattle.melon_raw.specs.declared.raw.Raw.{Raw}
use Rattle.melon_table.specs.Dirty.{is_dirty}
use Rattle.melon_table.proofs.Stock.{inside, has_row, row_is}
use Rattle.melon_table.proofs.shelf.Shelf.is_dirty_at.Goals as goal

pub at-requires : goal.at-requires
at-requires c = inside c.self.inside _ c.self.view_is c.self.invariant c.args.place c.requires

pub index-requires : goal.index-requires
index-requires c = has_row c.self.inside _ c.self.view_is c.self.invariant c.args.place c.requires c.at.result c.at.ensures

pub returns : goal.returns
returns c row here =
    let same : Some row ≡ Some c.index.result.now = sym here ∙ (row_is c.self.inside _ c.self.view_is c.self.invariant c.args.place c.requires c.at.result c.at.ensures ∙ c.index.ensures) in
    let is : row ≡ c.index.result.now = cc in
    c.is_dirty.ensures ∙ ap (λ (r : Raw). is_dirty r.status) (sym is)
