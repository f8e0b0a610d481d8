use Rattle.std.proofs.Common.{ap, ◌∙◌}
use Rattle.melon_raw.specs.Rows.{at_id}
use Rattle.melon_table.proofs.Placed.{found, absent}
use Rattle.melon_table.proofs.table.Table.find.Goals as goal

pub returns-in-Ok-clause-found : goal.returns-in-Ok-clause-found
returns-in-Ok-clause-found g c =
    let rows = c.self.inside.rows.rows in
    let h = c.in-Ok.ensures.place in
    found c.args.id.now rows c.in-Ok.field-0-0 c.self.invariant.ascending (c.in-Ok.row.now, h.0, h.1) c.in-Ok.row.now h.0 ∙ ap (λ t. at_id c.args.id.now t.rows) c.self.view_is

pub returns-in-Err-clause-found : goal.returns-in-Err-clause-found
returns-in-Err-clause-found g c =
    let rows = c.self.inside.rows.rows in
    let h = c.in-Err.ensures.place in
    absent c.args.id.now rows c.in-Err.field-0 h ∙ ap (λ t. at_id c.args.id.now t.rows) c.self.view_is
