use Rattle.std.proofs.Common.{inl, inr}
use Rattle.melon_world.proofs.Fields.{places_end, cells_end}
use Rattle.melon_machine.specs.Showing.{fields_of}
use Rattle.melon_world.proofs.shown.fields_of.Goals as goal

pub returns : goal.returns
returns c =
    let l = c.loop-place in
    let columns = c.args.columns.now in
    let whole = fields_of columns c.args.places.now c.args.cells.now in
    elim c.in-None.ensures.steps [
      | inl ended ↦ places_end columns l.place-iterator.a.rest.now l.place-iterator.b.rest.now l.fields whole l.invariant ended.1.0
      | inr ended ↦ cells_end columns l.place-iterator.a.rest.now l.place-iterator.b.rest.now l.fields whole l.invariant ended.1.0
    ]
