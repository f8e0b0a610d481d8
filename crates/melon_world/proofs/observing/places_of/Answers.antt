use Rattle.std.proofs.Common.{◌≡◌, ◌∙◌, None, ap, sym, arith}
use Rattle.melon_schema.specs.Places.{column_named}
use Rattle.melon_world.proofs.Fields.{each_lacks}
use Rattle.melon_world.proofs.observing.places_of.Goals as goal

pub returns-in-None : goal.returns-in-None
returns-in-None c =
    let none : column_named c.name-item.result c.args.columns.now ≡ None = ap (λ name. column_named name c.args.columns.now) (sym c.as_str.ensures) ∙ sym c.column_in.ensures ∙ c.in-None.is in
    sym (each_lacks (λ name. column_named name c.args.columns.now) c.args.names.now c.loop-name.name-index c.name-item.result (omega arith) c.name-item.is none)
