use Rattle.std.proofs.Common.{◌∙◌, ap, sym, option_map}
use Rattle.melon_schema.specs.Json.{each}
use Rattle.melon_schema.specs.Places.{column_named}
use Rattle.melon_views.specs.declared.emission.Shape.TheVariants as shapes
use Rattle.melon_machine.specs.Apps.{shape_in}
use Rattle.melon_world.proofs.observing.shape_in.Goals as goal

pub returns-in-Some : goal.returns-in-Some
returns-in-Some c =
    ap (option_map shapes.Columns) (sym c.in-Some.is ∙ c.in_ok-places-in-Columns.ensures ∙ ap (each (λ name. column_named name c.args.columns.now)) c.as_slice.ensures)
    ∙ ap (shape_in c.args.columns.now) (sym c.in-Columns.is)
