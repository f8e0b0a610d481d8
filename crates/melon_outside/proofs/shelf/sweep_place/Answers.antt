use Rattle.std.proofs.Common.{ap, sym, ◌∙◌, Some}
use Rattle.melon_outside.specs.Shelved.{shown}
use Rattle.melon_outside.proofs.Places.{shown-swept}
use Rattle.melon_outside.proofs.shelf.sweep_place.Goals as goal

pub returns-in-Some-None : goal.returns-in-Some-None
returns-in-Some-None c = ap shown c.remove.ensures.entries ∙ shown-swept c.args.key.now c.args.places.now.entries (sym c.in-Some-None.ensures.value ∙ ap Some c.in-Some-None.field-0-is)
