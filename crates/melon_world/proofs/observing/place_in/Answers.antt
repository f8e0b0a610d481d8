use Rattle.std.proofs.Common.{◌∙◌}
use Rattle.melon_world.proofs.Places.{named_place}
use Rattle.melon_world.proofs.observing.place_in.Goals as goal

pub returns : goal.returns
returns c = c.first_named.ensures ∙ named_place c.args.name.now c.args.observers.now
