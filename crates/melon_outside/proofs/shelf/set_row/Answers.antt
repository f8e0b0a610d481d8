use Rattle.std.proofs.Common.{ap, sym, ◌∙◌}
use Rattle.melon_outside.proofs.Places.{set_value-absent}
use Rattle.melon_outside.proofs.shelf.set_row.Goals as goal

pub returns-in_default-clause-entries : goal.returns-in_default-clause-entries
returns-in_default-clause-entries c = rw c.get_mut.follows.holds-at-none (sym (set_value-absent _ c.args.places.now.entries c.args.row (sym c.in_default.ensures.value)))
