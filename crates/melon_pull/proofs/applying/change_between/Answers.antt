use Rattle.std.specs.Option.{option_copied}
use Rattle.melon_wire.specs.Keys.{key_at}
use Rattle.melon_pull.proofs.Seen.{no_difference}
use Rattle.melon_pull.proofs.applying.change_between.Goals as goal

pub returns-in-Stays : goal.returns-in-Stays
returns-in-Stays c = rw c.in-Stays.is (no_difference (key_at c.args.table c.args.id.now) (option_copied c.args.before))
