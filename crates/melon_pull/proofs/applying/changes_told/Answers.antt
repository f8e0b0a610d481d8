use Rattle.std.proofs.Common.{length}
use Rattle.melon_pull.proofs.Seen.{declared_here}
use Rattle.melon_pull.proofs.applying.changes_told.Goals as goal

pub change_told-requires-clause-within : goal.change_told-requires-clause-within
change_told-requires-clause-within c = declared_here (length c.args.schema.now.tables) c.args.listed.now c.loop-one.one-index c.one-item.result c.requires.within c.loop-one-test.true c.one-item.is
