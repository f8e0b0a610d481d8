use Rattle.std.proofs.Common.{length}
use Rattle.melon_pull.proofs.Seen.{declared_here}
use Rattle.melon_pull.proofs.refusal.refuse_long.Goals as goal

pub long_told-requires : goal.long_told-requires
long_told-requires c = declared_here (length c.args.schema.now.tables) c.args.listed.now c.loop-one.one-index c.one-item.result c.requires c.loop-one-test.true c.one-item.is
