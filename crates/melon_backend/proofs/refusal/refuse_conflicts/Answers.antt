use Rattle.std.proofs.Common.{length}
use Rattle.melon_backend.proofs.Seen.{declared_here}
use Rattle.melon_backend.proofs.refusal.refuse_conflicts.Goals as goal

pub refuse_conflict_of-requires : goal.refuse_conflict_of-requires
refuse_conflict_of-requires c = declared_here (length c.args.schema.now.tables) c.args.named.now c.loop-one.one-index c.one-item.result c.requires c.loop-one-test.true c.one-item.is
