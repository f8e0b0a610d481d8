use Rattle.std.proofs.Common.{length}
use Rattle.melon_backend.proofs.Seen.{declared_here}
use Rattle.melon_backend.proofs.draft.draft_of.Goals as goal

pub add_named-requires : goal.add_named-requires
add_named-requires c = declared_here (length c.args.schema.now.tables) c.args.named.now c.loop-one.one-index c.one-item.result c.requires c.loop-one-test.true c.one-item.is
