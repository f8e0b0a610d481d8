use Rattle.std.proofs.Common.{◌≡◌, length}
use Rattle.std.specs.Vec.Iter.{into_iter_items}
use Rattle.melon_table.specs.Seen.{rows_of}
use Rattle.melon_change.specs.Named.{is_named}
use Rattle.melon_change.proofs.Batches.{Prepared}
use Rattle.melon_change.proofs.batch.prepare_each.Given as goal

abbrev pub invariant-loop-op : goal.invariant-loop-op
invariant-loop-op l = Prepared l.schema.tables (rows_of l.tables) l.fn.ops (is_named l.named.items) l.changes (into_iter_items l.op-iterator) × (length l.named.items ≡ length l.schema.tables)
