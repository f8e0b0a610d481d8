use Rattle.melon_outside.proofs.Copies.{moves}
use Rattle.melon_outside.proofs.memory.MemorySourceSource.read.Goals as goal

pub returns-clause-bytes : goal.returns-clause-bytes
returns-clause-bytes c =
    rw (← c.self.view_is)
    (moves c.self.inside.bytes c.args.into.now c.copy_next-count.new.into c.self.inside.at c.self.inside.most c.copy_next-count.result c.self.invariant.0
    (rw (← c.as_slice-2.ensures) c.copy_next-count.ensures.count)
    (rw (← c.as_slice-2.ensures) c.copy_next-count.ensures.copied))
