use Rattle.std.proofs.Common.{ap, ◌∙◌}
use Rattle.melon_outside.specs.Keeping.{are_in_order}
use Rattle.melon_outside.specs.Shelved.{stores_of}
use Rattle.melon_outside.proofs.Found.{stores_in_order, given_stores}
use Rattle.melon_outside.proofs.memory_keeper.MemoryKeeper.new.Goals as goal

pub invariant_of-result : goal.invariant_of-result
invariant_of-result c = ap are_in_order (ap (stores_of c.args.contents) c.new.ensures.items ∙ given_stores c.args.contents) ∙ stores_in_order c.args.contents c.requires
