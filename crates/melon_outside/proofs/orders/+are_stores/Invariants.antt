use Rattle.std.proofs.Common.{length}
use Rattle.melon_outside.proofs.orders.+are_stores.Given as goal

abbrev pub decreases-are_stores : goal.decreases-are_stores
decreases-are_stores l = length l.stores.now
