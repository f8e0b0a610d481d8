use Rattle.std.proofs.Common.{arith}
use Rattle.melon_table.proofs.Counted.{count}
use Rattle.melon_table.proofs.keys.Keys.remove.Goals as goal

pub take_out-requires-clause-within : goal.take_out-requires-clause-within
take_out-requires-clause-within c = let all = count c.self.inside _ c.self.view_is in omega (arith, all, c.requires)
