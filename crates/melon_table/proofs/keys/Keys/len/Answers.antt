use Rattle.std.proofs.Common.{arith}
use Rattle.melon_table.proofs.Counted.{count}
use Rattle.melon_table.proofs.keys.Keys.len.Goals as goal

pub returns : goal.returns
returns c = let all = count c.self.inside _ c.self.view_is in omega (arith, all, c.len.ensures, c.len-2.ensures, c.self.inside.settled.ok.0, c.self.inside.late.ok.0)
