use Rattle.std.proofs.Common.{length, ap, arith}
use Rattle.melon_table.proofs.Counted.{count}
use Rattle.melon_table.proofs.keys.Keys.at.Goals as goal

pub key_at-requires-clause-within : goal.key_at-requires-clause-within
key_at-requires-clause-within c =
    let all = count c.self.inside _ c.self.view_is in
    omega (arith, all, c.requires, ap length c.as_slice.ensures.value, ap length c.as_slice-2.ensures.value)
