use Rattle.std.proofs.Common.{◌≡◌, ◌-◌, map, drop}
use Rattle.melon_wire.specs.Keys.{first_again}
use Rattle.melon_wire.proofs.keyed.first_again.Given as goal

abbrev pub invariant-loop-i : goal.invariant-loop-i
invariant-loop-i g l = first_again (map g.T.Keyed.key_of (drop (l.i - 1) l.items)) ≡ first_again (map g.T.Keyed.key_of l.items)
