use Rattle.std.proofs.Common.{◌-◌, drop, sym, ◌∙◌, arith, length-drop}
use Rattle.melon_wire.proofs.KeyedLists.{short_again}
use Rattle.melon_wire.proofs.keyed.first_again.Goals as goal

pub returns : goal.returns
returns g c = let items = c.args.items.now in let i = c.loop-i.i in
    sym (short_again g.T.Keyed.key_of (drop (i - 1) items) (omega (arith, length-drop (i - 1) items, c.loop-i-test.false))) ∙ c.loop-i.invariant
