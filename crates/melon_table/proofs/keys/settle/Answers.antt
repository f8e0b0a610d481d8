use Rattle.std.proofs.Common.{ap, ◌∙◌, arith}
use Rattle.std.proofs.lemmas.List.{take_all}
use Rattle.melon_table.specs.Late.{joined}
use Rattle.melon_table.proofs.Joined.{joined-long}
use Rattle.melon_table.proofs.keys.settle.Goals as goal

pub returns-clause-keys : goal.returns-clause-keys
returns-clause-keys c =
    let settled = c.args.settled.now.items in
    let late = c.args.late.now.items in
    let all = joined-long 0 settled late in
    ap (λ v. v.items) c.swap.ensures.x_after ∙ (c.loop-place.invariant.0 ∙ take_all c.loop-place.place (joined 0 settled late) (omega (arith, all, c.loop-place-test.false, c.loop-place.invariant.3)))
