use Rattle.std.proofs.Common.{ℕ, set, ap, ◌∙◌, arith}
use Rattle.melon_table.proofs.Joined.{lessened}
use Rattle.melon_table.proofs.keys.count_less.Goals as goal

pub loop-place-preserved : goal.loop-place-preserved
loop-place-preserved c =
    let all = c.args.late.now.items in
    let one = c.index.result.now in (
      ap (λ (b : ℕ). set c.loop-place.late.items c.loop-place.place (record { behind = b; key = one.key })) c.saturating_sub.ensures
          ∙ lessened c.args.from c.loop-place.place all c.loop-place.late.items one c.loop-place.invariant.4 (omega (arith, c.loop-place-test.true, c.loop-place.invariant.3)) c.loop-place.invariant.0 c.index.ensures,
      c.loop-place.invariant.1,
      c.loop-place.invariant.2,
      c.loop-place.invariant.3,
      omega (arith, c.loop-place.invariant.4),
    )
