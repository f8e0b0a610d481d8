use Rattle.std.proofs.Common.{◌≡◌, ℕ, suc, ◌+◌, ◌-◌, ◌/◌, ◌<◌, ◌≤◌, length, take, get_or, Some, slice_get, subst, arith}
use Rattle.std.proofs.lemmas.Option.{slice_get-get_or}
use Rattle.melon_table.specs.declared.keys.Late.{Late}
use Rattle.melon_table.specs.Late.{AreBefore}
use Rattle.melon_table.proofs.Joined.{before_to, from_at, few_before}
use Rattle.melon_table.proofs.keys.late_before.Goals.{else-middle-place-via-then-middle-place+else-late-middle, else-middle-place-via-else-middle-place}
use Rattle.melon_table.proofs.keys.late_before.Goals as goal

pub loop-low-preserved-then-late-middle : goal.loop-low-preserved-then-late-middle
loop-low-preserved-then-late-middle c =
    let late = c.args.late.now in
    let m = c.loop-low.low + (c.loop-low.high - c.loop-low.low) / 2 in
    let one : Late = get_or late m (record { behind = 0; key = 0 }) in
    let within : m < length late = omega (arith, c.loop-low.invariant.1, c.loop-low-test.true) in
    let found : slice_get late m ≡ Some one = slice_get-get_or late m (record { behind = 0; key = 0 }) within in
    let next : suc m ≡ m + 1 = omega arith in (
      omega (arith, c.loop-low-test.true),
      c.loop-low.invariant.1,
      subst (λ (n : ℕ). AreBefore 0 c.args.place (take n late)) next (before_to 0 c.requires.0 0 c.args.place late m one c.requires.1 found (omega (arith, c.if-late-middle.true, c.if-middle-place.true))),
      c.loop-low.invariant.3,
    )

pub loop-low-preserved : goal.loop-low-preserved
loop-low-preserved c =
    let late = c.args.late.now in
    let m = c.loop-low.low + (c.loop-low.high - c.loop-low.low) / 2 in
    let one : Late = get_or late m (record { behind = 0; key = 0 }) in
    let within : m < length late = omega (arith, c.loop-low.invariant.1, c.loop-low-test.true) in
    let found : slice_get late m ≡ Some one = slice_get-get_or late m (record { behind = 0; key = 0 }) within in
    let from : c.args.place ≤ one.behind + m = elim c.else-middle-place.branch [
      | else-middle-place-via-then-middle-place+else-late-middle w ↦ omega (arith, w.if-late-middle.false, w.if-middle-place.true)
      | else-middle-place-via-else-middle-place w ↦ omega (arith, w.if-middle-place.false)
    ] in (
      omega arith,
      omega (arith, within),
      c.loop-low.invariant.2,
      from_at 0 c.requires.0 0 c.args.place late m m one c.requires.1 found (omega arith) from,
    )

pub returns-clause-few : goal.returns-clause-few
returns-clause-few c = few_before c.requires.0 c.args.place c.args.late.now c.loop-low.low c.requires.1 (omega (arith, c.loop-low.invariant.0, c.loop-low.invariant.1)) c.loop-low.invariant.2
