use Rattle.std.proofs.Common.{arith}
use Rattle.melon_table.proofs.Joined.{settled_within, key_is, key_late}
use Rattle.melon_table.proofs.keys.key_at.Goals.{else-before-late-via-then-before-late+else-late-before, else-before-late-via-else-before-late}
use Rattle.melon_table.proofs.keys.key_at.Goals as goal

pub returns-then-late-before : goal.returns-then-late-before
returns-then-late-before c =
    key_late c.args.settled.now c.args.late.now c.args.place c.late_before-before.result c.requires.late c.late_before-before.ensures.cut c.late_before-before.ensures.few c.if-before-late.true c.if-late-before.true

pub bounds-settled-place : goal.bounds-settled-place
bounds-settled-place c =
    let late = c.args.late.now in
    let i = c.late_before-before.result in
    settled_within c.args.settled.now late c.args.place i c.requires.late c.late_before-before.ensures.cut c.late_before-before.ensures.few
    (elim c.else-before-late.branch [
      | else-before-late-via-then-before-late+else-late-before w ↦ λ within. w.if-late-before.false
      | else-before-late-via-else-before-late w ↦ λ within. absurd (omega (arith, within, w.if-before-late.false))
    ])
    c.requires.within

pub returns : goal.returns
returns c =
    let late = c.args.late.now in
    let i = c.late_before-before.result in
    key_is c.args.settled.now late c.args.place i c.requires.late c.late_before-before.ensures.cut c.late_before-before.ensures.few
    (elim c.else-before-late.branch [
      | else-before-late-via-then-before-late+else-late-before w ↦ λ within. w.if-late-before.false
      | else-before-late-via-else-before-late w ↦ λ within. absurd (omega (arith, within, w.if-before-late.false))
    ])
    c.requires.within
