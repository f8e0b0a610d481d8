use Rattle.std.proofs.Common.{length, ap, arith}
use Rattle.std.specs.Vec.{vec_capacity}
use Rattle.melon_table.proofs.Joined.{joined-long}
use Rattle.melon_table.proofs.Counted.{count, most_is}
use Rattle.melon_table.proofs.keys.Keys.insert.Goals.{then-len-eq-MOST_LATE, else-len-eq-MOST_LATE}
use Rattle.melon_table.proofs.keys.Keys.insert.Goals as goal

pub settle-requires-clause-fit : goal.settle-requires-clause-fit
settle-requires-clause-fit c =
    let all = count c.self.inside _ c.self.view_is in
    let most = most_is c.self.inside _ c.self.view_is in
    omega (arith, all, most, c.requires.room, c.self.invariant.scratch_fit)

pub put-requires-clause-within : goal.put-requires-clause-within
put-requires-clause-within c =
    let old = c.self.inside in
    let all = count old _ c.self.view_is in
    elim c.if-len-eq-MOST_LATE.branch [
      | then-len-eq-MOST_LATE w ↦
          let long = joined-long 0 old.settled.items old.late.items in
          omega (arith, all, long, c.requires.within, ap length w.settle.ensures.keys, ap (λ s. length s.settled.items) w.self-inside-is)
      | else-len-eq-MOST_LATE w ↦ omega (arith, all, c.requires.within, ap (λ s. length s.settled.items) w.self-inside-is, ap (λ s. length s.late.items) w.self-inside-is)
    ]

pub put-requires-clause-settled_room : goal.put-requires-clause-settled_room
put-requires-clause-settled_room c =
    let old = c.self.inside in
    let now = c.if-len-eq-MOST_LATE.self-inside in
    let all = count old _ c.self.view_is in
    let most = most_is old _ c.self.view_is in
    elim c.if-len-eq-MOST_LATE.branch [
      | then-len-eq-MOST_LATE w ↦
          let long = joined-long 0 old.settled.items old.late.items in
          omega (arith, all, most, long, c.requires.room, c.self.invariant.scratch_fit, w.settle.ensures.settled, now.settled.ok.0, ap length w.settle.ensures.keys, ap (λ s. length s.settled.items) w.self-inside-is, ap (λ s. vec_capacity s.settled) w.self-inside-is)
      | else-len-eq-MOST_LATE w ↦ omega (arith, all, most, c.requires.room, c.self.invariant.settled_fit, now.settled.ok.0, ap (λ s. length s.settled.items) w.self-inside-is, ap (λ s. vec_capacity s.settled) w.self-inside-is)
    ]

pub put-requires-clause-late_room : goal.put-requires-clause-late_room
put-requires-clause-late_room c =
    let old = c.self.inside in
    let now = c.if-len-eq-MOST_LATE.self-inside in
    let all = count old _ c.self.view_is in
    let most = most_is old _ c.self.view_is in
    elim c.if-len-eq-MOST_LATE.branch [
      | then-len-eq-MOST_LATE w ↦
          omega (arith, all, most, c.requires.room, c.self.invariant.late_fit, w.settle.ensures.late, now.late.ok.0, ap length w.settle.ensures.none, ap (λ s. length s.late.items) w.self-inside-is, ap (λ s. vec_capacity s.late) w.self-inside-is)
      | else-len-eq-MOST_LATE w ↦ omega (arith, all, most, c.requires.room, c.self.invariant.late_fit, c.self.invariant.few, w.if-len-eq-MOST_LATE.false, c.len.ensures, now.late.ok.0, old.late.ok.0, ap (λ s. length s.late.items) w.self-inside-is, ap (λ s. vec_capacity s.late) w.self-inside-is)
    ]
