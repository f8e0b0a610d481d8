use Rattle.std.proofs.Common.{List, ℕ, length, sym, subst, ◌∙◌, arith}
use Rattle.melon_table.specs.declared.keys.Late.{Late}
use Rattle.melon_table.specs.Late.{AreLate}
use Rattle.melon_table.proofs.Counted.{count}
use Rattle.melon_table.proofs.keys.Keys.room.Goals as goal

pub invariant_of-self-then-self-most : goal.invariant_of-self-then-self-most
invariant_of-self-then-self-most c =
    let all = count c.self.inside _ c.self.view_is in
    record {
      late =
          subst (λ (l : List Late). AreLate 0 (length c.reserve.new.self.items) l) (sym c.in_ok-reserve-3.ensures.items)
          (subst (λ (l : List ℕ). AreLate 0 (length l) c.self.inside.late.items) (sym c.in_ok-reserve.ensures.items) c.self.invariant.late);
      few = omega (arith, c.in_ok-reserve-3.ensures.len, c.self.invariant.few);
      settled_fit = omega (arith, c.in_ok-reserve.ensures.ok, c.in_ok-reserve.ensures.len, c.saturating_add-most.ensures, c.saturating_add.ensures, c.len.ensures, c.len-then-self-most.ensures, all, c.self.inside.settled.ok.0, c.self.inside.late.ok.0);
      scratch_fit = omega (arith, c.in_ok-reserve-2.ensures.ok, c.in_ok-reserve-2.ensures.len);
      late_fit = omega (arith, c.in_ok-reserve-3.ensures.ok);
      empty = c.in_ok-reserve-2.ensures.items ∙ c.self.invariant.empty;
    }
