use Rattle.std.proofs.Common.{◌≡◌, List, ℕ, length, sym, ap, subst, ◌∙◌, arith}
use Rattle.slab.specs.Slab.{Slab}
use Rattle.melon_raw.specs.declared.raw.Raw.{Raw}
use Rattle.melon_table.specs.Stocked.{AllHeld, AreApart, dirty_keys}
use Rattle.melon_table.proofs.shelf.Shelf.room.Goals as goal

pub invariant_of-self-then-self-n : goal.invariant_of-self-then-self-n
invariant_of-self-then-self-n c =
    let s = c.self.inside in
    let keys = sym c.in_ok-room.ensures.keys in
    let rows = sym c.in_ok-reserve.ensures.rest_kept in
    record {
      held = subst (λ (ks : List ℕ). AllHeld c.reserve.new.self ks) keys (subst (λ (r : Slab Raw). AllHeld r s.order.keys) rows c.self.invariant.held);
      apart = subst (λ (ks : List ℕ). AreApart ks) keys c.self.invariant.apart;
      dirty =
          c.in_ok-room-2.ensures.keys
          ∙ (c.self.invariant.dirty
          ∙ (ap (λ (r : Slab Raw). dirty_keys r s.order.keys) rows ∙ ap (dirty_keys c.reserve.new.self) keys));
      dirty_fit = omega (arith, c.in_ok-room-2.ensures.ok, c.saturating_add.ensures, c.len.ensures, c.in_ok-room.ensures.ok, c.in_ok-room.ensures.fits);
      keys_fit = omega (arith, c.in_ok-room.ensures.ok);
      rows_fit = c.in_ok-reserve.ensures.room;
    }
