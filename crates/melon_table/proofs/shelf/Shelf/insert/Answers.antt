use Rattle.std.proofs.Common.{◌≤◌, ℕ, List, length, take, false, sym, ap, subst, ◌∙◌, arith}
use Rattle.std.specs.List.{insert}
use Rattle.std.proofs.lemmas.List.Edits.{length-insert}
use Rattle.slab.specs.Slab.{get}
use Rattle.melon_table.specs.Stocked.{rows_at, AllHeld, AreApart, is_dirty_slot, dirty_keys, marked}
use Rattle.melon_table.proofs.Stock.{len_is, lacks_new, held-insert, rows-insert, apart-insert}
use Rattle.melon_table.proofs.Dirtied.{came, placed, is_true, before_is, rank_short, dirty_few}
use Rattle.melon_table.proofs.shelf.Shelf.insert.Goals as goal

pub insert-requires-clause-within : goal.insert-requires-clause-within
insert-requires-clause-within c = omega (arith, c.requires.within, len_is c.self.inside _ c.self.view_is c.self.invariant)

pub mark-requires-clause-room : goal.mark-requires-clause-room
mark-requires-clause-room c was is =
    let s = c.self.inside in
    let before = c.requires.before (sym c.is_dirty-is.ensures ∙ is) in
    let short = rank_short s _ c.self.view_is c.self.invariant c.args.place in
    let few = dirty_few s _ c.self.view_is c.self.invariant in
    (omega (arith, before, short), omega (arith, few, c.self.invariant.dirty_fit, c.requires.room, ap (λ t. t.spare) c.self.view_is))

pub invariant_of-self : goal.invariant_of-self
invariant_of-self c =
    let s = c.self.inside in
    let key = c.insert_reserved-key.result in
    let new = c.insert_reserved-key.new.self in
    let lacks = lacks_new s.rows s.order.keys key c.self.invariant.held c.insert_reserved-key.ensures.was_vacant in
    let held = held-insert s.rows new key c.args.row c.insert_reserved-key.ensures.updates s.order.keys c.args.place c.self.invariant.held in
    let keys = sym c.insert.ensures.keys in
    let is = c.is_dirty-is.result in
    let within : c.args.place ≤ length s.order.keys = omega (arith, c.requires.within, len_is s _ c.self.view_is c.self.invariant) in
    let more = length-insert s.order.keys c.args.place key within in
    record {
      held = subst (λ (ks : List ℕ). AllHeld new ks) keys held;
      apart = subst (λ (ks : List ℕ). AreApart ks) keys (apart-insert s.order.keys c.args.place key c.self.invariant.apart lacks);
      dirty =
          c.mark.ensures.keys
          ∙ (ap (marked false is c.args.before key) c.self.invariant.dirty
          ∙ (placed false is c.args.before (length (dirty_keys s.rows (take c.args.place s.order.keys))) key (dirty_keys s.rows s.order.keys)
          (λ apart. c.requires.before (sym c.is_dirty-is.ensures ∙ is_true is apart) ∙ sym (before_is s _ c.self.view_is c.self.invariant c.args.place))
          ∙ (sym (came (λ (k : ℕ). is_dirty_slot (get s.rows k)) (λ (k : ℕ). is_dirty_slot (get new k)) key (λ k apart. ap is_dirty_slot (c.insert_reserved-key.ensures.updates.others k apart)) s.order.keys c.args.place within lacks is (ap is_dirty_slot c.insert_reserved-key.ensures.updates.changed ∙ sym c.is_dirty-is.ensures))
          ∙ ap (dirty_keys new) keys)));
      dirty_fit = omega (arith, c.self.invariant.dirty_fit, more, ap length c.insert.ensures.keys, c.mark.ensures.most, c.requires.room, ap (λ t. t.spare) c.self.view_is);
      keys_fit = omega (arith, c.self.invariant.keys_fit, more, ap length c.insert.ensures.keys, c.insert.ensures.most, c.requires.room, ap (λ t. t.spare) c.self.view_is);
      rows_fit = omega (arith, c.self.invariant.rows_fit, c.insert_reserved-key.ensures.len, c.insert_reserved-key.ensures.capacity, c.requires.room, ap (λ t. t.spare) c.self.view_is);
    }

pub returns-clause-rows : goal.returns-clause-rows
returns-clause-rows c =
    let s = c.self.inside in
    let key = c.insert_reserved-key.result in
    let new = c.insert_reserved-key.new.self in
    let lacks = lacks_new s.rows s.order.keys key c.self.invariant.held c.insert_reserved-key.ensures.was_vacant in
    let within : c.args.place ≤ length s.order.keys = omega (arith, c.requires.within, len_is s _ c.self.view_is c.self.invariant) in
    ap (λ ks. rows_at new ks) c.insert.ensures.keys
    ∙ (rows-insert s.rows new key c.args.row c.insert_reserved-key.ensures.updates s.order.keys c.args.place within c.self.invariant.held lacks
    ∙ ap (λ t. insert t.rows c.args.place c.args.row) c.self.view_is)
