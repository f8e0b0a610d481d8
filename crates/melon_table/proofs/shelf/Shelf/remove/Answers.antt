use Rattle.std.proofs.Common.{◌≡◌, ℕ, List, length, take, true, false, sym, ap, subst, ◌∙◌, arith}
use Rattle.std.specs.List.{remove}
use Rattle.std.proofs.lemmas.List.Edits.{length-remove}
use Rattle.slab.specs.Slab.{get}
use Rattle.melon_table.specs.Dirty.{is_dirty}
use Rattle.melon_table.specs.Stocked.{rows_at, AllHeld, AreApart, is_dirty_slot, dirty_keys, marked}
use Rattle.melon_table.proofs.Stock.{inside, has_row, row_is, held-remove, rows-removed, apart-remove}
use Rattle.melon_table.proofs.Dirtied.{went, placed, was_true, before_is, rank_below_all}
use Rattle.melon_table.proofs.shelf.Shelf.remove.Goals as goal

pub remove-key-requires : goal.remove-key-requires
remove-key-requires c = inside c.self.inside _ c.self.view_is c.self.invariant c.args.place c.requires.within

pub remove-row-requires : goal.remove-row-requires
remove-row-requires c = has_row c.self.inside _ c.self.view_is c.self.invariant c.args.place c.requires.within c.remove-key.result c.remove-key.ensures.was

pub mark-requires-clause-there : goal.mark-requires-clause-there
mark-requires-clause-there c was is =
    let s = c.self.inside in
    let key = c.remove-key.result in
    let dirty : is_dirty c.remove-row.result.status ≡ true = sym c.is_dirty.ensures ∙ was in
    let here = row_is s _ c.self.view_is c.self.invariant c.args.place c.requires.within key c.remove-key.ensures.was ∙ c.remove-row.ensures.value in
    let before = c.requires.before c.remove-row.result here dirty in
    let low = rank_below_all s _ c.self.view_is c.self.invariant c.args.place key c.remove-key.ensures.was (ap is_dirty_slot c.remove-row.ensures.value ∙ dirty) in
    omega (arith, before, low)

pub invariant_of-self : goal.invariant_of-self
invariant_of-self c =
    let s = c.self.inside in
    let key = c.remove-key.result in
    let new = c.remove-row.new.self in
    let was = c.is_dirty.result in
    let held = held-remove s.rows new key c.remove-row.ensures.updates s.order.keys c.args.place c.self.invariant.held c.self.invariant.apart c.remove-key.ensures.was in
    let keys = sym c.remove-key.ensures.keys in
    let fewer = length-remove s.order.keys c.args.place (inside s _ c.self.view_is c.self.invariant c.args.place c.requires.within) in
    let here = row_is s _ c.self.view_is c.self.invariant c.args.place c.requires.within key c.remove-key.ensures.was ∙ c.remove-row.ensures.value in
    record {
      held = subst (λ (ks : List ℕ). AllHeld new ks) keys held;
      apart = subst (λ (ks : List ℕ). AreApart ks) keys (apart-remove s.order.keys c.args.place c.self.invariant.apart);
      dirty =
          c.mark.ensures.keys
          ∙ (ap (marked was false c.args.before key) c.self.invariant.dirty
          ∙ (placed was false c.args.before (length (dirty_keys s.rows (take c.args.place s.order.keys))) key (dirty_keys s.rows s.order.keys)
          (λ apart. c.requires.before c.remove-row.result here (sym c.is_dirty.ensures ∙ was_true was apart) ∙ sym (before_is s _ c.self.view_is c.self.invariant c.args.place))
          ∙ (sym (went (λ (k : ℕ). is_dirty_slot (get s.rows k)) (λ (k : ℕ). is_dirty_slot (get new k)) key (λ k apart. ap is_dirty_slot (c.remove-row.ensures.updates.others k apart)) s.order.keys c.args.place c.remove-key.ensures.was c.self.invariant.apart was (ap is_dirty_slot c.remove-row.ensures.value ∙ sym c.is_dirty.ensures))
          ∙ ap (dirty_keys new) keys)));
      dirty_fit = omega (arith, c.self.invariant.dirty_fit, fewer, ap length c.remove-key.ensures.keys, c.mark.ensures.most);
      keys_fit = omega (arith, c.self.invariant.keys_fit, fewer, ap length c.remove-key.ensures.keys, c.remove-key.ensures.most);
      rows_fit = omega (arith, c.self.invariant.rows_fit, c.remove-row.ensures.len, c.remove-row.ensures.capacity);
    }

pub returns-clause-was : goal.returns-clause-was
returns-clause-was c = row_is c.self.inside _ c.self.view_is c.self.invariant c.args.place c.requires.within c.remove-key.result c.remove-key.ensures.was ∙ c.remove-row.ensures.value

pub returns-clause-rows : goal.returns-clause-rows
returns-clause-rows c =
    let s = c.self.inside in
    ap (λ ks. rows_at c.remove-row.new.self ks) c.remove-key.ensures.keys
    ∙ (rows-removed s.rows c.remove-row.new.self c.remove-key.result c.remove-row.ensures.updates s.order.keys c.args.place c.self.invariant.held c.self.invariant.apart c.remove-key.ensures.was
    ∙ ap (λ t. remove t.rows c.args.place) c.self.view_is)
