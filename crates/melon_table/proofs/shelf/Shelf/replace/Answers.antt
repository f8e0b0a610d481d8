use Rattle.std.proofs.Common.{◌≡◌, ℕ, Some, length, take, set, true, false, sym, ap, ◌∙◌, arith}
use Rattle.slab.specs.Slab.{get, with_value}
use Rattle.slab.proofs.SlabLemmas.{Updates-with_value}
use Rattle.melon_raw.specs.declared.raw.Raw.{Raw}
use Rattle.melon_table.specs.Dirty.{is_dirty}
use Rattle.melon_table.specs.Stocked.{is_dirty_slot, dirty_keys, marked}
use Rattle.melon_table.proofs.Stock.{inside, has_row, row_is, held-put, rows-put, same_count}
use Rattle.melon_table.proofs.Dirtied.{changed, placed, before_is, rank_short, rank_below_all, dirty_fewer}
use Rattle.melon_table.proofs.shelf.Shelf.replace.Goals as goal

pub at-key-requires : goal.at-key-requires
at-key-requires c = inside c.self.inside _ c.self.view_is c.self.invariant c.args.place c.requires.within

pub index_mut-requires : goal.index_mut-requires
index_mut-requires c = has_row c.self.inside _ c.self.view_is c.self.invariant c.args.place c.requires.within c.at-key.result c.at-key.ensures

pub mark-requires-clause-room : goal.mark-requires-clause-room
mark-requires-clause-room c was is =
    let s = c.self.inside in
    let key = c.at-key.result in
    let old = c.index_mut.ensures.value ∙ ap Some (sym c.replace-old.ensures.value) in
    let here = row_is s _ c.self.view_is c.self.invariant c.args.place c.requires.within key c.at-key.ensures ∙ old in
    let before = c.requires.before c.replace-old.result here (λ e. let no : false ≡ true = sym was ∙ (c.is_dirty.ensures ∙ (e ∙ (sym c.is_dirty-is.ensures ∙ is))) in cc) in
    let short = rank_short s _ c.self.view_is c.self.invariant c.args.place in
    let fewer = dirty_fewer s _ c.self.view_is c.self.invariant c.args.place key c.at-key.ensures (ap is_dirty_slot old ∙ (sym c.is_dirty.ensures ∙ was)) in
    (omega (arith, before, short), omega (arith, fewer, c.self.invariant.dirty_fit))

pub mark-requires-clause-there : goal.mark-requires-clause-there
mark-requires-clause-there c was is =
    let s = c.self.inside in
    let key = c.at-key.result in
    let old = c.index_mut.ensures.value ∙ ap Some (sym c.replace-old.ensures.value) in
    let here = row_is s _ c.self.view_is c.self.invariant c.args.place c.requires.within key c.at-key.ensures ∙ old in
    let before = c.requires.before c.replace-old.result here (λ e. let no : true ≡ false = sym was ∙ (c.is_dirty.ensures ∙ (e ∙ (sym c.is_dirty-is.ensures ∙ is))) in cc) in
    let low = rank_below_all s _ c.self.view_is c.self.invariant c.args.place key c.at-key.ensures (ap is_dirty_slot old ∙ (sym c.is_dirty.ensures ∙ was)) in
    omega (arith, before, low)

pub invariant_of-self : goal.invariant_of-self
invariant_of-self c =
    let s = c.self.inside in
    let key = c.at-key.result in
    let row = c.replace-old.new.dest in
    let new = with_value s.rows key row in
    let has = has_row s _ c.self.view_is c.self.invariant c.args.place c.requires.within key c.at-key.ensures in
    let updates = Updates-with_value s.rows key row has in
    let was = c.is_dirty.result in
    let is = c.is_dirty-is.result in
    let old = c.index_mut.ensures.value ∙ ap Some (sym c.replace-old.ensures.value) in
    let here = row_is s _ c.self.view_is c.self.invariant c.args.place c.requires.within key c.at-key.ensures ∙ old in
    record {
      held = held-put s.rows new key row updates s.order.keys c.self.invariant.held;
      apart = c.self.invariant.apart;
      dirty =
          c.mark.ensures.keys
          ∙ (ap (marked was is c.args.before key) c.self.invariant.dirty
          ∙ (placed was is c.args.before (length (dirty_keys s.rows (take c.args.place s.order.keys))) key (dirty_keys s.rows s.order.keys)
          (λ apart. c.requires.before c.replace-old.result here (λ e. apart (c.is_dirty.ensures ∙ (e ∙ sym c.is_dirty-is.ensures))) ∙ sym (before_is s _ c.self.view_is c.self.invariant c.args.place))
          ∙ sym (changed (λ (k : ℕ). is_dirty_slot (get s.rows k)) (λ (k : ℕ). is_dirty_slot (get new k)) key (λ k apart. ap is_dirty_slot (updates.others k apart)) s.order.keys c.args.place c.at-key.ensures c.self.invariant.apart was is (ap is_dirty_slot old ∙ sym c.is_dirty.ensures) (ap is_dirty_slot updates.changed ∙ (ap (λ (r : Raw). is_dirty r.status) c.replace-old.ensures.after ∙ sym c.is_dirty-is.ensures)))));
      dirty_fit = omega (arith, c.self.invariant.dirty_fit, c.mark.ensures.most);
      keys_fit = c.self.invariant.keys_fit;
      rows_fit = omega (arith, c.self.invariant.rows_fit, same_count s.rows key row has);
    }

pub returns-clause-was : goal.returns-clause-was
returns-clause-was c =
    row_is c.self.inside _ c.self.view_is c.self.invariant c.args.place c.requires.within c.at-key.result c.at-key.ensures
    ∙ (c.index_mut.ensures.value ∙ ap Some (sym c.replace-old.ensures.value))

pub returns-clause-rows : goal.returns-clause-rows
returns-clause-rows c =
    let s = c.self.inside in
    let key = c.at-key.result in
    let row = c.replace-old.new.dest in
    let has = has_row s _ c.self.view_is c.self.invariant c.args.place c.requires.within key c.at-key.ensures in
    rows-put s.rows (with_value s.rows key row) key row (Updates-with_value s.rows key row has) s.order.keys c.args.place c.self.invariant.held c.self.invariant.apart c.at-key.ensures
    ∙ (ap (λ t. set t.rows c.args.place row) c.self.view_is ∙ ap (λ (r : Raw). set c.args.self.now.rows c.args.place r) c.replace-old.ensures.after)
