use Rattle.std.proofs.Common.{rules, Some, None, ◌∷◌, List, Bor, bytes_eq, cond, ap, sym, ◌∙◌}
use Rattle.std.specs.HashMap.{get_by}
use Rattle.std.proofs.lemmas.Map.Text.{hash_map_updates_str}
use Rattle.std.proofs.lemmas.Result.{on_ok_weaker}
use Rattle.melon_raw.specs.declared.raw.Raw.{Raw}
use Rattle.melon_eval.specs.Offers.{with_kept}
use Rattle.melon_eval.specs.Seen.{seen_asks, rows_at}
use Rattle.melon_eval.specs.Grouped.{group_of}
use Rattle.melon_eval.proofs.Grouping.{added_under}
use Rattle.melon_eval.proofs.groups.add_under.Goals as goal

pub returns-in-Some : goal.returns-in-Some
returns-in-Some c =
    let new = c.add_to_group.new.group in
    let after = c.get_mut.follows.lender new in
    on_ok_weaker c.add_to_group.result
    (λ grown. added_under (seen_asks c.args.asks.now) c.args.table c.args.groups.now after c.args.key.now new c.args.row.now
    (hash_map_updates_str c.args.key.now c.args.groups.now after (Some new) ((c.get_mut.follows.holds new).3 (search rules)))
    (Some c.in-Some.group.now) (sym c.in-Some.ensures.value) grown)
    c.add_to_group.ensures

pub returns-in_ok-insert-in-None : goal.returns-in_ok-insert-in-None
returns-in_ok-insert-in-None c = λ id.
    let before = c.get_mut.follows.lender-at-none in
    let same = c.get_mut.follows.holds-at-none in
    let asks = seen_asks c.args.asks.now in
    let key = c.args.key.now in
    let row = c.args.row.now in
    added_under asks c.args.table before c.insert.new.self key (record { first = c.args.row; others = c.new.result }) row
    (hash_map_updates_str key before c.insert.new.self _ c.in_ok-insert-in-None.ensures.updates)
    None (ap (λ m. get_by (λ k. bytes_eq key k.now) m) same ∙ sym c.in-None.ensures.value)
    (ap (λ (others : List (Bor Raw)). row ∷ rows_at others) c.new.ensures.items) id
    ∙ ap (λ m. cond (bytes_eq key id) (with_kept asks c.args.table (group_of m id) row) (group_of m id)) same
