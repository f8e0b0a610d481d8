use Rattle.std.proofs.Common.{rules, sym, ap, ◌∙◌}
use Rattle.std.proofs.lemmas.Cmp.{nat_list_cmp_total, on_total}
use Rattle.std.proofs.lemmas.List.{map-id}
use Rattle.melon_eval.proofs.Sorting.{in_order_from_sort_by}
use Rattle.melon_observe.specs.declared.patching.Patch.{Patch}
use Rattle.melon_observe.specs.Patches.{id_of, by_id}
use Rattle.melon_observe.proofs.Sorted.{patch_cmp}
use Rattle.melon_observe.proofs.patching.patches_of.Goals as goal

pub returns : goal.returns
returns c =
    let was = c.in_ok-patches.patches.items in
    let now = c.sort_by.new.self.items in
    sym (map-id now)
    ∙ (in_order_from_sort_by (λ (p : Patch). p) patch_cmp (on_total id_of nat_list_cmp_total) was now c.in_ok-sort_by.ensures.sorted c.sort_by.ensures.stable (λ a r q k. search rules)
    ∙ (ap by_id (map-id was) ∙ ap by_id c.in_ok-patches.ensures))
