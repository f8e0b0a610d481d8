use Rattle.std.proofs.Common.{Bor, rules}
use Rattle.std.proofs.lemmas.Result.{on_ok_weaker}
use Rattle.melon_raw.specs.declared.raw.Raw.{Raw}
use Rattle.melon_query.specs.Order.{row_cmp}
use Rattle.melon_eval.proofs.Sorting.{in_order_from_sort_by}
use Rattle.melon_eval.proofs.Ordering.{row_cmp_total}
use Rattle.melon_eval.proofs.sort.sort_rows.Goals as goal

pub returns : goal.returns
returns c =
    on_ok_weaker c.sort_by.result
    (λ sorted. in_order_from_sort_by (λ (r : Bor Raw). r.now) (row_cmp c.args.keys.now) (row_cmp_total c.args.keys.now) c.args.rows.now.items c.sort_by.new.self.items sorted c.sort_by.ensures.stable (λ a r q k. search rules))
    c.sort_by.ensures.sorted
