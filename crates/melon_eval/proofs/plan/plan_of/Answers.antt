use Rattle.std.proofs.Common.{List, ap, sym, ◌∙◌}
use Rattle.melon_table.specs.Seen.{rows_of}
use Rattle.melon_eval.specs.Seen.{conds_at, seen_asks}
use Rattle.melon_eval.specs.Sources.{all_offered}
use Rattle.melon_eval.proofs.Planning.{plan_is}
use Rattle.melon_eval.proofs.plan.plan_of.Goals as goal

pub returns : goal.returns
returns g c = λ main.
    let parts = c.in_ok-parts.parts in
    let are = c.in_ok-parts.ensures in
    let asks = seen_asks c.as_slice.result.now in
    let sources = c.in_ok-sources.sources.items in
    let tables = rows_of c.args.tables.now in
    plan_is c.args.conds.now tables main (conds_at parts.plain.items) (conds_at parts.joining.items) asks c.as_slice-2.result.now (all_offered (seen_asks parts.asks.items) sources main)
    are.plain are.joining (ap seen_asks c.as_slice.ensures.value ∙ are.asks) (c.as_slice-2.ensures.value ∙ c.in_ok-joined.ensures)
    (ap (λ some. all_offered (seen_asks some) sources main) (sym c.as_slice.ensures.value) ∙ c.in_ok-sources.ensures main)
