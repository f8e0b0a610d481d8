use Rattle.std.proofs.Common.{◌++◌, ◌∷◌, [], map, sym, ap, ◌∙◌, arith}
use Rattle.std.specs.List.{range_with_len}
use Rattle.std.proofs.lemmas.List.FromFn.{map-range_with_len_more}
use Rattle.melon_log.specs.ServerRows.{cell_sent}
use Rattle.melon_backend.proofs.cells.cells_sent.Goals as goal

pub loop-c-preserved : goal.loop-c-preserved
loop-c-preserved c =
    let f = cell_sent c.args.columns.now c.args.row.now.cells c.args.fields.now in
    c.in_ok-push.ensures.items ∙ (ap (λ cells. cells ++ c.in_ok-cell_sent.field-0 ∷ []) c.loop-c.invariant ∙ (ap (λ d. map f (range_with_len 0 c.loop-c.c) ++ d ∷ []) c.in_ok-cell_sent.ensures ∙ sym (map-range_with_len_more f 0 c.loop-c.c c.loop-c.c (omega arith))))
