use Rattle.std.proofs.Common.{◌++◌, ◌∷◌, [], map, sym, ap, ◌∙◌, arith}
use Rattle.std.specs.List.{range_with_len}
use Rattle.std.proofs.lemmas.List.FromFn.{map-range_with_len_more}
use Rattle.melon_wire.specs.Resolution.{resolved_cell}
use Rattle.melon_pull.proofs.resolution.resolved_cells.Goals as goal

pub loop-c-preserved : goal.loop-c-preserved
loop-c-preserved c =
    let f = resolved_cell c.args.columns.now c.args.local.now c.args.fields.now in
    c.in_ok-push.ensures.items ∙ (ap (λ cells. cells ++ c.in_ok-resolved_cell.field-0 ∷ []) c.loop-c.invariant ∙ (ap (λ d. map f (range_with_len 0 c.loop-c.c) ++ d ∷ []) c.in_ok-resolved_cell.ensures ∙ sym (map-range_with_len_more f 0 c.loop-c.c c.loop-c.c (omega arith))))
