use Rattle.std.proofs.Common.{length, ap, ◌∙◌}
use Rattle.melon_raw.proofs.Fitted.{length-cells}
use Rattle.melon_change.proofs.CellsWith.{length-cells_with}
use Rattle.melon_change.proofs.edit.updated.Goals as goal

pub cells_with-cells-requires : goal.cells_with-cells-requires
cells_with-cells-requires c = ap length c.in_ok-copy.ensures ∙ length-cells c.args.columns.now c.args.row.now c.requires

pub differing-requires-clause-before : goal.differing-requires-clause-before
differing-requires-clause-before c = ap length c.as_slice.ensures ∙ length-cells c.args.columns.now c.args.row.now c.requires

pub differing-requires-clause-after : goal.differing-requires-clause-after
differing-requires-clause-after c =
    ap length c.as_slice-2.ensures.value ∙ (ap length c.cells_with-cells.ensures ∙ (length-cells_with c.args.fields 0 c.args.columns.now c.in_ok-copy.field-0 ∙ (ap length c.in_ok-copy.ensures ∙ length-cells c.args.columns.now c.args.row.now c.requires)))
