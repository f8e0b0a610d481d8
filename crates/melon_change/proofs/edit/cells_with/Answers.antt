use Rattle.std.proofs.Common.{◌≡◌, ℕ, List, [], ◌∷◌, ◌++◌, length, set, sym, ap, ◌∙◌, append-nil, append_assoc}
use Rattle.melon_raw.specs.declared.datum.Datum.{Datum}
use Rattle.melon_raw.specs.Datum.{fit}
use Rattle.melon_raw.specs.Rows.{column_at}
use Rattle.melon_change.specs.Edited.{cells_with}
use Rattle.melon_change.proofs.CellsWith.{cells_with-none, cells_with-more, length-cells_with}
use Rattle.melon_change.proofs.edit.cells_with.Goals as goal

pub loop-place-init : goal.loop-place-init
loop-place-init c = ([], sym c.into_vec-left.ensures ∙ sym (append-nil _), c.into_vec-cells.ensures ∙ sym (cells_with-none 0 c.args.columns.now c.args.old c.requires))

pub put_cell-requires : goal.put_cell-requires
put_cell-requires c = ap length c.loop-place.invariant.2 ∙ (length-cells_with c.loop-place.invariant.0 0 c.args.columns.now c.args.old ∙ c.requires)

pub loop-place-preserved : goal.loop-place-preserved
loop-place-preserved c =
    let done : List (ℕ × Datum) = c.loop-place.invariant.0 in
    let place : ℕ = c.in-Some.place in
    let value : Datum = c.in-Some.value in (
      (place, value) ∷ done,
      c.loop-place.invariant.1 ∙ ap (λ front. front ++ done) c.in-Some.ensures.items ∙ append_assoc c.pop.new.self.items ((place, value) ∷ []) done,
      c.put_cell.ensures ∙ ap (λ cells. set cells place (fit (column_at c.args.columns.now place) value)) c.loop-place.invariant.2 ∙ sym (cells_with-more place value done c.args.columns.now c.args.old c.requires),
    )
