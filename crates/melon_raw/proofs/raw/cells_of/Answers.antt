use Rattle.std.proofs.Common.{ℕ, List, [], ◌∷◌, ◌++◌, length, set, sym, ap, ◌∙◌, append-nil, append_assoc}
use Rattle.melon_raw.specs.declared.datum.Datum.{Datum}
use Rattle.melon_raw.specs.Datum.{fit}
use Rattle.melon_raw.specs.Rows.{column_at}
use Rattle.melon_raw.proofs.Cells.{cells_from-no_fields, cells_from-more, length-cells_from}
use Rattle.melon_raw.proofs.raw.cells_of.Goals as goal

pub loop-place-init : goal.loop-place-init
loop-place-init c = ([], sym (append-nil _), c.in_ok-cells.ensures ∙ sym (cells_from-no_fields 0 c.args.columns.now))

pub put_cell-requires : goal.put_cell-requires
put_cell-requires c = ap length c.loop-place.invariant.2 ∙ length-cells_from c.loop-place.invariant.0 0 c.args.columns.now

pub loop-place-preserved : goal.loop-place-preserved
loop-place-preserved c =
    let done : List (ℕ × Datum) = c.loop-place.invariant.0 in
    let place : ℕ = c.in-Some.place in
    let value : Datum = c.in-Some.value in (
      (place, value) ∷ done,
      c.loop-place.invariant.1 ∙ ap (λ front. front ++ done) c.in-Some.ensures.items ∙ append_assoc c.pop.new.self.items ((place, value) ∷ []) done,
      c.put_cell.ensures ∙ ap (λ cells. set cells place (fit (column_at c.args.columns.now place) value)) c.loop-place.invariant.2 ∙ sym (cells_from-more place value done c.args.columns.now),
    )
