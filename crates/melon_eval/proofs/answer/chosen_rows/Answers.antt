use Rattle.std.proofs.Common.{Bor, ap, sym, ◌∙◌, length}
use Rattle.std.proofs.lemmas.List.{length-map}
use Rattle.melon_raw.specs.declared.raw.Raw.{Raw}
use Rattle.melon_eval.specs.Seen.{rows_at}
use Rattle.melon_eval.specs.Planned.{planned}
use Rattle.melon_eval.proofs.Paging.{enough, front_more}
use Rattle.melon_eval.proofs.answer.chosen_rows.Goals as goal

pub returns-then-is_full-clause-rows : goal.returns-then-is_full-clause-rows
returns-then-is_full-clause-rows g c =
    enough (planned c.args.plan.now) c.args.table.now.rows c.loop-i.i c.args.most (rows_at c.loop-i.chosen.items) (length c.as_slice.result.now) c.loop-i.invariant.front
    (ap (length {A = Bor Raw}) c.as_slice.ensures.value ∙ sym (length-map c.loop-i.chosen.items (λ (r : Bor Raw). r.now))) (sym c.if-is_full.ensures)

pub loop-i-preserved : goal.loop-i-preserved
loop-i-preserved g c = record {
  empty = c.in_ok-add_chosen.ensures.members;
  front =
      front_more (planned c.args.plan.now) c.args.table.now.rows c.loop-i.i c.row-row.result.now c.row-row.ensures.row c.args.most (rows_at c.loop-i.chosen.items) (rows_at c.add_chosen.new.chosen.items) (length c.as_slice.result.now)
      c.in_ok-add_chosen.ensures.chosen
      (ap (length {A = Bor Raw}) c.as_slice.ensures.value ∙ sym (length-map c.loop-i.chosen.items (λ (r : Bor Raw). r.now))) (sym c.if-is_full.ensures) c.loop-i.invariant.front;
}
