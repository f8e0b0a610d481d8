use Rattle.std.proofs.Common.{◌≡◌, List, refl, ap, ap₂, sym, ◌∙◌}
use Rattle.std.proofs.lemmas.Result.{on_ok_weaker}
use Rattle.melon_outside.specs.declared.kept.Kept.{Kept}
use Rattle.melon_outside.specs.declared.kept.KeptRow.{KeptRow}
use Rattle.melon_outside.specs.declared.kept.KeptValue.{KeptValue}
use Rattle.melon_outside.specs.Ascending.{with_items}
use Rattle.melon_outside.specs.Kept.{text_cmp, name_of}
use Rattle.melon_outside.specs.Shelved.{seen_kept}
use Rattle.melon_outside.proofs.Batches.{batched-parts}
use Rattle.melon_outside.proofs.shelf.Shelf.commit.Goals as goal

abbrev both : List KeptRow → List KeptValue → Kept
both rows values = record { rows = rows; values = values }

pub returns-then-is_empty-clause-ok : goal.returns-then-is_empty-clause-ok
returns-then-is_empty-clause-ok c =
    let was = seen_kept c.args.self.now in
    on_ok_weaker c.commit_rows.result
    (λ rows. ap₂ both rows (sym (ap (λ vs. with_items text_cmp name_of vs was.values) (c.if-is_empty.ensures.0 refl))) ∙ sym (batched-parts c.args.batch.now was))
    (rw (c.as_slice-removes.ensures, c.as_slice-puts.ensures) at c.commit_rows.ensures.ok)

pub returns-clause-ok : goal.returns-clause-ok
returns-clause-ok c =
    ap₂ both
    (rw (c.as_slice-removes.ensures, c.as_slice-puts.ensures) at c.in_ok-commit_rows.ensures.ok)
    (rw c.as_slice.ensures at c.in_ok-values.ensures)
    ∙ sym (batched-parts c.args.batch.now (seen_kept c.args.self.now))
