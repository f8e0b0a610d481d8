use Rattle.std.proofs.Common.{ℕ, ◌+◌, ap, ◌∙◌}
use Rattle.melon_schema.specs.declared.schema.TableSchema.{TableSchema}
use Rattle.melon_board.specs.Sizes.{bytes_if_any}
use Rattle.melon_board.proofs.LaidOut.{enough, more_laid}
use Rattle.melon_board.proofs.opening.put_opened.Goals as goal

pub overflow_sub-opened : goal.overflow_sub-opened
overflow_sub-opened c = enough c.args.schema.now.tables c.args.opened.now c.args.found.0 c.args.found.1 c.args.kept.now.body c.requires.within c.requires.row c.requires.so_far c.in_ok-total.total c.in_ok-gone.gone c.in_ok-replaced.replaced
    (c.in_ok-total.ensures ∙ ap (λ (n : ℕ). c.args.opened.now.stored + n) c.len.ensures) c.in_ok-replaced.ensures.was
    (c.in_ok-gone.ensures ∙ ap (λ (table : TableSchema). bytes_if_any table c.in_ok-replaced.replaced) c.declared_at.ensures)

pub returns-clause-so_far : goal.returns-clause-so_far
returns-clause-so_far c = more_laid c.args.schema.now.tables c.args.opened.now c.args.found.0 c.args.found.1 c.args.kept.now.body c.requires.within c.requires.row c.requires.so_far c.in_ok-total.total c.in_ok-gone.gone c.in_ok-replaced.replaced
    (c.in_ok-total.ensures ∙ ap (λ (n : ℕ). c.args.opened.now.stored + n) c.len.ensures) c.in_ok-replaced.ensures.was
    (c.in_ok-gone.ensures ∙ ap (λ (table : TableSchema). bytes_if_any table c.in_ok-replaced.replaced) c.declared_at.ensures)
    c.put_row.new.tables c.in_ok-replaced.ensures.columns c.in_ok-replaced.ensures.rows
