use Rattle.std.proofs.Common.{◌<◌, List, length, get_or, sym, ap, ◌∙◌, subst}
use Rattle.melon_schema.specs.declared.schema.ColumnSchema.{ColumnSchema}
use Rattle.melon_raw.specs.declared.datum.Datum.{Datum}
use Rattle.melon_raw.proofs.Fitted.{has_cell}
use Rattle.melon_raw.proofs.Edited.{stays, changes}
use Rattle.melon_raw.proofs.raw.Raw.edit.Goals as goal

pub bounds-as_slice-column-2 : goal.bounds-as_slice-column-2
bounds-as_slice-column-2 c = subst (λ (cells : List Datum). c.args.column < length cells) (sym c.as_slice-2.ensures) (has_cell _ c.args.self.now c.args.column c.requires.fits c.requires.within)

pub returns-then-is-clause-ok : goal.returns-then-is-clause-ok
returns-then-is-clause-ok c =
    stays c.args.table.now.columns c.args.self.now c.args.column c.args.value c.sanitise-value.result c.index-as_slice-column-2.result c.index-as_slice-column.result
    c.requires.within
    (has_cell _ c.args.self.now c.args.column c.requires.fits c.requires.within)
    (c.index-as_slice-column.is ∙ ap (λ (columns : List ColumnSchema). get_or columns c.args.column c.index-as_slice-column.result) c.as_slice.ensures)
    (c.index-as_slice-column-2.is ∙ ap (λ (cells : List Datum). get_or cells c.args.column c.index-as_slice-column-2.result) c.as_slice-2.ensures)
    c.sanitise-value.ensures
    (sym c.if-is.true ∙ c.is.ensures)

pub take_value-requires : goal.take_value-requires
take_value-requires c = has_cell _ c.args.self.now c.args.column c.requires.fits c.requires.within

pub returns-clause-ok : goal.returns-clause-ok
returns-clause-ok c =
    let e = changes c.args.table.now.columns c.args.self.now c.args.column c.args.value c.sanitise-value.result c.index-as_slice-column-2.result c.index-as_slice-column.result
    c.requires.within
    (has_cell _ c.args.self.now c.args.column c.requires.fits c.requires.within)
    (c.index-as_slice-column.is ∙ ap (λ (columns : List ColumnSchema). get_or columns c.args.column c.index-as_slice-column.result) c.as_slice.ensures)
    (c.index-as_slice-column-2.is ∙ ap (λ (cells : List Datum). get_or cells c.args.column c.index-as_slice-column-2.result) c.as_slice-2.ensures)
    c.sanitise-value.ensures
    (sym c.if-is.false ∙ c.is.ensures) in
    rw (← e) c.take_value.ensures.ok
