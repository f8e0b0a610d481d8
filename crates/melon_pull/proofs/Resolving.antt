-- Columns of a row that is resolved.
use Rattle.std.proofs.Common.{◌≡◌, ℕ, ◌<◌, List, length, get_or, true, false, Option, None, refl, sym, ap, ◌∙◌, arith}
use Rattle.std.proofs.lemmas.List.{get_or_read}
use Rattle.std.proofs.lemmas.List.FromFn.{get_or-map-range_with_len}
use Rattle.melon_schema.specs.declared.schema.ColumnSchema.{ColumnSchema}
use Rattle.melon_raw.specs.declared.datum.Datum.{Datum}
use Rattle.melon_raw.specs.declared.datum.Datum.TheVariants.{Null}
use Rattle.melon_raw.specs.declared.datum.OpField.{OpField}
use Rattle.melon_raw.specs.declared.raw.Raw.{Raw}
use Rattle.melon_raw.specs.Rows.{has, cell, column_at, no_column}
use Rattle.melon_wire.specs.Resolution.{value_in, remote_or, resolved_cell, row_resolved}

module _ (columns : List ColumnSchema) (local : Raw) (fields : List OpField) (c : ℕ) where
  -- the cell that is read at a place is the local one
  read_cell : (cells : List Datum) (d : Datum) → cells ≡ local.cells → c < length cells → d ≡ get_or cells c d → d ≡ cell local c
  read_cell cells d same within at = get_or_read cells c d within at Null ∙ ap (λ (ds : List Datum). get_or ds c Null) same

  -- a marked column stays local
  pub marked_cell : (cells : List Datum) (d : Datum) → cells ≡ local.cells → c < length cells → d ≡ get_or cells c d → has c local.marks ≡ true → d ≡ resolved_cell columns local fields c
  marked_cell cells d same within at marked = rw marked (read_cell cells d same within at)

  -- a column that the remote row lacks stays local
  pub lacking_cell : (cells : List Datum) (d : Datum) (column : ColumnSchema) → cells ≡ local.cells → c < length cells → d ≡ get_or cells c d → has c local.marks ≡ false → column ≡ get_or columns c column → c < length columns → value_in fields column.name ≡ None
      → d ≡ resolved_cell columns local fields c
  lacking_cell cells d column same within at unmarked is inside lacks =
      let here : column ≡ column_at columns c = get_or_read columns c column inside is no_column in
      let none : value_in fields (column_at columns c).name ≡ None = ap (λ (k : ColumnSchema). value_in fields k.name) (sym here) ∙ lacks in
      rw (unmarked, none) (read_cell cells d same within at)

  pub resolved_column : (row : Raw) → row ≡ row_resolved columns local fields → c < length columns → cell row c ≡ resolved_cell columns local fields c
  resolved_column row is inside = ap (λ (r : Raw). cell r c) is ∙ get_or-map-range_with_len (resolved_cell columns local fields) 0 (length columns) c c Null inside (omega arith)
