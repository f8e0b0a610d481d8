-- One column takes a value.
use Rattle.std.proofs.Common.{◌≡◌, ℕ, ◌<◌, Bool, true, false, cond, List, length, get_or, refl, ap, ◌∙◌}
use Rattle.std.proofs.lemmas.List.{get_or_read_under}
use Rattle.melon_schema.specs.declared.schema.ColumnSchema.{ColumnSchema}
use Rattle.melon_raw.specs.declared.datum.Datum.{Datum}
use Rattle.melon_raw.specs.declared.datum.Datum.TheVariants.{Null}
use Rattle.melon_raw.specs.declared.raw.Raw.{Raw}
use Rattle.melon_raw.specs.Datum.{fit, datum_eq}
use Rattle.melon_raw.specs.Rows.{cell, no_column, column_at}
use Rattle.melon_raw.specs.Edits.{with_cell, edited_to, row_edited}

module _ (columns : List ColumnSchema) (row : Raw) (i : ℕ) (given kept old : Datum) (column : ColumnSchema) where
  edited_by : (b : Bool) → i < length columns → i < length row.cells → column ≡ get_or columns i column → old ≡ get_or row.cells i old → kept ≡ fit column given → b ≡ datum_eq old kept
      → cond b row (with_cell i kept row) ≡ row_edited columns i given row
  edited_by b in_columns in_cells is_column is_old is_kept is_same =
      let k : kept ≡ fit (column_at columns i) given = is_kept ∙ ap (λ (c : ColumnSchema). fit c given) (get_or_read_under columns i (length columns) column no_column is_column in_columns refl) in
      let o : old ≡ cell row i = get_or_read_under row.cells i (length row.cells) old Null is_old in_cells refl in
      ap (λ (b : Bool). cond b row (with_cell i kept row)) (is_same ∙ ap (λ (d : Datum). datum_eq d kept) o) ∙ ap (λ (v : Datum). edited_to i v row) k

  pub stays : i < length columns → i < length row.cells → column ≡ get_or columns i column → old ≡ get_or row.cells i old → kept ≡ fit column given → true ≡ datum_eq old kept
      → row ≡ row_edited columns i given row
  stays = edited_by true

  pub changes : i < length columns → i < length row.cells → column ≡ get_or columns i column → old ≡ get_or row.cells i old → kept ≡ fit column given → false ≡ datum_eq old kept
      → with_cell i kept row ≡ row_edited columns i given row
  changes = edited_by false
