-- Rows that fit their table.
use Rattle.std.proofs.Common.{◌≡◌, ℕ, suc, ◌<◌, List, [], ◌∷◌, length, refl, sym, ap, ◌∙◌, subst}
use Rattle.melon_schema.specs.declared.schema.ColumnSchema.{ColumnSchema}
use Rattle.melon_raw.specs.declared.datum.Datum.{Datum}
use Rattle.melon_raw.specs.declared.raw.Raw.{Raw}
use Rattle.melon_raw.specs.Rows.{fitted, Fits}

pub length-fitted : (columns : List ColumnSchema) (cells : List Datum) → length (fitted columns cells) ≡ length columns
length-fitted [] cells = refl
length-fitted (c ∷ cs) [] = ap suc (length-fitted cs [])
length-fitted (c ∷ cs) (d ∷ ds) = ap suc (length-fitted cs ds)

-- a row that fits has a cell for each column
pub length-cells : (columns : List ColumnSchema) (row : Raw) → Fits columns row → length row.cells ≡ length columns
length-cells columns row fits = ap length (sym fits.cells) ∙ length-fitted columns row.cells

pub has_cell : (columns : List ColumnSchema) (row : Raw) (c : ℕ) → Fits columns row → c < length columns → c < length row.cells
has_cell columns row c fits within = subst (λ (n : ℕ). c < n) (sym (length-cells columns row fits)) within
