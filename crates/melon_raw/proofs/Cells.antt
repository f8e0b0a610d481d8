-- The cells of a new row, field by field.
use Rattle.std.proofs.Common.{◌≡◌, ℕ, zero, suc, ◌+◌, ◌<◌, ◌==◌, true, false, cond, List, [], ◌∷◌, length, set, map, find, Some, refl, ap, ◌∙◌, arith}
use Rattle.melon_schema.specs.declared.schema.ColumnSchema.{ColumnSchema}
use Rattle.melon_raw.specs.declared.datum.Datum.{Datum}
use Rattle.melon_raw.specs.declared.datum.Datum.TheVariants.{Null}
use Rattle.melon_raw.specs.Datum.{fit}
use Rattle.melon_raw.specs.Rows.{column_at}
use Rattle.melon_raw.specs.Edits.{given_in, value_at, cells_from}

-- without fields each column keeps what it keeps of null
pub cells_from-no_fields : (c : ℕ) (columns : List ColumnSchema) → cells_from [] c columns ≡ map (λ column. fit column Null) columns
cells_from-no_fields c [] = refl
cells_from-no_fields c (column ∷ columns) = ap (λ rest. fit column Null ∷ rest) (cells_from-no_fields (c + 1) columns)

pub length-cells_from : (fields : List (ℕ × Datum)) (c : ℕ) (columns : List ColumnSchema) → length (cells_from fields c columns) ≡ length columns
length-cells_from fields c [] = refl
length-cells_from fields c (column ∷ columns) = ap suc (length-cells_from fields (c + 1) columns)

same_place : (n : ℕ) → (n == n) ≡ true
same_place n = grind arith

other_place : (m n : ℕ) → m < n → (m == n) ≡ false
other_place m n h = grind arith

other_place_above : (m n : ℕ) → n < m → (m == n) ≡ false
other_place_above m n h = grind arith

-- a field for an earlier column gives nothing to those from c on
before : (p : ℕ) (v : Datum) (done : List (ℕ × Datum)) (c : ℕ) (columns : List ColumnSchema) → p < c → cells_from ((p, v) ∷ done) c columns ≡ cells_from done c columns
before p v done c [] h = refl
before p v done c (column ∷ columns) h =
    ap (λ b. fit column (given_in (cond b (Some (p, v)) (find (λ field. field.0 == c) done))) ∷ cells_from ((p, v) ∷ done) (c + 1) columns) (other_place p c h)
    ∙ ap (λ rest. fit column (value_at done c) ∷ rest) (before p v done (c + 1) columns (omega (arith, h)))

one_more_at : (p : ℕ) (v : Datum) (done : List (ℕ × Datum)) (c i : ℕ) (columns : List ColumnSchema) → p ≡ c + i
    → cells_from ((p, v) ∷ done) c columns ≡ set (cells_from done c columns) i (fit (column_at columns i) v)
one_more_at p v done c i [] h = refl
one_more_at p v done c zero (column ∷ columns) h =
    let e : p ≡ c = omega (arith, h) in
    ap (λ b. fit column (given_in (cond b (Some (p, v)) (find (λ field. field.0 == c) done))) ∷ cells_from ((p, v) ∷ done) (c + 1) columns) (ap (λ (q : ℕ). q == c) e ∙ same_place c)
    ∙ ap (λ rest. fit column v ∷ rest) (before p v done (c + 1) columns (omega (arith, h)))
one_more_at p v done c (suc i) (column ∷ columns) h =
    ap (λ b. fit column (given_in (cond b (Some (p, v)) (find (λ field. field.0 == c) done))) ∷ cells_from ((p, v) ∷ done) (c + 1) columns) (other_place_above p c (omega (arith, h)))
    ∙ ap (λ rest. fit column (value_at done c) ∷ rest) (one_more_at p v done (c + 1) i columns (omega (arith, h)))

-- one field more, before the others, sets the cell at its place
pub cells_from-more : (p : ℕ) (v : Datum) (done : List (ℕ × Datum)) (columns : List ColumnSchema)
    → cells_from ((p, v) ∷ done) 0 columns ≡ set (cells_from done 0 columns) p (fit (column_at columns p) v)
cells_from-more p v done columns = one_more_at p v done 0 p columns (omega arith)
