-- The cells with new values, value by value.
use Rattle.std.proofs.Common.{◌≡◌, ℕ, zero, suc, ◌+◌, ◌<◌, ◌==◌, Bool, true, false, cond, List, [], ◌∷◌, length, set, find, Option, Some, None, refl, sym, ap, ◌∙◌, arith}
use Rattle.melon_schema.specs.declared.schema.ColumnSchema.{ColumnSchema}
use Rattle.melon_raw.specs.declared.datum.Datum.{Datum}
use Rattle.melon_raw.specs.Datum.{fit}
use Rattle.melon_raw.specs.Rows.{column_at, fitted}
use Rattle.melon_raw.proofs.Fitting.{fit-again}
use Rattle.melon_change.specs.Edited.{new_cell, cells_with}

pub cells_with-none : (c : ℕ) (columns : List ColumnSchema) (cells : List Datum) → length cells ≡ length columns → cells_with [] c columns cells ≡ cells
cells_with-none c [] cells h = refl
cells_with-none c (column ∷ columns) [] h = refl
cells_with-none c (column ∷ columns) (d ∷ ds) h = ap (λ rest. d ∷ rest) (cells_with-none (c + 1) columns ds (omega (arith, h)))

pub length-cells_with : (fields : List (ℕ × Datum)) (c : ℕ) (columns : List ColumnSchema) (cells : List Datum) → length (cells_with fields c columns cells) ≡ length cells
length-cells_with fields c [] cells = refl
length-cells_with fields c (column ∷ columns) [] = refl
length-cells_with fields c (column ∷ columns) (d ∷ ds) = ap suc (length-cells_with fields (c + 1) columns ds)

same_place : (n : ℕ) → (n == n) ≡ true
same_place n = grind arith

other_place : (m n : ℕ) → m < n → (m == n) ≡ false
other_place m n h = grind arith

other_place_above : (m n : ℕ) → n < m → (m == n) ≡ false
other_place_above m n h = grind arith

-- a field for an earlier column gives nothing to those from c on
before : (p : ℕ) (v : Datum) (done : List (ℕ × Datum)) (c : ℕ) (columns : List ColumnSchema) (cells : List Datum) → p < c → cells_with ((p, v) ∷ done) c columns cells ≡ cells_with done c columns cells
before p v done c [] cells h = refl
before p v done c (column ∷ columns) [] h = refl
before p v done c (column ∷ columns) (d ∷ ds) h =
    ap (λ b. new_cell d column (cond b (Some (p, v)) (find (λ field. field.0 == c) done)) ∷ cells_with ((p, v) ∷ done) (c + 1) columns ds) (other_place p c h)
    ∙ ap (λ rest. new_cell d column (find (λ field. field.0 == c) done) ∷ rest) (before p v done (c + 1) columns ds (omega (arith, h)))

one_more_at : (p : ℕ) (v : Datum) (done : List (ℕ × Datum)) (c i : ℕ) (columns : List ColumnSchema) (cells : List Datum) → length cells ≡ length columns → p ≡ c + i
    → cells_with ((p, v) ∷ done) c columns cells ≡ set (cells_with done c columns cells) i (fit (column_at columns i) v)
one_more_at p v done c i [] [] l h = refl
one_more_at p v done c i [] (d ∷ ds) l h = absurd (omega (arith, l))
one_more_at p v done c i (column ∷ columns) [] l h = absurd (omega (arith, l))
one_more_at p v done c zero (column ∷ columns) (d ∷ ds) l h =
    let e : p ≡ c = omega (arith, h) in
    ap (λ b. new_cell d column (cond b (Some (p, v)) (find (λ field. field.0 == c) done)) ∷ cells_with ((p, v) ∷ done) (c + 1) columns ds) (ap (λ (q : ℕ). q == c) e ∙ same_place c)
    ∙ ap (λ rest. fit column v ∷ rest) (before p v done (c + 1) columns ds (omega (arith, h)))
one_more_at p v done c (suc i) (column ∷ columns) (d ∷ ds) l h =
    ap (λ b. new_cell d column (cond b (Some (p, v)) (find (λ field. field.0 == c) done)) ∷ cells_with ((p, v) ∷ done) (c + 1) columns ds) (other_place_above p c (omega (arith, h)))
    ∙ ap (λ rest. new_cell d column (find (λ field. field.0 == c) done) ∷ rest) (one_more_at p v done (c + 1) i columns ds (omega (arith, l)) (omega (arith, h)))

-- one field more, before the others, sets the cell at its place
pub cells_with-more : (p : ℕ) (v : Datum) (done : List (ℕ × Datum)) (columns : List ColumnSchema) (cells : List Datum) → length cells ≡ length columns
    → cells_with ((p, v) ∷ done) 0 columns cells ≡ set (cells_with done 0 columns cells) p (fit (column_at columns p) v)
cells_with-more p v done columns cells l = one_more_at p v done 0 p columns cells l (omega arith)

fit_new : (column : ColumnSchema) (d : Datum) (o : Option (ℕ × Datum)) → fit column d ≡ d → fit column (new_cell d column o) ≡ new_cell d column o
fit_new column d None h = h
fit_new column d (Some field) h = fit-again column field.1

-- cells that fit go on fitting
pub fitted-cells_with : (fields : List (ℕ × Datum)) (c : ℕ) (columns : List ColumnSchema) (cells : List Datum) → fitted columns cells ≡ cells → fitted columns (cells_with fields c columns cells) ≡ cells_with fields c columns cells
fitted-cells_with fields c [] cells h = h
fitted-cells_with fields c (column ∷ columns) [] h = cc
fitted-cells_with fields c (column ∷ columns) (d ∷ ds) h =
    let head : fit column d ≡ d = cc in
    let tail : fitted columns ds ≡ ds = cc in
    ap (λ (e : Datum). e ∷ fitted columns (cells_with fields (c + 1) columns ds)) (fit_new column d (find (λ field. field.0 == c) fields) head)
    ∙ ap (λ (es : List Datum). new_cell d column (find (λ field. field.0 == c) fields) ∷ es) (fitted-cells_with fields (c + 1) columns ds tail)
