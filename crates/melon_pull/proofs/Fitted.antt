-- Rows that are resolved and born fit their table.
use Rattle.std.proofs.Common.{◌≡◌, ℕ, zero, suc, ◌+◌, ◌<◌, List, [], ◌∷◌, length, map, get_or, Bool, true, false, cond, Option, Some, None, unwrap_or, refl, sym, ap, ◌∙◌, subst, arith}
use Rattle.std.specs.List.{range_with_len}
use Rattle.melon_schema.specs.Names.{is_id}
use Rattle.melon_schema.specs.declared.schema.ColumnSchema.{ColumnSchema}
use Rattle.melon_raw.specs.declared.datum.Datum.{Datum}
use Rattle.melon_raw.specs.declared.datum.Datum.TheVariants.{Null}
use Rattle.melon_raw.specs.declared.datum.OpField.{OpField}
use Rattle.melon_raw.specs.declared.raw.Raw.{Raw}
use Rattle.melon_raw.specs.Datum.{fit}
use Rattle.melon_raw.specs.Rows.{Fits, fitted, has, cell, column_at, no_column}
use Rattle.melon_raw.proofs.Fitting.{fit-again}
use Rattle.melon_wire.specs.Resolution.{value_in, remote_or, resolved_cell, row_resolved, born_cell, row_born}

-- ---- born

fitted-born : (fields : List OpField) (columns : List ColumnSchema) → fitted columns (map (born_cell fields) columns) ≡ map (born_cell fields) columns
fitted-born fields [] = refl
fitted-born fields (c ∷ cs) = rw (fit-again c (unwrap_or (value_in fields c.name) Null)) (ap (λ (ds : List Datum). born_cell fields c ∷ ds) (fitted-born fields cs))

pub Fits-row_born : (columns : List ColumnSchema) (id : List ℕ) (fields : List OpField) → is_id id ≡ true → Fits columns (row_born columns id fields)
Fits-row_born columns id fields is = record { id = is; marks = refl; cells = fitted-born fields columns }

-- ---- resolved

-- cells by place fit where each does
fitted-range : (f : ℕ → Datum) (cs : List ColumnSchema) (a : ℕ) → ((i : ℕ) → i < length cs → fit (column_at cs i) (f (a + i)) ≡ f (a + i)) → fitted cs (map f (range_with_len a (length cs))) ≡ map f (range_with_len a (length cs))
fitted-range f [] a each = refl
fitted-range f (c ∷ cs) a each =
    let first : fit c (f a) ≡ f a = subst (λ (n : ℕ). fit c (f n) ≡ f n) (omega arith) (each 0 (omega arith)) in
    let rest : fitted cs (map f (range_with_len (a + 1) (length cs))) ≡ map f (range_with_len (a + 1) (length cs)) =
    fitted-range f cs (a + 1) (λ i l. subst (λ (n : ℕ). fit (column_at cs i) (f n) ≡ f n) (omega arith) (each (suc i) (omega (arith, l)))) in
    rw first (ap (λ (ds : List Datum). f a ∷ ds) rest)

-- each cell of a row that fits is as its column keeps it
fit-cell : (cs : List ColumnSchema) (ds : List Datum) (c : ℕ) → fitted cs ds ≡ ds → c < length cs → fit (column_at cs c) (get_or ds c Null) ≡ get_or ds c Null
fit-cell [] ds c h within = absurd (omega (arith, within))
fit-cell (k ∷ ks) [] c h within = cc
fit-cell (k ∷ ks) (d ∷ ds) zero h within = cc
fit-cell (k ∷ ks) (d ∷ ds) (suc c) h within = let tail : fitted ks ds ≡ ds = cc in fit-cell ks ds c tail (omega (arith, within))

fit-resolved : (columns : List ColumnSchema) (local : Raw) (fields : List OpField) → fitted columns local.cells ≡ local.cells → (c : ℕ) → c < length columns → fit (column_at columns c) (resolved_cell columns local fields c) ≡ resolved_cell columns local fields c
fit-resolved columns local fields fits c within = by (has c local.marks) (value_in fields (column_at columns c).name)
  where
    own : fit (column_at columns c) (cell local c) ≡ cell local c
    own = fit-cell columns local.cells c fits within

    by : (b : Bool) (v : Option Datum) → fit (column_at columns c) (cond b (cell local c) (remote_or (column_at columns c) (cell local c) v)) ≡ cond b (cell local c) (remote_or (column_at columns c) (cell local c) v)
    by true v = own
    by false None = own
    by false (Some value) = fit-again (column_at columns c) value

pub Fits-row_resolved : (columns : List ColumnSchema) (local : Raw) (fields : List OpField) → Fits columns local → Fits columns (row_resolved columns local fields)
Fits-row_resolved columns local fields fits = record {
  id = fits.id;
  marks = fits.marks;
  cells = fitted-range (resolved_cell columns local fields) columns 0 (λ c l. subst (λ (n : ℕ). fit (column_at columns c) (resolved_cell columns local fields n) ≡ resolved_cell columns local fields n) (omega arith) (fit-resolved columns local fields fits.cells c l));
}
