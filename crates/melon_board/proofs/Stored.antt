-- The bytes of a store's rows after changes.
use Rattle.std.proofs.Common.{◌≡◌, ℕ, zero, suc, ◌+◌, ◌<◌, ◌≤◌, List, [], ◌∷◌, map, get_or, set, length, Bool, true, Option, Some, None, sum_by, refl, ap, sym, subst, ◌∙◌, arith, length-set}
use Rattle.std.proofs.lemmas.List.Sums.{sum_by-cons}
use Rattle.std.proofs.lemmas.List.{length-map}
use Rattle.std.proofs.Math.ListN.{get_or-map}
use Rattle.melon_schema.specs.declared.schema.ColumnSchema.{ColumnSchema}
use Rattle.melon_schema.specs.declared.schema.TableSchema.{TableSchema}
use Rattle.melon_raw.specs.declared.raw.Raw.{Raw}
use Rattle.melon_raw.specs.Rows.{Fits, Rows, at, at_id, table_at, no_table, put_row, without_row}
use Rattle.melon_table.specs.Seen.{declared_columns}
use Rattle.melon_table.specs.Kept.{IsKept}
use Rattle.melon_table.proofs.ById.{IsKept-put_row, IsKept-without_row}
use Rattle.melon_change.specs.declared.change.Change.{Change}
use Rattle.melon_change.specs.declared.history.Origin.{Origin}
use Rattle.melon_change.specs.Changes.{columns_at, key_of, with_after, after_change, after_set}
use Rattle.melon_change.specs.History.{KeepsId, FitsIfAny, IsChange, AreChanges}
use Rattle.melon_board.specs.Sizes.{row_bytes, bytes_if_any, table_bytes, stored_bytes, before_bytes, after_bytes}
use Rattle.melon_board.specs.Boards.{AreKept, IsNow, AreNow, are_within}
use Rattle.melon_board.proofs.Sums.{of_any, sum-without_row, sum-put_row}
use Rattle.melon_board.proofs.Applied.{after_now}

-- ---- one table

bytes_any : (table : TableSchema) (row : Option Raw) → of_any (row_bytes table) row ≡ bytes_if_any table row
bytes_any table None = refl
bytes_any table (Some row) = refl

table_after : (table : TableSchema) (columns : List ColumnSchema) (id : List ℕ) (after : Option Raw) (rows : List Raw) → KeepsId id after → IsKept columns rows
    → table_bytes table (with_after id after rows) + bytes_if_any table (at_id id rows) ≡ table_bytes table rows + bytes_if_any table after
table_after table columns id None rows keeps kept =
    let e = sum-without_row (row_bytes table) id rows kept.ascending in omega (arith, e, bytes_any table (at_id id rows))
table_after table columns id (Some row) rows keeps kept =
    let e = sum-put_row (row_bytes table) row rows kept.ascending in
    omega (arith, e, bytes_any table (at_id row.id rows), ap (λ (i : List ℕ). bytes_if_any table (at_id i rows)) keeps)

kept_after : (columns : List ColumnSchema) (id : List ℕ) (after : Option Raw) (rows : List Raw) → FitsIfAny columns after → IsKept columns rows → IsKept columns (with_after id after rows)
kept_after columns id None rows fits kept = IsKept-without_row columns id rows kept
kept_after columns id (Some row) rows fits kept = IsKept-put_row columns row rows fits kept

-- ---- all tables

set_each : (P : ℕ → List Raw → Type 0) (rows : Rows) (t : ℕ) (new : List Raw) → P t new → ((u : ℕ) → P u (get_or rows u [])) → (u : ℕ) → P u (get_or (set rows t new) u [])
set_each P [] t new here all u = all u
set_each P (rs ∷ rows) zero new here all zero = here
set_each P (rs ∷ rows) zero new here all (suc u) = all (suc u)
set_each P (rs ∷ rows) (suc t) new here all zero = all zero
set_each P (rs ∷ rows) (suc t) new here all (suc u) = set_each (λ n. P (suc n)) rows t new here (λ n. all (suc n)) u

pub kept-after_change : (schema : List TableSchema) (rows : Rows) (c : Change) → FitsIfAny (columns_at schema c.table) c.after → AreKept schema rows → AreKept schema (after_change rows c)
kept-after_change schema rows c fits kept =
    set_each (λ t rs. IsKept (columns_at schema t) rs) rows c.table (with_after c.id c.after (get_or rows c.table []))
    (kept_after (columns_at schema c.table) c.id c.after (get_or rows c.table []) fits (kept c.table)) kept

stored-set : (schema : List TableSchema) (rows : Rows) (t : ℕ) (new : List Raw) → t < length schema → t < length rows
    → stored_bytes schema (set rows t new) + table_bytes (table_at schema t) (get_or rows t []) ≡ stored_bytes schema rows + table_bytes (table_at schema t) new
stored-set [] rows t new declared within = absurd (omega arith)
stored-set (s ∷ schema) [] t new declared within = absurd (omega arith)
stored-set (s ∷ schema) (rs ∷ rows) zero new declared within = omega arith
stored-set (s ∷ schema) (rs ∷ rows) (suc t) new declared within = let ih = stored-set schema rows t new (omega arith) (omega arith) in omega (arith, ih)

pub columns-declared : (schema : List TableSchema) (t : ℕ) → get_or (declared_columns schema) t [] ≡ columns_at schema t
columns-declared schema t = get_or-map (λ (s : TableSchema). s.columns) schema t no_table

module _ (schema : List TableSchema) where
  pub fits_declared : (t : ℕ) (after : Option Raw) → FitsIfAny (get_or (declared_columns schema) t []) after → FitsIfAny (columns_at schema t) after
  fits_declared t after fits = subst (λ (k : List ColumnSchema). FitsIfAny k after) (columns-declared schema t) fits

  stored-change : (rows : Rows) (c : Change) → length rows ≡ length schema → IsNow (declared_columns schema) rows c → AreKept schema rows
      → stored_bytes schema (after_change rows c) + before_bytes schema c ≡ stored_bytes schema rows + after_bytes schema c
  stored-change rows c long now kept =
      let table = table_at schema c.table in
      let here = get_or rows c.table [] in
      let one : table_bytes table (with_after c.id c.after here) + bytes_if_any table (at_id c.id here) ≡ table_bytes table here + bytes_if_any table c.after = table_after table (columns_at schema c.table) c.id c.after here now.keeps_id (kept c.table) in
      let all : stored_bytes schema (after_change rows c) + table_bytes table here ≡ stored_bytes schema rows + table_bytes table (with_after c.id c.after here) = stored-set schema rows c.table (with_after c.id c.after here) (omega (arith, now.within, long)) now.within in
      let was : bytes_if_any table c.before ≡ bytes_if_any table (at_id c.id here) = ap (bytes_if_any table) now.before_is in
      omega (arith, one, all, was)

  -- The bytes after the changes are those before, with the rows after for the rows before.
  pub stored-after_set : (rows : Rows) (cs : List Change) → length rows ≡ length schema → AreNow (declared_columns schema) rows cs → AreKept schema rows
      → stored_bytes schema (after_set rows cs) + sum_by (before_bytes schema) cs ≡ stored_bytes schema rows + sum_by (after_bytes schema) cs
  stored-after_set rows [] long now kept = refl
  stored-after_set rows (c ∷ cs) long now kept =
      let one = stored-change rows c long now.0 kept in
      let rest = stored-after_set (after_change rows c) cs (length-set rows c.table (with_after c.id c.after (get_or rows c.table [])) ∙ long) (after_now (declared_columns schema) rows c cs now.0.keeps_id now.1 now.2)
      (kept-after_change schema rows c (fits_declared c.table c.after now.0.fits) kept) in
      omega (arith, one, rest, sum_by-cons (before_bytes schema) c cs, sum_by-cons (after_bytes schema) c cs)

  pub kept-after_set : (rows : Rows) (cs : List Change) → AreNow (declared_columns schema) rows cs → AreKept schema rows → AreKept schema (after_set rows cs)
  kept-after_set rows [] now kept = kept
  kept-after_set rows (c ∷ cs) now kept = kept-after_set (after_change rows c) cs (after_now (declared_columns schema) rows c cs now.0.keeps_id now.1 now.2) (kept-after_change schema rows c (fits_declared c.table c.after now.0.fits) kept)

  -- changes that may be made are changes of the rows now
  pub now_of : (rows : Rows) (origin : Origin) (cs : List Change) → AreChanges schema rows origin cs → AreNow (declared_columns schema) rows cs
  now_of rows origin [] h = tt
  now_of rows origin (c ∷ cs) h = (
    record {
      within = h.0.declared;
      before_is = h.0.before_is;
      keeps_id = h.0.keeps_id;
      fits = subst (λ (k : List ColumnSchema). FitsIfAny k c.after) (sym (columns-declared schema c.table)) h.0.fits;
    },
    h.1,
    now_of rows origin cs h.2,
  )

-- ---- a row put

pub stored-put_row : (schema : List TableSchema) (rows : Rows) (t : ℕ) (row : Raw) → t < length schema → length rows ≡ length schema → AreKept schema rows
    → stored_bytes schema (set rows t (put_row row (get_or rows t []))) + bytes_if_any (table_at schema t) (at_id row.id (get_or rows t [])) ≡ stored_bytes schema rows + row_bytes (table_at schema t) row
stored-put_row schema rows t row within long kept =
    let one : table_bytes (table_at schema t) (put_row row (get_or rows t [])) + bytes_if_any (table_at schema t) (at_id row.id (get_or rows t [])) ≡ table_bytes (table_at schema t) (get_or rows t []) + row_bytes (table_at schema t) row = table_after (table_at schema t) (columns_at schema t) row.id (Some row) (get_or rows t []) refl (kept t) in
    let all = stored-set schema rows t (put_row row (get_or rows t [])) within (omega (arith, within, long)) in
    omega (arith, one, all)

pub kept-put_row : (schema : List TableSchema) (rows : Rows) (t : ℕ) (row : Raw) → Fits (columns_at schema t) row → AreKept schema rows → AreKept schema (set rows t (put_row row (get_or rows t [])))
kept-put_row schema rows t row fits kept = set_each (λ u rs. IsKept (columns_at schema u) rs) rows t (put_row row (get_or rows t [])) (IsKept-put_row (columns_at schema t) row (get_or rows t []) fits (kept t)) kept
