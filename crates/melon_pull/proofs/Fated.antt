-- The fate of a record: it keeps the id, fits the table, is allowed, and meets itself.
use Rattle.std.proofs.Common.{◌≡◌, ℕ, zero, suc, ◌+◌, ◌<◌, List, [], ◌∷◌, length, map, get_or, Bool, true, false, cond, Option, Some, None, unwrap_or, refl, sym, ap, ◌∙◌, subst, arith}
use Rattle.std.specs.List.{range_with_len}
use Rattle.std.proofs.lemmas.Bool.{both_ways}
use Rattle.std.proofs.lemmas.List.{get_or-map, length-map}
use Rattle.std.proofs.lemmas.List.FromFn.{get_or-map-range_with_len, fill_by_all}
use Rattle.melon_schema.specs.Names.{is_id}
use Rattle.melon_schema.specs.declared.schema.ColumnSchema.{ColumnSchema}
use Rattle.melon_raw.specs.declared.datum.Datum.{Datum}
use Rattle.melon_raw.specs.declared.datum.Datum.TheVariants.{Null}
use Rattle.melon_raw.specs.declared.datum.OpField.{OpField}
use Rattle.melon_raw.specs.declared.raw.Raw.{Raw}
use Rattle.melon_raw.specs.Datum.{fit}
use Rattle.melon_raw.specs.Rows.{Key, Rows, at, at_id, has, cell, column_at, no_column, is_visible}
use Rattle.melon_table.proofs.ById.{id-at_id}
use Rattle.melon_change.specs.declared.history.Origin.TheVariants.{Applied}
use Rattle.melon_change.specs.History.{KeepsId, FitsIfAny, IsResolved, IsAllowed}
use Rattle.melon_wire.specs.Resolution.{value_in, remote_or, resolved_cell, row_resolved, born_cell, row_born}
use Rattle.melon_raw.specs.Same.{is_same}
use Rattle.melon_wire.specs.Standing.{Standing, as_created, as_updated, as_deleted, in_no_list}
use Rattle.melon_wire.specs.Fates.{fate}
use Rattle.melon_wire.proofs.KeyOrder.{split}
use Rattle.melon_raw.proofs.Equals.{row_path, row_eq_refl}
use Rattle.melon_pull.proofs.Fitted.{Fits-row_born, Fits-row_resolved}

-- ---- ids

pub keeps_at : (rows : Rows) (x : Key) → KeepsId x.id (at rows x)
keeps_at rows x = by (at rows x) refl
  where
    by : (o : Option Raw) → at rows x ≡ o → KeepsId x.id o
    by None e = tt
    by (Some row) e = id-at_id x.id (get_or rows x.table []) row e

keeps_cond : (id : List ℕ) (b : Bool) (r s : Raw) → r.id ≡ id → s.id ≡ id → KeepsId id (cond b (Some r) (Some s))
keeps_cond id true r s h k = h
keeps_cond id false r s h k = k

pub keeps_fate : (columns : List ColumnSchema) (id : List ℕ) (row : Option Raw) (how : Standing) → KeepsId id row → KeepsId id (fate columns id row how)
keeps_fate columns id None (as_created f) k = refl
keeps_fate columns id None (as_updated f) k = refl
keeps_fate columns id None as_deleted k = tt
keeps_fate columns id None in_no_list k = tt
keeps_fate columns id (Some row) (as_created f) k = keeps_cond id (is_visible row.status) (row_resolved columns row f) (row_born columns id f) k refl
keeps_fate columns id (Some row) (as_updated f) k = keeps_cond id (is_visible row.status) (row_resolved columns row f) row k k
keeps_fate columns id (Some row) as_deleted k = tt
keeps_fate columns id (Some row) in_no_list k = k

-- ---- it fits

fits_cond : (columns : List ColumnSchema) (b : Bool) (r s : Raw) → FitsIfAny columns (Some r) → FitsIfAny columns (Some s) → FitsIfAny columns (cond b (Some r) (Some s))
fits_cond columns true r s h k = h
fits_cond columns false r s h k = k

pub fits_fate : (columns : List ColumnSchema) (id : List ℕ) (row : Option Raw) (how : Standing) → is_id id ≡ true → FitsIfAny columns row → FitsIfAny columns (fate columns id row how)
fits_fate columns id None (as_created f) is h = Fits-row_born columns id f is
fits_fate columns id None (as_updated f) is h = Fits-row_born columns id f is
fits_fate columns id None as_deleted is h = tt
fits_fate columns id None in_no_list is h = tt
fits_fate columns id (Some row) (as_created f) is h = fits_cond columns (is_visible row.status) (row_resolved columns row f) (row_born columns id f) (Fits-row_resolved columns row f h) (Fits-row_born columns id f is)
fits_fate columns id (Some row) (as_updated f) is h = fits_cond columns (is_visible row.status) (row_resolved columns row f) row (Fits-row_resolved columns row f h) h
fits_fate columns id (Some row) as_deleted is h = tt
fits_fate columns id (Some row) in_no_list is h = h

-- ---- it is allowed

resolves : (columns : List ColumnSchema) (row : Raw) (f : List OpField) → IsResolved columns row (row_resolved columns row f)
resolves columns row f = (refl, refl, λ c l h. get_or-map-range_with_len (resolved_cell columns row f) 0 (length columns) c c Null l (omega arith) ∙ rw h refl)

pub allowed_fate : (columns : List ColumnSchema) (id : List ℕ) (row : Option Raw) (how : Standing) → is_same row (fate columns id row how) ≡ false → IsAllowed columns Applied row (fate columns id row how)
allowed_fate columns id None (as_created f) h = (refl, refl)
allowed_fate columns id None (as_updated f) h = (refl, refl)
allowed_fate columns id None as_deleted h = both_ways true h refl
allowed_fate columns id None in_no_list h = both_ways true h refl
allowed_fate columns id (Some row) (as_created f) h = by (is_visible row.status) refl
  where
    by : (b : Bool) → is_visible row.status ≡ b → IsAllowed columns Applied (Some row) (cond (is_visible row.status) (Some (row_resolved columns row f)) (Some (row_born columns id f)))
    by true e = rw e (rw e (resolves columns row f))
    by false e = rw e (rw e (refl, refl))
allowed_fate columns id (Some row) (as_updated f) h = by (is_visible row.status) refl h
  where
    by : (b : Bool) → is_visible row.status ≡ b → is_same (Some row) (cond (is_visible row.status) (Some (row_resolved columns row f)) (Some row)) ≡ false → IsAllowed columns Applied (Some row) (cond (is_visible row.status) (Some (row_resolved columns row f)) (Some row))
    by true e k = rw e (rw e (resolves columns row f))
    by false e k = absurd (both_ways _ (rw e at k) (row_eq_refl row))
allowed_fate columns id (Some row) as_deleted h = tt
allowed_fate columns id (Some row) in_no_list h = absurd (both_ways _ h (row_eq_refl row))

-- ---- met a second time it stays

map_same : {X : Type 0} (f g : ℕ → X) (a n : ℕ) → ((c : ℕ) → c < a + n → f c ≡ g c) → map f (range_with_len a n) ≡ map g (range_with_len a n)
map_same f g a zero h = refl
map_same f g a (suc n) h =
    let ih : map f (range_with_len (a + 1) n) ≡ map g (range_with_len (a + 1) n) = map_same f g (a + 1) n (λ c l. h c (omega arith)) in
    rw (h a (omega arith)) (rw ih refl)

born_by_place : (columns : List ColumnSchema) (f : List OpField) → map (born_cell f) columns ≡ map (λ c. born_cell f (column_at columns c)) (range_with_len 0 (length columns))
born_by_place columns f = fill_by_all (λ c. born_cell f (column_at columns c)) (map (born_cell f) columns) (length columns) Null (length-map columns (born_cell f)) (λ c l. get_or-map (born_cell f) columns c no_column Null l)

resolved_born : (columns : List ColumnSchema) (id : List ℕ) (f : List OpField) → row_resolved columns (row_born columns id f) f ≡ row_born columns id f
resolved_born columns id f = row_path _ _ refl refl refl (map_same (resolved_cell columns (row_born columns id f) f) (λ c. born_cell f (column_at columns c)) 0 (length columns) (λ c l. by c (omega arith) (value_in f (column_at columns c).name) refl) ∙ sym (born_by_place columns f))
  where
    by : (c : ℕ) → c < length columns → (v : Option Datum) → value_in f (column_at columns c).name ≡ v → resolved_cell columns (row_born columns id f) f c ≡ born_cell f (column_at columns c)
    by c l None e = rw e (get_or-map (born_cell f) columns c no_column Null l ∙ rw e refl)
    by c l (Some v) e = rw e refl

resolved_again : (columns : List ColumnSchema) (row : Raw) (f : List OpField) → row_resolved columns (row_resolved columns row f) f ≡ row_resolved columns row f
resolved_again columns row f = row_path _ _ refl refl refl (map_same (resolved_cell columns (row_resolved columns row f) f) (resolved_cell columns row f) 0 (length columns) (λ c l. by c (omega arith) (has c row.marks) refl (value_in f (column_at columns c).name) refl))
  where
    now : (c : ℕ) → c < length columns → cell (row_resolved columns row f) c ≡ resolved_cell columns row f c
    now c l = get_or-map-range_with_len (resolved_cell columns row f) 0 (length columns) c c Null l (omega arith)

    by : (c : ℕ) → c < length columns → (b : Bool) → has c row.marks ≡ b → (v : Option Datum) → value_in f (column_at columns c).name ≡ v → resolved_cell columns (row_resolved columns row f) f c ≡ resolved_cell columns row f c
    by c l true m v e = ap (λ b. cond b (cell (row_resolved columns row f) c) (remote_or (column_at columns c) (cell (row_resolved columns row f) c) (value_in f (column_at columns c).name))) m ∙ now c l
    by c l false m None e = ap (λ b. cond b (cell (row_resolved columns row f) c) (remote_or (column_at columns c) (cell (row_resolved columns row f) c) (value_in f (column_at columns c).name))) m ∙ (ap (remote_or (column_at columns c) (cell (row_resolved columns row f) c)) e ∙ now c l)
    by c l false m (Some v) e = rw (m, e) refl

visible_again : (columns : List ColumnSchema) (row other : Raw) (f : List OpField) → is_visible row.status ≡ true → row_resolved columns row f ≡ row → cond (is_visible row.status) (Some (row_resolved columns row f)) (Some other) ≡ Some row
visible_again columns row other f e h = rw e (ap Some h)

pub fate_again : (columns : List ColumnSchema) (id : List ℕ) (row : Option Raw) (how : Standing) → fate columns id (fate columns id row how) how ≡ fate columns id row how
fate_again columns id None (as_created f) = ap Some (resolved_born columns id f)
fate_again columns id None (as_updated f) = ap Some (resolved_born columns id f)
fate_again columns id None as_deleted = refl
fate_again columns id None in_no_list = refl
fate_again columns id (Some row) (as_created f) = split (is_visible row.status)
    (λ e. rw e (visible_again columns (row_resolved columns row f) (row_born columns id f) f e (resolved_again columns row f)))
    (λ e. rw e (ap Some (resolved_born columns id f)))
fate_again columns id (Some row) (as_updated f) = split (is_visible row.status)
    (λ e. rw e (visible_again columns (row_resolved columns row f) (row_resolved columns row f) f e (resolved_again columns row f)))
    (λ e. rw e (rw e refl))
fate_again columns id (Some row) as_deleted = refl
fate_again columns id (Some row) in_no_list = refl
