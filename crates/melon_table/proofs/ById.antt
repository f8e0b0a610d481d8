-- Laws of rows by id: which row an id has after a row was put or removed, and what such rows keep.
use Rattle.std.proofs.Common.{◌≡◌, ◌≢◌, ℕ, List, [], ◌∷◌, ◌++◌, filter, find, Bool, true, false, Option, Some, None, bytes_eq, cond, refl, sym, subst, ◌∙◌}
use Rattle.std.specs.List.{list_all}
use Rattle.melon_schema.specs.declared.schema.ColumnSchema.{ColumnSchema}
use Rattle.melon_raw.specs.declared.raw.Raw.{Raw}
use Rattle.melon_raw.specs.Order.{is_below}
use Rattle.melon_raw.specs.Rows.{Fits, is_ascending, at_id, below, above, put_row, without_row}
use Rattle.melon_table.specs.Kept.{AllFit, IsKept}
use Rattle.melon_table.proofs.Order.{split, bytes_same, bytes_apart, same_bytes, below_trans, below_other, below_asym, not_below_self, both, and_left, and_right, all_filter, all_append, all_mono, filter_passes}

-- ---- the row of an id

find_append : (p : Raw → Bool) (xs ys : List Raw) → find p xs ≡ None → find p (xs ++ ys) ≡ find p ys
find_append p [] ys h = refl
find_append p (x ∷ xs) ys h =
    let ih : find p xs ≡ None → find p (xs ++ ys) ≡ find p ys = find_append p xs ys in
    split (p x) (λ e. absurd (some_none x (sym (rw e refl) ∙ h))) (λ e. rw e (ih (rw e at h)))
  where
    some_none : (x : Raw) → Some x ≡ None → ⊥
    some_none x e = cc

-- a filter that drops none with the id keeps its row
find_kept : (id : List ℕ) (q : Raw → Bool) (xs : List Raw) → ((x : Raw) → x.id ≡ id → q x ≡ true) → at_id id (filter q xs) ≡ at_id id xs
find_kept id q [] keeps = refl
find_kept id q (x ∷ xs) keeps =
    let ih : at_id id (filter q xs) ≡ at_id id xs = find_kept id q xs keeps in
    split (bytes_eq x.id id)
    (λ e. rw (keeps x (same_bytes x.id id e)) (rw e refl))
    (λ e. split (q x) (λ f. rw f (rw e ih)) (λ f. rw f (rw e ih)))

-- a filter that drops all with the id leaves none
find_dropped : (id : List ℕ) (q : Raw → Bool) (xs : List Raw) → ((x : Raw) → x.id ≡ id → q x ≡ false) → at_id id (filter q xs) ≡ None
find_dropped id q [] drops = refl
find_dropped id q (x ∷ xs) drops =
    let ih : at_id id (filter q xs) ≡ None = find_dropped id q xs drops in
    split (q x)
    (λ f. rw f (rw (bytes_apart x.id id (λ e. both_ways x (drops x e) f)) ih))
    (λ f. rw f ih)
  where
    both_ways : (x : Raw) → q x ≡ false → q x ≡ true → ⊥
    both_ways x f e = let no : false ≡ true = sym f ∙ e in cc

low_of : (other id : List ℕ) → other ≡ id → is_below other id ≡ false
low_of other id same = subst (λ (i : List ℕ). is_below i id ≡ false) (sym same) (not_below_self id)

high_of : (other id : List ℕ) → other ≡ id → is_below id other ≡ false
high_of other id same = subst (λ (i : List ℕ). is_below id i ≡ false) (sym same) (not_below_self id)

below_has_none : (id : List ℕ) (rows : List Raw) → at_id id (below id rows) ≡ None
below_has_none id rows = find_dropped id (λ r. is_below r.id id) rows (λ x e. low_of x.id id e)

above_has_none : (id : List ℕ) (rows : List Raw) → at_id id (above id rows) ≡ None
above_has_none id rows = find_dropped id (λ r. is_below id r.id) rows (λ x e. high_of x.id id e)

-- the row that was put is that of its id
pub at_id-put_same : (row : Raw) (rows : List Raw) → at_id row.id (put_row row rows) ≡ Some row
at_id-put_same row rows = find_append (λ r. bytes_eq r.id row.id) (below row.id rows) (row ∷ above row.id rows) (below_has_none row.id rows) ∙ rw (bytes_same row.id row.id refl) refl

-- the removed id has no row
pub at_id-without_same : (id : List ℕ) (rows : List Raw) → at_id id (without_row id rows) ≡ None
at_id-without_same id rows = find_append (λ r. bytes_eq r.id id) (below id rows) (above id rows) (below_has_none id rows) ∙ above_has_none id rows

-- an id below another is looked for among the rows below that, and one above it among those above
module _ (gone id : List ℕ) (rows : List Raw) (apart : id ≢ gone) where
  low_keeps : is_below id gone ≡ true → at_id id (below gone rows) ≡ at_id id rows
  low_keeps l = find_kept id (λ r. is_below r.id gone) rows (λ x e. subst (λ (i : List ℕ). is_below i gone ≡ true) (sym e) l)

  low_drops : is_below id gone ≡ false → at_id id (below gone rows) ≡ None
  low_drops l = find_dropped id (λ r. is_below r.id gone) rows (λ x e. subst (λ (i : List ℕ). is_below i gone ≡ false) (sym e) l)

  high_keeps : is_below gone id ≡ true → at_id id (above gone rows) ≡ at_id id rows
  high_keeps l = find_kept id (λ r. is_below gone r.id) rows (λ x e. subst (λ (i : List ℕ). is_below gone i ≡ true) (sym e) l)

  high_drops : is_below gone id ≡ false → at_id id (above gone rows) ≡ None
  high_drops l = find_dropped id (λ r. is_below gone r.id) rows (λ x e. subst (λ (i : List ℕ). is_below gone i ≡ false) (sym e) l)

  other_side : is_below id gone ≡ false → is_below gone id ≡ true
  other_side l = below_other id gone l (bytes_apart id gone apart)

find_front : (p : Raw → Bool) (xs ys : List Raw) → find p ys ≡ None → find p (xs ++ ys) ≡ find p xs
find_front p [] ys h = h
find_front p (x ∷ xs) ys h =
    let ih : find p (xs ++ ys) ≡ find p xs = find_front p xs ys h in
    split (p x) (λ e. rw e refl) (λ e. rw e ih)

-- every other id keeps its row
pub at_id-without_other : (gone id : List ℕ) (rows : List Raw) → id ≢ gone → at_id id (without_row gone rows) ≡ at_id id rows
at_id-without_other gone id rows apart = split (is_below id gone)
    (λ l. find_front (λ r. bytes_eq r.id id) (below gone rows) (above gone rows) (high_drops gone id rows apart (below_asym id gone l)) ∙ low_keeps gone id rows apart l)
    (λ l. find_append (λ r. bytes_eq r.id id) (below gone rows) (above gone rows) (low_drops gone id rows apart l) ∙ high_keeps gone id rows apart (other_side gone id rows apart l))

pub at_id-put_other : (row : Raw) (id : List ℕ) (rows : List Raw) → id ≢ row.id → at_id id (put_row row rows) ≡ at_id id rows
at_id-put_other row id rows apart =
    let off : bytes_eq row.id id ≡ false = bytes_apart row.id id (λ e. apart (sym e)) in
    let skip : (b : Option Raw) → at_id id (above row.id rows) ≡ b → at_id id (row ∷ above row.id rows) ≡ b = λ b e. rw off e in
    split (is_below id row.id)
    (λ l. find_front (λ r. bytes_eq r.id id) (below row.id rows) (row ∷ above row.id rows) (skip None (high_drops row.id id rows apart (below_asym id row.id l))) ∙ low_keeps row.id id rows apart l)
    (λ l. find_append (λ r. bytes_eq r.id id) (below row.id rows) (row ∷ above row.id rows) (low_drops row.id id rows apart l) ∙ skip (at_id id rows) (high_keeps row.id id rows apart (other_side row.id id rows apart l)))

-- ---- rows stay in order

ascending_choice : (r : Raw) (q : Raw → Bool) (rs : List Raw) (b : Bool) → list_all (λ x. is_below r.id x.id) rs ≡ true → is_ascending (filter q rs) ≡ true → is_ascending (cond b (r ∷ filter q rs) (filter q rs)) ≡ true
ascending_choice r q rs true all asc = both _ _ (all_filter (λ x. is_below r.id x.id) q rs all) asc
ascending_choice r q rs false all asc = asc

-- those that are kept of rows that ascend ascend
pub is_ascending-filter : (q : Raw → Bool) (rows : List Raw) → is_ascending rows ≡ true → is_ascending (filter q rows) ≡ true
is_ascending-filter q [] asc = refl
is_ascending-filter q (r ∷ rs) asc = ascending_choice r q rs (q r) (and_left (list_all (λ x. is_below r.id x.id) rs) _ asc) (is_ascending-filter q rs (and_right (list_all (λ x. is_below r.id x.id) rs) _ asc))

-- rows below an id, and then rows that aren't, ascend
ascending_append : (xs ys : List Raw) (id : List ℕ) → is_ascending xs ≡ true → is_ascending ys ≡ true → list_all (λ x. is_below x.id id) xs ≡ true
    → ((r : Raw) → is_below r.id id ≡ true → list_all (λ y. is_below r.id y.id) ys ≡ true) → is_ascending (xs ++ ys) ≡ true
ascending_append [] ys id p q low over = q
ascending_append (x ∷ xs) ys id p q low over = both _ _
    (all_append (λ y. is_below x.id y.id) xs ys (and_left (list_all (λ y. is_below x.id y.id) xs) _ p) (over x (and_left (is_below x.id id) _ low)))
    (ascending_append xs ys id (and_right (list_all (λ y. is_below x.id y.id) xs) _ p) q (and_right (is_below x.id id) _ low) over)

over_above : (id : List ℕ) (rows : List Raw) (r : Raw) → is_below r.id id ≡ true → list_all (λ y. is_below r.id y.id) (above id rows) ≡ true
over_above id rows r l = all_mono (λ y. is_below id y.id) (λ y. is_below r.id y.id) (above id rows) (filter_passes (λ y. is_below id y.id) rows) (λ y h. below_trans r.id id y.id l h)

pub is_ascending-put_row : (row : Raw) (rows : List Raw) → is_ascending rows ≡ true → is_ascending (put_row row rows) ≡ true
is_ascending-put_row row rows asc = ascending_append (below row.id rows) (row ∷ above row.id rows) row.id
    (is_ascending-filter (λ r. is_below r.id row.id) rows asc)
    (both _ _ (filter_passes (λ y. is_below row.id y.id) rows) (is_ascending-filter (λ r. is_below row.id r.id) rows asc))
    (filter_passes (λ r. is_below r.id row.id) rows)
    (λ r l. both _ _ l (over_above row.id rows r l))

pub is_ascending-without_row : (id : List ℕ) (rows : List Raw) → is_ascending rows ≡ true → is_ascending (without_row id rows) ≡ true
is_ascending-without_row id rows asc = ascending_append (below id rows) (above id rows) id
    (is_ascending-filter (λ r. is_below r.id id) rows asc)
    (is_ascending-filter (λ r. is_below id r.id) rows asc)
    (filter_passes (λ r. is_below r.id id) rows)
    (λ r l. over_above id rows r l)

-- ---- rows go on fitting

module _ (columns : List ColumnSchema) where
  fit_choice : (r : Raw) (kept : List Raw) (b : Bool) → Fits columns r → AllFit columns kept → AllFit columns (cond b (r ∷ kept) kept)
  fit_choice r kept true f k = (f, k)
  fit_choice r kept false f k = k

  pub AllFit-filter : (q : Raw → Bool) (rows : List Raw) → AllFit columns rows → AllFit columns (filter q rows)
  AllFit-filter q [] h = tt
  AllFit-filter q (r ∷ rs) h = fit_choice r (filter q rs) (q r) h.0 (AllFit-filter q rs h.1)

  pub AllFit-append : (xs ys : List Raw) → AllFit columns xs → AllFit columns ys → AllFit columns (xs ++ ys)
  AllFit-append [] ys h k = k
  AllFit-append (x ∷ xs) ys h k = (h.0, AllFit-append xs ys h.1 k)

  pub AllFit-put_row : (row : Raw) (rows : List Raw) → Fits columns row → AllFit columns rows → AllFit columns (put_row row rows)
  AllFit-put_row row rows f h = AllFit-append (below row.id rows) (row ∷ above row.id rows) (AllFit-filter (λ r. is_below r.id row.id) rows h) (f, AllFit-filter (λ r. is_below row.id r.id) rows h)

  pub AllFit-without_row : (id : List ℕ) (rows : List Raw) → AllFit columns rows → AllFit columns (without_row id rows)
  AllFit-without_row id rows h = AllFit-append (below id rows) (above id rows) (AllFit-filter (λ r. is_below r.id id) rows h) (AllFit-filter (λ r. is_below id r.id) rows h)

  -- a row that is found fits, and has the id
  pub Fits-at_id : (id : List ℕ) (rows : List Raw) (row : Raw) → AllFit columns rows → at_id id rows ≡ Some row → Fits columns row
  Fits-at_id id [] row h found = cc
  Fits-at_id id (r ∷ rs) row h found =
      let ih : at_id id rs ≡ Some row → Fits columns row = Fits-at_id id rs row h.1 in
      split (bytes_eq r.id id) (λ e. let same : r ≡ row = some_same (rw e at found) in subst (λ (x : Raw). Fits columns x) same h.0) (λ e. ih (rw e at found))
    where
      some_same : Some r ≡ Some row → r ≡ row
      some_same e = cc

  pub IsKept-put_row : (row : Raw) (rows : List Raw) → Fits columns row → IsKept columns rows → IsKept columns (put_row row rows)
  IsKept-put_row row rows f h = record { ascending = is_ascending-put_row row rows h.ascending; fitting = AllFit-put_row row rows f h.fitting }

  pub IsKept-without_row : (id : List ℕ) (rows : List Raw) → IsKept columns rows → IsKept columns (without_row id rows)
  IsKept-without_row id rows h = record { ascending = is_ascending-without_row id rows h.ascending; fitting = AllFit-without_row id rows h.fitting }

pub id-at_id : (id : List ℕ) (rows : List Raw) (row : Raw) → at_id id rows ≡ Some row → row.id ≡ id
id-at_id id [] row found = cc
id-at_id id (r ∷ rs) row found =
    let ih : at_id id rs ≡ Some row → row.id ≡ id = id-at_id id rs row in
    split (bytes_eq r.id id) (λ e. subst (λ (x : Raw). x.id ≡ id) (some_same (rw e at found)) (same_bytes r.id id e)) (λ e. ih (rw e at found))
  where
    some_same : Some r ≡ Some row → r ≡ row
    some_same e = cc
