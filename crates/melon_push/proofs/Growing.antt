-- A fetch as it grows, row by row and table by table.
use Rattle.std.proofs.Common.{◌≡◌, ℕ, zero, suc, ◌+◌, ◌-◌, ◌<◌, ◌≤◌, List, [], ◌∷◌, ◌++◌, length, map, filter, take, get_or, Bool, true, false, cond, Option, Some, None, slice_get, refl, sym, ap, ◌∙◌, subst, arith, append_assoc, append-nil, length-append}
use Rattle.std.specs.List.{flat_map, range_with_len}
use Rattle.std.proofs.lemmas.List.{map-append, take_all}
use Rattle.melon_raw.specs.declared.raw.Status.{Status}
use Rattle.melon_raw.specs.declared.raw.Status.TheVariants.{Created, Updated, Deleted, Synced}
use Rattle.melon_raw.specs.declared.raw.Raw.{Raw}
use Rattle.melon_raw.specs.Rows.{Rows}
use Rattle.melon_table.specs.Dirty.{is_dirty, dirty_rows}
use Rattle.melon_wire.specs.declared.fetch.Held.{Held}
use Rattle.melon_wire.specs.declared.fetch.Gone.{Gone}
use Rattle.melon_wire.specs.declared.fetch.Fetch.{Fetch}
use Rattle.melon_raw.specs.Same.{status_eq}
use Rattle.melon_wire.specs.Collected.{has_status, held_at, gone_at, fetched_count, collected}
use Rattle.melon_wire.proofs.KeyOrder.{split}
use Rattle.melon_push.specs.Fetching.{collected_at, with_more, collected_of}
use Rattle.melon_push.proofs.Lists.{filter-append, filter-filter, flat_map_push, take_next, past_end}

abbrev held_in : ℕ → Raw → Held
held_in i r = record { table = i; row = r }

abbrev gone_in : ℕ → Raw → Gone
gone_in i r = record { table = i; id = r.id }

pub fetch_path : (f g : Fetch) → f.created ≡ g.created → f.updated ≡ g.updated → f.deleted ≡ g.deleted → f ≡ g
fetch_path f g p q r = λ i. record { created = p i; updated = q i; deleted = r i }

-- ---- one row

module _ (table : ℕ) (row : Raw) (f : Fetch) where
  status_is : (s t : Status) → row.status ≡ s → has_status t row ≡ status_eq s t
  status_is s t e = ap (λ (u : Status). status_eq u t) e

  -- a created row goes to the first list
  pub created_more : (created : List Held) → row.status ≡ Created → created ≡ f.created ++ held_in table row ∷ [] → record { created = created; updated = f.updated; deleted = f.deleted } ≡ with_more f (collected_at table (row ∷ []))
  created_more created s is = rw (status_is Created Created s, status_is Created Updated s, status_is Created Deleted s) (fetch_path _ _ is (sym (append-nil f.updated)) (sym (append-nil f.deleted)))

  pub updated_more : (updated : List Held) → row.status ≡ Updated → updated ≡ f.updated ++ held_in table row ∷ [] → record { created = f.created; updated = updated; deleted = f.deleted } ≡ with_more f (collected_at table (row ∷ []))
  updated_more updated s is = rw (status_is Updated Created s, status_is Updated Updated s, status_is Updated Deleted s) (fetch_path _ _ (sym (append-nil f.created)) is (sym (append-nil f.deleted)))

  pub deleted_more : (deleted : List Gone) → row.status ≡ Deleted → deleted ≡ f.deleted ++ gone_in table row ∷ [] → record { created = f.created; updated = f.updated; deleted = deleted } ≡ with_more f (collected_at table (row ∷ []))
  deleted_more deleted s is = rw s (fetch_path _ _ (sym (append-nil f.created)) (sym (append-nil f.updated)) is)

  pub synced_more : row.status ≡ Synced → f ≡ with_more f (collected_at table (row ∷ []))
  synced_more s = rw s (fetch_path _ _ (sym (append-nil f.created)) (sym (append-nil f.updated)) (sym (append-nil f.deleted)))

-- ---- the rows of a table

held_append : (s : Status) (i : ℕ) (xs ys : List Raw) → map (held_in i) (filter (has_status s) (xs ++ ys)) ≡ map (held_in i) (filter (has_status s) xs) ++ map (held_in i) (filter (has_status s) ys)
held_append s i xs ys = ap (map (held_in i)) (filter-append (has_status s) xs ys) ∙ map-append (held_in i) (filter (has_status s) xs) (filter (has_status s) ys)

gone_append : (i : ℕ) (xs ys : List Raw) → map (gone_in i) (filter (has_status Deleted) (xs ++ ys)) ≡ map (gone_in i) (filter (has_status Deleted) xs) ++ map (gone_in i) (filter (has_status Deleted) ys)
gone_append i xs ys = ap (map (gone_in i)) (filter-append (has_status Deleted) xs ys) ∙ map-append (gone_in i) (filter (has_status Deleted) xs) (filter (has_status Deleted) ys)

-- what is collected of some rows and then of more
more_rows : (f : Fetch) (i : ℕ) (xs ys : List Raw) → with_more (with_more f (collected_at i xs)) (collected_at i ys) ≡ with_more f (collected_at i (xs ++ ys))
more_rows f i xs ys = fetch_path _ _
    (append_assoc f.created _ _ ∙ ap (λ hs. f.created ++ hs) (sym (held_append Created i xs ys)))
    (append_assoc f.updated _ _ ∙ ap (λ hs. f.updated ++ hs) (sym (held_append Updated i xs ys)))
    (append_assoc f.deleted _ _ ∙ ap (λ gs. f.deleted ++ gs) (sym (gone_append i xs ys)))

-- a row more of a list
pub row_more : (f now next : Fetch) (i k : ℕ) (rows : List Raw) (row : Raw) → slice_get rows k ≡ Some row → now ≡ with_more f (collected_at i (take k rows)) → next ≡ with_more now (collected_at i (row ∷ [])) → next ≡ with_more f (collected_at i (take (k + 1) rows))
row_more f now next i k rows row here was is =
    is ∙ (ap (λ (g : Fetch). with_more g (collected_at i (row ∷ []))) was ∙ (more_rows f i (take k rows) (row ∷ []) ∙ ap (λ (rs : List Raw). with_more f (collected_at i rs)) (sym (take_next rows k row here))))

dirty_from : (s : Status) (r : Raw) → is_dirty s ≡ true → has_status s r ≡ true → is_dirty r.status ≡ true
dirty_from s r d h = by s r.status d h
  where
    by : (s t : Status) → is_dirty s ≡ true → status_eq t s ≡ true → is_dirty t ≡ true
    by s Created d h = refl
    by s Updated d h = refl
    by s Deleted d h = refl
    by Created Synced d h = h
    by Updated Synced d h = h
    by Deleted Synced d h = h
    by Synced Synced d h = d

-- what is collected of the rows that aren't synced is what is collected of all
pub dirty_all : (i : ℕ) (rows : List Raw) → collected_at i (dirty_rows rows) ≡ collected_at i rows
dirty_all i rows = fetch_path _ _
    (ap (map (held_in i)) (filter-filter (has_status Created) (λ r. is_dirty r.status) (λ r h. dirty_from Created r refl h) rows))
    (ap (map (held_in i)) (filter-filter (has_status Updated) (λ r. is_dirty r.status) (λ r h. dirty_from Updated r refl h) rows))
    (ap (map (gone_in i)) (filter-filter (has_status Deleted) (λ r. is_dirty r.status) (λ r h. dirty_from Deleted r refl h) rows))

-- all rows of the table
pub all_rows : (f now : Fetch) (i k : ℕ) (rows : List Raw) → length (dirty_rows rows) ≤ k → now ≡ with_more f (collected_at i (take k (dirty_rows rows))) → now ≡ with_more f (collected_at i rows)
all_rows f now i k rows h is = is ∙ (ap (λ (rs : List Raw). with_more f (collected_at i rs)) (take_all k (dirty_rows rows) h) ∙ ap (with_more f) (dirty_all i rows))

pub dirty_fewer : (rows : List Raw) → length (dirty_rows rows) ≤ length rows
dirty_fewer [] = omega arith
dirty_fewer (r ∷ rs) = let ih : length (dirty_rows rs) ≤ length rs = dirty_fewer rs in
    split (is_dirty r.status) (λ e. rw e (omega (arith, ih))) (λ e. rw e (omega (arith, ih)))

-- ---- table by table

pub table_more : (rows : Rows) (n : ℕ) → with_more (collected_of rows n) (collected_at n (get_or rows n [])) ≡ collected_of rows (n + 1)
table_more rows n = fetch_path _ _ (sym (flat_map_push (held_at Created rows) n)) (sym (flat_map_push (held_at Updated rows) n)) (sym (flat_map_push (gone_at rows) n))

pub all_tables : (rows : Rows) → collected_of rows (length rows) ≡ collected rows
unfolding collected
all_tables rows = refl

-- ---- how many

counted : (i : ℕ) (r : Raw) (rs : List Raw) (s : Status) → r.status ≡ s → fetched_count (collected_at i (r ∷ rs)) ≡ cond (is_dirty s) 1 0 + fetched_count (collected_at i rs)
counted i r rs Created e = rw e (omega arith)
counted i r rs Updated e = rw e (omega arith)
counted i r rs Deleted e = rw e (omega arith)
counted i r rs Synced e = rw e (omega arith)

pub count_rows : (i : ℕ) (rows : List Raw) → fetched_count (collected_at i rows) ≡ length (dirty_rows rows)
count_rows i [] = omega arith
count_rows i (r ∷ rs) =
    let ih : fetched_count (collected_at i rs) ≡ length (dirty_rows rs) = count_rows i rs in
    let one : fetched_count (collected_at i (r ∷ rs)) ≡ cond (is_dirty r.status) 1 0 + fetched_count (collected_at i rs) = counted i r rs r.status refl in
    one ∙ (ap (λ n. cond (is_dirty r.status) 1 0 + n) ih ∙ split (is_dirty r.status) (λ e. rw e (omega arith)) (λ e. rw e (omega arith)))

count_more : (f g : Fetch) → fetched_count (with_more f g) ≡ fetched_count f + fetched_count g
count_more f g = omega (arith, length-append f.created g.created, length-append f.updated g.updated, length-append f.deleted g.deleted)

-- a table more
pub count_table : (rows : Rows) (n : ℕ) → fetched_count (collected_of rows (n + 1)) ≡ fetched_count (collected_of rows n) + length (dirty_rows (get_or rows n []))
count_table rows n = ap fetched_count (sym (table_more rows n)) ∙ (count_more (collected_of rows n) (collected_at n (get_or rows n [])) ∙ ap (λ k. fetched_count (collected_of rows n) + k) (count_rows n (get_or rows n [])))

-- of fewer tables no more is collected
pub count_fewer : (rows : Rows) (n k : ℕ) → fetched_count (collected_of rows n) ≤ fetched_count (collected_of rows (n + k))
count_fewer rows n zero = let same : n + 0 ≡ n = omega arith in subst (λ (m : ℕ). fetched_count (collected_of rows n) ≤ fetched_count (collected_of rows m)) (sym same) (omega arith)
count_fewer rows n (suc k) =
    let ih : fetched_count (collected_of rows n) ≤ fetched_count (collected_of rows (n + k)) = count_fewer rows n k in
    let step : fetched_count (collected_of rows (n + k + 1)) ≡ fetched_count (collected_of rows (n + k)) + length (dirty_rows (get_or rows (n + k) [])) = count_table rows (n + k) in
    let same : n + suc k ≡ n + k + 1 = omega arith in
    subst (λ (m : ℕ). fetched_count (collected_of rows n) ≤ fetched_count (collected_of rows m)) (sym same) (omega (arith, ih, step))

-- a table is collected within the count of all
pub count_within : (rows : Rows) (n m : ℕ) → n < m → fetched_count (collected_of rows n) + length (dirty_rows (get_or rows n [])) ≤ fetched_count (collected_of rows m)
count_within rows n m h =
    let step : fetched_count (collected_of rows (n + 1)) ≡ fetched_count (collected_of rows n) + length (dirty_rows (get_or rows n [])) = count_table rows n in
    let rest : fetched_count (collected_of rows (n + 1)) ≤ fetched_count (collected_of rows (n + 1 + (m - (n + 1)))) = count_fewer rows (n + 1) (m - (n + 1)) in
    let same : n + 1 + (m - (n + 1)) ≡ m = omega (arith, h) in
    let last : fetched_count (collected_of rows (n + 1)) ≤ fetched_count (collected_of rows m) = subst (λ (k : ℕ). fetched_count (collected_of rows (n + 1)) ≤ fetched_count (collected_of rows k)) same rest in
    omega (arith, step, last)
