-- The keys of the rows that aren't synced, as keys come, go and change their rows.
use Rattle.std.proofs.Common.{◌≡◌, ◌≢◌, ℕ, zero, suc, ◌<◌, ◌≤◌, List, [], ◌∷◌, length, take, filter, cond, Bool, true, false, Some, slice_get, refl, sym, ap, ◌∙◌, arith}
use Rattle.std.specs.List.{AllByRecursion, insert, remove}
use Rattle.slab.specs.Slab.{Slab, get, ContainsKey}
use Rattle.melon_raw.specs.declared.raw.Raw.{Raw}
use Rattle.melon_table.specs.declared.shelf.Shelf.TheInside.{Inside}
use Rattle.melon_table.specs.Seen.{SeenShelf}
use Rattle.melon_table.specs.Dirty.{is_dirty, dirty_rows}
use Rattle.melon_table.specs.Stocked.{rows_at, AllHeld, Lacks, AreApart, is_dirty_slot, dirty_keys, marked, shelf_in, KeepsStock}
use Rattle.melon_table.proofs.Order.{split}
use Rattle.melon_table.proofs.Stock.{had, first, lacks-remove, held_at, row_at}

-- ---- those of a list that pass, as one comes or goes

module _ (f : ℕ → Bool) where
  pub filter-insert : (keys : List ℕ) (p k : ℕ) → p ≤ length keys → (b : Bool) → f k ≡ b → filter f (insert keys p k) ≡ cond b (insert (filter f keys) (length (filter f (take p keys))) k) (filter f keys)
  filter-insert keys zero k within true e = rw e refl
  filter-insert keys zero k within false e = rw e refl
  filter-insert [] (suc p) k within b e = absurd (omega arith)
  filter-insert (x ∷ xs) (suc p) k within true e =
      let ih = filter-insert xs p k (omega arith) true e in
      split (f x)
      (λ here. rw here (ap (λ (l : List ℕ). x ∷ l) ih))
      (λ here. rw here ih)
  filter-insert (x ∷ xs) (suc p) k within false e =
      let ih = filter-insert xs p k (omega arith) false e in
      split (f x)
      (λ here. rw here (ap (λ (l : List ℕ). x ∷ l) ih))
      (λ here. rw here ih)

  pub filter-remove : (keys : List ℕ) (p k : ℕ) → slice_get keys p ≡ Some k → (b : Bool) → f k ≡ b → filter f (remove keys p) ≡ cond b (remove (filter f keys) (length (filter f (take p keys)))) (filter f keys)
  filter-remove [] p k found b e = cc
  filter-remove (x ∷ xs) zero k found true e =
      let here : f x ≡ true = let same : x ≡ k = cc in ap f same ∙ e in rw here refl
  filter-remove (x ∷ xs) zero k found false e =
      let here : f x ≡ false = let same : x ≡ k = cc in ap f same ∙ e in rw here refl
  filter-remove (x ∷ xs) (suc p) k found true e =
      let ih = filter-remove xs p k found true e in
      split (f x)
      (λ here. rw here (ap (λ (l : List ℕ). x ∷ l) ih))
      (λ here. rw here ih)
  filter-remove (x ∷ xs) (suc p) k found false e =
      let ih = filter-remove xs p k found false e in
      split (f x)
      (λ here. rw here (ap (λ (l : List ℕ). x ∷ l) ih))
      (λ here. rw here ih)

  pub rank_within : (keys : List ℕ) (p : ℕ) → length (filter f (take p keys)) ≤ length (filter f keys)
  rank_within keys zero = omega arith
  rank_within [] (suc p) = omega arith
  rank_within (x ∷ xs) (suc p) =
      let ih = rank_within xs p in
      split (f x)
      (λ here. rw here (omega (arith, ih)))
      (λ here. rw here ih)

  -- one that passes stands at its rank
  pub rank_below : (keys : List ℕ) (p k : ℕ) → slice_get keys p ≡ Some k → f k ≡ true → length (filter f (take p keys)) < length (filter f keys)
  rank_below [] p k found e = cc
  rank_below (x ∷ xs) zero k found e =
      let here : f x ≡ true = let same : x ≡ k = cc in ap f same ∙ e in rw here (omega arith)
  rank_below (x ∷ xs) (suc p) k found e =
      let ih = rank_below xs p k found e in
      split (f x)
      (λ here. rw here (omega (arith, ih)))
      (λ here. rw here ih)

  pub filter_few : (keys : List ℕ) → length (filter f keys) ≤ length keys
  filter_few [] = omega arith
  filter_few (x ∷ xs) =
      let ih = filter_few xs in
      split (f x)
      (λ here. rw here (omega (arith, ih)))
      (λ here. rw here (omega (arith, ih)))

  -- where one of them doesn't pass, those that pass are fewer
  pub filter_fewer : (keys : List ℕ) (p k : ℕ) → slice_get keys p ≡ Some k → f k ≡ false → length (filter f keys) < length keys
  filter_fewer [] p k found e = cc
  filter_fewer (x ∷ xs) zero k found e =
      let here : f x ≡ false = let same : x ≡ k = cc in ap f same ∙ e in
      let few = filter_few xs in rw here (omega (arith, few))
  filter_fewer (x ∷ xs) (suc p) k found e =
      let ih = filter_fewer xs p k found e in
      split (f x)
      (λ here. rw here (omega (arith, ih)))
      (λ here. rw here (omega (arith, ih)))

  pub all_filter : (P : ℕ → Type 0) (keys : List ℕ) → AllByRecursion P keys → AllByRecursion P (filter f keys)
  all_filter P [] all = tt
  all_filter P (x ∷ xs) all =
      let ih = all_filter P xs all.1 in
      split (f x)
      (λ here. rw here (all.0, ih))
      (λ here. rw here ih)

  at_rank : (keys : List ℕ) (p k : ℕ) → slice_get keys p ≡ Some k → f k ≡ true → slice_get (filter f keys) (length (filter f (take p keys))) ≡ Some k
  at_rank [] p k found e = cc
  at_rank (x ∷ xs) zero k found e =
      let here : f x ≡ true = let same : x ≡ k = cc in ap f same ∙ e in rw here found
  at_rank (x ∷ xs) (suc p) k found e =
      let ih = at_rank xs p k found e in
      split (f x)
      (λ here. rw here ih)
      (λ here. rw here ih)

insert-remove : (keys : List ℕ) (p k : ℕ) → slice_get keys p ≡ Some k → keys ≡ insert (remove keys p) p k
insert-remove [] p k found = cc
insert-remove (x ∷ xs) zero k found = let same : x ≡ k = cc in ap (λ (y : ℕ). y ∷ xs) same
insert-remove (x ∷ xs) (suc p) k found = ap (λ (l : List ℕ). x ∷ l) (insert-remove xs p k found)

take-remove : (keys : List ℕ) (p : ℕ) → take p (remove keys p) ≡ take p keys
take-remove [] zero = refl
take-remove [] (suc p) = refl
take-remove (x ∷ xs) zero = refl
take-remove (x ∷ xs) (suc p) = ap (λ (l : List ℕ). x ∷ l) (take-remove xs p)

remove-within : (keys : List ℕ) (p k : ℕ) → slice_get keys p ≡ Some k → p ≤ length (remove keys p)
remove-within [] p k found = cc
remove-within (x ∷ xs) zero k found = omega arith
remove-within (x ∷ xs) (suc p) k found = let ih = remove-within xs p k found in omega (arith, ih)

-- ---- where the test changes at one key alone

module _ (f g : ℕ → Bool) (key : ℕ) (others : (k : ℕ) → k ≢ key → g k ≡ f k) where
  pub filter_others : (keys : List ℕ) → Lacks keys key → filter g keys ≡ filter f keys
  filter_others [] lacks = refl
  filter_others (x ∷ xs) lacks =
      let ih = filter_others xs lacks.1 in
      let same : g x ≡ f x = others x lacks.0 in
      split (f x)
      (λ here. rw here (rw (same ∙ here) (ap (λ (l : List ℕ). x ∷ l) ih)))
      (λ here. rw here (rw (same ∙ here) ih))

  -- one came
  pub came : (keys : List ℕ) (p : ℕ) → p ≤ length keys → Lacks keys key → (is : Bool) → g key ≡ is → filter g (insert keys p key) ≡ marked false is (length (filter f (take p keys))) key (filter f keys)
  came keys p within lacks true e =
      filter-insert g keys p key within true e
      ∙ (ap (λ (l : List ℕ). insert l (length (filter g (take p keys))) key) (filter_others keys lacks)
      ∙ ap (λ (l : List ℕ). insert (filter f keys) (length l) key) (filter_others (take p keys) (lacks_take keys p lacks)))
    where
      lacks_take : (ks : List ℕ) (n : ℕ) → Lacks ks key → Lacks (take n ks) key
      lacks_take ks zero h = tt
      lacks_take [] (suc n) h = tt
      lacks_take (x ∷ xs) (suc n) h = (h.0, lacks_take xs n h.1)
  came keys p within lacks false e = filter-insert g keys p key within false e ∙ filter_others keys lacks

  -- one went
  pub went : (keys : List ℕ) (p : ℕ) → slice_get keys p ≡ Some key → AreApart keys → (was : Bool) → f key ≡ was → filter g (remove keys p) ≡ marked was false (length (filter f (take p keys))) key (filter f keys)
  went keys p found apart true e = filter_others (remove keys p) (lacks-remove keys p key apart found) ∙ filter-remove f keys p key found true e
  went keys p found apart false e = filter_others (remove keys p) (lacks-remove keys p key apart found) ∙ filter-remove f keys p key found false e

  -- one changed
  pub changed : (keys : List ℕ) (p : ℕ) → slice_get keys p ≡ Some key → AreApart keys → (was is : Bool) → f key ≡ was → g key ≡ is → filter g keys ≡ marked was is (length (filter f (take p keys))) key (filter f keys)
  changed keys p found apart was is e h =
      let rest = remove keys p in
      let lacks = lacks-remove keys p key apart found in
      let within = remove-within keys p key found in
      let now : filter g keys ≡ marked false is (length (filter f (take p keys))) key (filter f rest) =
      ap (filter g) (insert-remove keys p key found)
      ∙ (came rest p within lacks is h
      ∙ ap (λ (l : List ℕ). marked false is (length (filter f l)) key (filter f rest)) (take-remove keys p)) in
      now ∙ by was is e
    where
      by : (was is : Bool) → f key ≡ was → marked false is (length (filter f (take p keys))) key (filter f (remove keys p)) ≡ marked was is (length (filter f (take p keys))) key (filter f keys)
      by false is e = ap (marked false is (length (filter f (take p keys))) key) (filter-remove f keys p key found false e)
      by true false e = filter-remove f keys p key found true e
      by true true e =
          let n = length (filter f (take p keys)) in
          ap (λ (l : List ℕ). insert l n key) (filter-remove f keys p key found true e)
          ∙ sym (insert-remove (filter f keys) n key (at_rank f keys p key found e))

-- where a key goes matters only where it comes or goes
pub placed : (was is : Bool) (n m key : ℕ) (keys : List ℕ) → (was ≢ is → n ≡ m) → marked was is n key keys ≡ marked was is m key keys
placed false false n m key keys h = refl
placed false true n m key keys h = ap (λ (i : ℕ). insert keys i key) (h (λ e. cc))
placed true false n m key keys h = ap (λ (i : ℕ). remove keys i) (h (λ e. cc))
placed true true n m key keys h = refl

pub is_true : (b : Bool) → false ≢ b → b ≡ true
is_true true apart = refl
is_true false apart = absurd (apart refl)

pub was_true : (b : Bool) → b ≢ false → b ≡ true
was_true true apart = refl
was_true false apart = absurd (apart refl)

-- ---- of rows

module _ (rows : Slab Raw) where
  with_row : (k : ℕ) (ks : List ℕ) (r : Raw) → get rows k ≡ Some r → (b : Bool) → is_dirty r.status ≡ b → rows_at rows (dirty_keys rows ks) ≡ dirty_rows (rows_at rows ks) → rows_at rows (dirty_keys rows (k ∷ ks)) ≡ dirty_rows (rows_at rows (k ∷ ks))
  with_row k ks r e true d ih =
      ap (λ (b : Bool). rows_at rows (cond b (k ∷ dirty_keys rows ks) (dirty_keys rows ks))) (ap is_dirty_slot e ∙ d)
      ∙ (first rows k (dirty_keys rows ks) r e
      ∙ (ap (λ (l : List Raw). r ∷ l) ih
      ∙ sym (ap dirty_rows (first rows k ks r e) ∙ ap (λ (b : Bool). cond b (r ∷ dirty_rows (rows_at rows ks)) (dirty_rows (rows_at rows ks))) d)))
  with_row k ks r e false d ih =
      ap (λ (b : Bool). rows_at rows (cond b (k ∷ dirty_keys rows ks) (dirty_keys rows ks))) (ap is_dirty_slot e ∙ d)
      ∙ (ih
      ∙ sym (ap dirty_rows (first rows k ks r e) ∙ ap (λ (b : Bool). cond b (r ∷ dirty_rows (rows_at rows ks)) (dirty_rows (rows_at rows ks))) d))

  pub rows_of_dirty : (keys : List ℕ) → AllHeld rows keys → rows_at rows (dirty_keys rows keys) ≡ dirty_rows (rows_at rows keys)
  rows_of_dirty [] held = refl
  rows_of_dirty (k ∷ ks) held = let here = had (get rows k) held.0 in with_row k ks here.0 here.1 (is_dirty here.0.status) refl (rows_of_dirty ks held.1)

  rows_of_take : (keys : List ℕ) (p : ℕ) → AllHeld rows keys → rows_at rows (take p keys) ≡ take p (rows_at rows keys)
  rows_of_take keys zero held = refl
  rows_of_take [] (suc p) held = refl
  rows_of_take (k ∷ ks) (suc p) held = let here = had (get rows k) held.0 in rw here.1 (ap (λ (l : List Raw). here.0 ∷ l) (rows_of_take ks p held.1))

  pub dirty_count : (keys : List ℕ) → AllHeld rows keys → length (dirty_keys rows keys) ≡ length (dirty_rows (rows_at rows keys))
  dirty_count [] held = refl
  dirty_count (k ∷ ks) held =
      let here = had (get rows k) held.0 in
      let ih = dirty_count ks held.1 in
      split (is_dirty here.0.status)
      (λ d. rw here.1 (rw d (ap suc ih)))
      (λ d. rw here.1 (rw d ih))

  held_take : (keys : List ℕ) (p : ℕ) → AllHeld rows keys → AllHeld rows (take p keys)
  held_take keys zero held = tt
  held_take [] (suc p) held = tt
  held_take (k ∷ ks) (suc p) held = (held.0, held_take ks p held.1)

  -- so many of those before a place
  pub count_before : (keys : List ℕ) (p : ℕ) → AllHeld rows keys → length (dirty_keys rows (take p keys)) ≡ length (dirty_rows (take p (rows_at rows keys)))
  count_before keys p held = dirty_count (take p keys) (held_take keys p held) ∙ ap (λ (l : List Raw). length (dirty_rows l)) (rows_of_take keys p held)

-- ---- of a shelf

module _ (s : Inside) (seen : SeenShelf) (is : shelf_in s ≡ seen) (keeps : KeepsStock s) where
  pub count_is : length s.dirty.keys ≡ length (dirty_rows seen.rows)
  count_is = ap length keeps.dirty ∙ (dirty_count s.rows s.order.keys keeps.held ∙ ap (λ t. length (dirty_rows t.rows)) is)

  pub before_is : (place : ℕ) → length (dirty_keys s.rows (take place s.order.keys)) ≡ length (dirty_rows (take place seen.rows))
  before_is place = count_before s.rows s.order.keys place keeps.held ∙ ap (λ t. length (dirty_rows (take place t.rows))) is

  pub rank_short : (place : ℕ) → length (dirty_rows (take place seen.rows)) ≤ length s.dirty.keys
  rank_short place =
      let few = rank_within (λ (k : ℕ). is_dirty_slot (get s.rows k)) s.order.keys place in
      omega (arith, few, before_is place, ap length keeps.dirty)

  pub dirty_few : length s.dirty.keys ≤ length s.order.keys
  dirty_few = let few = filter_few (λ (k : ℕ). is_dirty_slot (get s.rows k)) s.order.keys in omega (arith, few, ap length keeps.dirty)

  module _ (place key : ℕ) (at : slice_get s.order.keys place ≡ Some key) where
    -- the key of a row that isn't synced stands behind fewer than all
    pub rank_below_all : is_dirty_slot (get s.rows key) ≡ true → length (dirty_rows (take place seen.rows)) < length s.dirty.keys
    rank_below_all dirty =
        let low = rank_below (λ (k : ℕ). is_dirty_slot (get s.rows k)) s.order.keys place key at dirty in
        omega (arith, low, before_is place, ap length keeps.dirty)

    -- where one row is synced, those that aren't are fewer than all
    pub dirty_fewer : is_dirty_slot (get s.rows key) ≡ false → length s.dirty.keys < length s.order.keys
    dirty_fewer clean =
        let few = filter_fewer (λ (k : ℕ). is_dirty_slot (get s.rows k)) s.order.keys place key at clean in
        omega (arith, few, ap length keeps.dirty)

  module _ (i key : ℕ) (at : slice_get s.dirty.keys i ≡ Some key) where
    there : slice_get (dirty_keys s.rows s.order.keys) i ≡ Some key
    there = sym (ap (λ (l : List ℕ). slice_get l i) keeps.dirty) ∙ at

    held : AllHeld s.rows (dirty_keys s.rows s.order.keys)
    held = all_filter (λ (k : ℕ). is_dirty_slot (get s.rows k)) (ContainsKey s.rows) s.order.keys keeps.held

    pub has_dirty : ContainsKey s.rows key
    has_dirty = held_at s.rows (dirty_keys s.rows s.order.keys) i key held there

    pub dirty_is : slice_get (dirty_rows seen.rows) i ≡ get s.rows key
    dirty_is =
        sym (ap (λ t. slice_get (dirty_rows t.rows) i) is)
        ∙ (sym (ap (λ (l : List Raw). slice_get l i) (rows_of_dirty s.rows s.order.keys keeps.held)) ∙ row_at s.rows (dirty_keys s.rows s.order.keys) i key held there)
