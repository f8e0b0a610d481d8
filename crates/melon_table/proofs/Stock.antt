-- Keys and the rows that they have: what is read at a place, and what a put, a removal and an insertion leave.
use Rattle.std.proofs.Common.{◌≡◌, ◌≢◌, ℕ, zero, suc, ◌<◌, ◌≤◌, List, [], ◌∷◌, length, set, Bool, true, false, cond, Option, Some, None, is_some, slice_get, refl, sym, ap, subst, ◌∙◌, inl, inr, arith}
use Rattle.std.specs.List.{AllByRecursion, cons_option, insert, remove}
use Rattle.std.proofs.lemmas.Bool.{cases_eq}
use Rattle.std.proofs.lemmas.List.Sums.{sum_by-set}
use Rattle.slab.specs.Slab.{Slab, get, ContainsKey, slab_len, with_value, Updates}
use Rattle.slab.proofs.SlabLemmas.{ContainsKey-within}
use Rattle.melon_raw.specs.declared.raw.Raw.{Raw}
use Rattle.melon_table.specs.declared.shelf.Shelf.TheInside.{Inside}
use Rattle.melon_table.specs.Seen.{SeenShelf}
use Rattle.melon_table.specs.Stocked.{rows_at, AllHeld, Lacks, AreApart, shelf_in, KeepsStock}

pub had : (o : Option Raw) → is_some o ≡ true → (r : Raw) × (o ≡ Some r)
had None h = cc
had (Some r) h = (r, refl)

-- ---- what is read

module _ (rows : Slab Raw) where
  pub first : (k : ℕ) (ks : List ℕ) (r : Raw) → get rows k ≡ Some r → rows_at rows (k ∷ ks) ≡ r ∷ rows_at rows ks
  first k ks r e = ap (λ o. cons_option o (rows_at rows ks)) e

  pub length-rows_at : (keys : List ℕ) → AllHeld rows keys → length (rows_at rows keys) ≡ length keys
  length-rows_at [] held = refl
  length-rows_at (k ∷ ks) held = let here = had (get rows k) held.0 in rw here.1 (ap suc (length-rows_at ks held.1))

  pub held_at : (keys : List ℕ) (place key : ℕ) → AllHeld rows keys → slice_get keys place ≡ Some key → ContainsKey rows key
  held_at [] place key held e = cc
  held_at (k ∷ ks) zero key held e = let same : k ≡ key = cc in subst (λ (x : ℕ). ContainsKey rows x) same held.0
  held_at (k ∷ ks) (suc place) key held e = held_at ks place key held.1 e

  -- the row at a place is that of its key
  pub row_at : (keys : List ℕ) (place key : ℕ) → AllHeld rows keys → slice_get keys place ≡ Some key → slice_get (rows_at rows keys) place ≡ get rows key
  row_at [] place key held e = cc
  row_at (k ∷ ks) zero key held e =
      let here = had (get rows k) held.0 in
      let same : k ≡ key = cc in
      rw here.1 (sym here.1 ∙ ap (get rows) same)
  row_at (k ∷ ks) (suc place) key held e = let here = had (get rows k) held.0 in rw here.1 (row_at ks place key held.1 e)

  rows-remove : (keys : List ℕ) (place : ℕ) → AllHeld rows keys → rows_at rows (remove keys place) ≡ remove (rows_at rows keys) place
  rows-remove [] zero held = refl
  rows-remove [] (suc place) held = refl
  rows-remove (k ∷ ks) zero held = let here = had (get rows k) held.0 in rw here.1 refl
  rows-remove (k ∷ ks) (suc place) held = let here = had (get rows k) held.0 in rw here.1 (ap (λ rest. here.0 ∷ rest) (rows-remove ks place held.1))

  -- a key with no row is none of those that have one
  pub lacks_new : (keys : List ℕ) (key : ℕ) → AllHeld rows keys → get rows key ≡ None → Lacks keys key
  lacks_new [] key held none = tt
  lacks_new (k ∷ ks) key held none = (λ same. let no : false ≡ true = sym (ap is_some (ap (get rows) same ∙ none)) ∙ held.0 in cc, lacks_new ks key held.1 none)

  -- a row in the stead of another takes no room
  pub same_count : (key : ℕ) (row : Raw) → ContainsKey rows key → slab_len (with_value rows key row) ≡ slab_len rows
  same_count key row h =
      let e = sum_by-set (λ o. cond (is_some o) 1 0) rows.slots key (Some row) None (ContainsKey-within rows key h) in
      let counts : (b : Bool) → b ≡ true → ◌≡◌ {A = ℕ} (cond b 1 0) 1 = λ b h. rw h refl in
      omega (arith, e, counts (is_some (get rows key)) h)

-- ---- keys in a list

all_insert : (P : ℕ → Type 0) (keys : List ℕ) (place key : ℕ) → AllByRecursion P keys → P key → AllByRecursion P (insert keys place key)
all_insert P keys zero key all here = (here, all)
all_insert P [] (suc place) key all here = (here, tt)
all_insert P (k ∷ ks) (suc place) key all here = (all.0, all_insert P ks place key all.1 here)

all_remove : (P : ℕ → Type 0) (keys : List ℕ) (place : ℕ) → AllByRecursion P keys → AllByRecursion P (remove keys place)
all_remove P [] zero all = tt
all_remove P [] (suc place) all = tt
all_remove P (k ∷ ks) zero all = all.1
all_remove P (k ∷ ks) (suc place) all = (all.0, all_remove P ks place all.1)

apart_from : (keys : List ℕ) (place key other : ℕ) → Lacks keys other → slice_get keys place ≡ Some key → key ≢ other
apart_from [] place key other lacks e = cc
apart_from (k ∷ ks) zero key other lacks e = let same : k ≡ key = cc in subst (λ (x : ℕ). x ≢ other) same lacks.0
apart_from (k ∷ ks) (suc place) key other lacks e = apart_from ks place key other lacks.1 e

pub apart-insert : (keys : List ℕ) (place key : ℕ) → AreApart keys → Lacks keys key → AreApart (insert keys place key)
apart-insert keys zero key apart lacks = (lacks, apart)
apart-insert [] (suc place) key apart lacks = (tt, tt)
apart-insert (k ∷ ks) (suc place) key apart lacks = (all_insert (λ x. x ≢ k) ks place key apart.0 (λ e. lacks.0 (sym e)), apart-insert ks place key apart.1 lacks.1)

pub apart-remove : (keys : List ℕ) (place : ℕ) → AreApart keys → AreApart (remove keys place)
apart-remove [] zero apart = tt
apart-remove [] (suc place) apart = tt
apart-remove (k ∷ ks) zero apart = apart.1
apart-remove (k ∷ ks) (suc place) apart = (all_remove (λ x. x ≢ k) ks place apart.0, apart-remove ks place apart.1)

-- a key that was taken out stands nowhere
pub lacks-remove : (keys : List ℕ) (place key : ℕ) → AreApart keys → slice_get keys place ≡ Some key → Lacks (remove keys place) key
lacks-remove [] place key apart e = cc
lacks-remove (k ∷ ks) zero key apart e = let same : k ≡ key = cc in subst (λ (x : ℕ). Lacks ks x) same apart.0
lacks-remove (k ∷ ks) (suc place) key apart e = (λ same. apart_from ks place key k apart.0 e (sym same), lacks-remove ks place key apart.1 e)

-- ---- what a change of one key leaves

module _ (old new : Slab Raw) (key : ℕ) where
  unchanged : (slot : Option Raw) (keys : List ℕ) → Updates old new key slot → Lacks keys key → rows_at new keys ≡ rows_at old keys
  unchanged slot [] updates lacks = refl
  unchanged slot (k ∷ ks) updates lacks =
      ap (λ o. cons_option o (rows_at new ks)) (updates.others k lacks.0) ∙ ap (cons_option (get old k)) (unchanged slot ks updates lacks.1)

  still_held : (slot : Option Raw) (keys : List ℕ) → Updates old new key slot → Lacks keys key → AllHeld old keys → AllHeld new keys
  still_held slot [] updates lacks held = tt
  still_held slot (k ∷ ks) updates lacks held = (ap is_some (updates.others k lacks.0) ∙ held.0, still_held slot ks updates lacks.1 held.1)

  module _ (row : Raw) (updates : Updates old new key (Some row)) where
    pub held-put : (keys : List ℕ) → AllHeld old keys → AllHeld new keys
    held-put [] held = tt
    held-put (k ∷ ks) held = (
      elim (cases_eq k key) [
        | inl same ↦ ap is_some (ap (get new) same ∙ updates.changed)
        | inr differs ↦ ap is_some (updates.others k differs) ∙ held.0
      ],
      held-put ks held.1,
    )

    pub rows-put : (keys : List ℕ) (place : ℕ) → AllHeld old keys → AreApart keys → slice_get keys place ≡ Some key → rows_at new keys ≡ set (rows_at old keys) place row
    rows-put [] place held apart e = cc
    rows-put (k ∷ ks) zero held apart e =
        let here = had (get old k) held.0 in
        let same : k ≡ key = cc in
        let now : get new k ≡ Some row = ap (get new) same ∙ updates.changed in
        let later = unchanged (Some row) ks updates (subst (λ (x : ℕ). Lacks ks x) same apart.0) in
        first new k ks row now ∙ (ap (λ rest. row ∷ rest) later ∙ sym (ap (λ rs. set rs 0 row) (first old k ks here.0 here.1)))
    rows-put (k ∷ ks) (suc place) held apart e =
        let here = had (get old k) held.0 in
        let now : get new k ≡ Some here.0 = updates.others k (λ same. apart_from ks place key k apart.0 e (sym same)) ∙ here.1 in
        first new k ks here.0 now ∙ (ap (λ rest. here.0 ∷ rest) (rows-put ks place held.1 apart.1 e) ∙ sym (ap (λ rs. set rs (suc place) row) (first old k ks here.0 here.1)))

    pub held-insert : (keys : List ℕ) (place : ℕ) → AllHeld old keys → AllHeld new (insert keys place key)
    held-insert keys place held = all_insert (ContainsKey new) keys place key (held-put keys held) (ap is_some updates.changed)

    pub rows-insert : (keys : List ℕ) (place : ℕ) → place ≤ length keys → AllHeld old keys → Lacks keys key → rows_at new (insert keys place key) ≡ insert (rows_at old keys) place row
    rows-insert keys zero within held lacks = rw updates.changed (ap (λ rest. row ∷ rest) (unchanged (Some row) keys updates lacks))
    rows-insert [] (suc place) within held lacks = absurd (omega arith)
    rows-insert (k ∷ ks) (suc place) within held lacks =
        let here = had (get old k) held.0 in
        let now : get new k ≡ Some here.0 = updates.others k lacks.0 ∙ here.1 in
        let later = rows-insert ks place (omega arith) held.1 lacks.1 in
        first new k (insert ks place key) here.0 now ∙ (ap (λ rest. here.0 ∷ rest) later ∙ sym (ap (λ rs. insert rs (suc place) row) (first old k ks here.0 here.1)))

  module _ (updates : Updates old new key None) (keys : List ℕ) (place : ℕ) (held : AllHeld old keys) (apart : AreApart keys) (at : slice_get keys place ≡ Some key) where
    pub held-remove : AllHeld new (remove keys place)
    held-remove = still_held None (remove keys place) updates (lacks-remove keys place key apart at) (all_remove (ContainsKey old) keys place held)

    pub rows-removed : rows_at new (remove keys place) ≡ remove (rows_at old keys) place
    rows-removed = unchanged None (remove keys place) updates (lacks-remove keys place key apart at) ∙ rows-remove old keys place held

-- ---- a shelf

module _ (s : Inside) (seen : SeenShelf) (is : shelf_in s ≡ seen) (keeps : KeepsStock s) where
  pub len_is : length s.order.keys ≡ length seen.rows
  len_is = sym (length-rows_at s.rows s.order.keys keeps.held) ∙ ap (λ t. length t.rows) is

  module _ (place : ℕ) (within : place < length seen.rows) where
    pub inside : place < length s.order.keys
    inside = omega (arith, within, len_is)

    module _ (key : ℕ) (at : slice_get s.order.keys place ≡ Some key) where
      pub has_row : ContainsKey s.rows key
      has_row = held_at s.rows s.order.keys place key keeps.held at

      pub row_is : slice_get seen.rows place ≡ get s.rows key
      row_is = sym (ap (λ t. slice_get t.rows place) is) ∙ row_at s.rows s.order.keys place key keeps.held at
