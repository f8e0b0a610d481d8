-- A store among others: the first of its name.
use Rattle.std.proofs.Common.{◌≡◌, ℕ, zero, suc, ◌+◌, ◌<◌, ◌≤◌, Bool, true, false, not, ◌&&◌, cond, List, [], ◌∷◌, ◌++◌, length, get_or, map, Option, Some, None, bytes_eq, refl, sym, ap, ap₂, ◌∙◌, subst, arith}
use Rattle.std.proofs.Math.ListN.{set}
use Rattle.std.specs.List.{list_all, position, position_or_len}
use Rattle.std.proofs.lemmas.Grind.{common_steps}
use Rattle.std.proofs.lemmas.List.Quantifiers.{position-Some}
use Rattle.std.proofs.lemmas.Slice.Eq.{bytes_eq-Decides}
use Rattle.melon_outside.specs.declared.kept.Kept.{Kept}
use Rattle.melon_outside.specs.declared.kept.KeptBatch.{KeptBatch}
use Rattle.melon_outside.specs.declared.kept.KeptStore.{KeptStore}
use Rattle.melon_outside.specs.declared.shelf.Shelf.{Shelf}
use Rattle.melon_outside.specs.Kept.{nothing, is_in_order, batched}
use Rattle.melon_outside.specs.Keeping.{find, with_store, made, are_stores, are_in_order}
use Rattle.melon_outside.specs.Shelved.{seen_kept, seen_store, stores_of}
use Rattle.melon_outside.proofs.Order.{and_true}
use Rattle.melon_outside.proofs.Batches.{batched-in_order}

-- this place is the first of the name
pub record IsFirst (name : List ℕ) (shelves : List Shelf) (i : ℕ) (d : Shelf) : Type 0 where
  pub within : i < length shelves
  pub here : bytes_eq (get_or shelves i d).name name ≡ true
  pub before : (k : ℕ) → k < i → bytes_eq (get_or shelves k d).name name ≡ false

next_first : (name : List ℕ) (s : Shelf) (ss : List Shelf) (i : ℕ) (d : Shelf) → IsFirst name (s ∷ ss) (suc i) d → IsFirst name ss i d
next_first name s ss i d f = record { within = omega (arith, f.within); here = f.here; before = λ k less. f.before (suc k) (omega arith) }

pub find-first : (name : List ℕ) (shelves : List Shelf) (i : ℕ) (d : Shelf) → IsFirst name shelves i d → find (map seen_store shelves) name ≡ seen_kept (get_or shelves i d)
find-first name [] i d f = absurd (omega (arith, f.within))
find-first name (s ∷ ss) zero d f = rw f.here refl
find-first name (s ∷ ss) (suc i) d f = rw (f.before zero (omega arith)) (find-first name ss i d (next_first name s ss i d f))

pub with_store-first : (name : List ℕ) (kept : Kept) (shelves : List Shelf) (i : ℕ) (d new : Shelf) → IsFirst name shelves i d → new.name ≡ (get_or shelves i d).name → seen_kept new ≡ kept
    → map seen_store (set shelves i new) ≡ with_store name kept (map seen_store shelves)
with_store-first name kept [] i d new f n k = absurd (omega (arith, f.within))
with_store-first name kept (s ∷ ss) zero d new f n k = rw f.here (ap (λ t. t ∷ map seen_store ss) (ap₂ made (n ∙ (bytes_eq-Decides s.name name).0 f.here) k))
with_store-first name kept (s ∷ ss) (suc i) d new f n k = rw (f.before zero (omega arith)) (ap (λ rest. seen_store s ∷ rest) (with_store-first name kept ss i d new (next_first name s ss i d f) n k))

pub same-first : (name : List ℕ) (shelves : List Shelf) (i : ℕ) (d new : Shelf) → IsFirst name shelves i d → new.name ≡ (get_or shelves i d).name → seen_kept new ≡ seen_kept (get_or shelves i d)
    → map seen_store (set shelves i new) ≡ map seen_store shelves
same-first name [] i d new f n k = absurd (omega (arith, f.within))
same-first name (s ∷ ss) zero d new f n k = ap (λ t. t ∷ map seen_store ss) (ap₂ made n k)
same-first name (s ∷ ss) (suc i) d new f n k = ap (λ rest. seen_store s ∷ rest) (same-first name ss i d new (next_first name s ss i d f) n k)

abbrev pub IsNowhere : List ℕ → List Shelf → Type 0
IsNowhere name [] = Unit {0}
IsNowhere name (s ∷ ss) = (bytes_eq s.name name ≡ false) × IsNowhere name ss

pub find-nowhere : (name : List ℕ) (shelves : List Shelf) → IsNowhere name shelves → find (map seen_store shelves) name ≡ nothing
find-nowhere name [] f = refl
find-nowhere name (s ∷ ss) f = rw f.0 (find-nowhere name ss f.1)

pub with_store-nowhere : (name : List ℕ) (kept : Kept) (shelves : List Shelf) → IsNowhere name shelves → map seen_store shelves ++ made name kept ∷ [] ≡ with_store name kept (map seen_store shelves)
with_store-nowhere name kept [] f = refl
with_store-nowhere name kept (s ∷ ss) f = rw f.0 (ap (λ rest. seen_store s ∷ rest) (with_store-nowhere name kept ss f.1))

-- ---- all in order

pub stores_in_order : (stores : List KeptStore) → are_stores stores ≡ true → are_in_order stores ≡ true
stores_in_order [] h = refl
stores_in_order (s ∷ ss) h =
    let late = and_true _ (is_in_order s.kept && are_stores ss) h in
    let both = and_true (is_in_order s.kept) (are_stores ss) late.1 in
    rw both.0 (stores_in_order ss both.1)

pub given_stores : (given : List KeptStore) → stores_of given [] ≡ given
given_stores [] = refl
given_stores (s ∷ given) = refl

pub find-in_order : (stores : List KeptStore) (name : List ℕ) → are_in_order stores ≡ true → is_in_order (find stores name) ≡ true
find-in_order [] name h = refl
find-in_order (s ∷ ss) name h =
    let both = and_true (is_in_order s.kept) (are_in_order ss) h in
    elim (bytes_eq s.name name) as (λ b. is_in_order (cond b s.kept (find ss name)) ≡ true) [ true ↦ both.0 | false ↦ find-in_order ss name both.1 ]

pub with_store-in_order : (name : List ℕ) (kept : Kept) (stores : List KeptStore) → are_in_order stores ≡ true → is_in_order kept ≡ true → are_in_order (with_store name kept stores) ≡ true
with_store-in_order name kept [] h k = rw k refl
with_store-in_order name kept (s ∷ ss) h k =
    let both = and_true (is_in_order s.kept) (are_in_order ss) h in
    elim (bytes_eq s.name name) as (λ b. are_in_order (cond b (made name kept ∷ ss) (s ∷ with_store name kept ss)) ≡ true) [
      | true ↦ rw k both.1
      | false ↦ rw both.0 (with_store-in_order name kept ss both.1 k)
    ]

pub committed-in_order : (name : List ℕ) (batch : KeptBatch) (stores : List KeptStore) → are_in_order stores ≡ true → are_in_order (with_store name (batched batch (find stores name)) stores) ≡ true
committed-in_order name batch stores h = with_store-in_order name _ stores h (batched-in_order batch (find stores name) (find-in_order stores name h))

-- ---- one changed, the others as they were

pub find-with_store : (name : List ℕ) (kept : Kept) (stores : List KeptStore) → find (with_store name kept stores) name ≡ kept
find-with_store name kept [] = rw ((bytes_eq-Decides name name).1 refl) refl
find-with_store name kept (s ∷ ss) = go (bytes_eq s.name name) refl (find-with_store name kept ss)
  where
    go : (b : Bool) → bytes_eq s.name name ≡ b → find (with_store name kept ss) name ≡ kept → find (cond b (made name kept ∷ ss) (s ∷ with_store name kept ss)) name ≡ kept
    go true h later = rw ((bytes_eq-Decides name name).1 refl) refl
    go false h later = rw h later

apart : (a b : List ℕ) → (a ≡ b → ⊥) → bytes_eq a b ≡ false
apart a b other = go (bytes_eq a b) refl
  where
    go : (t : Bool) → bytes_eq a b ≡ t → t ≡ false
    go true h = absurd (other ((bytes_eq-Decides a b).0 h))
    go false h = refl

pub find-other : (name : List ℕ) (kept : Kept) (other : List ℕ) (stores : List KeptStore) → (name ≡ other → ⊥) → find (with_store name kept stores) other ≡ find stores other
find-other name kept other [] ne = rw (apart name other ne) refl
find-other name kept other (s ∷ ss) ne = go (bytes_eq s.name name) refl (find-other name kept other ss ne)
  where
    go : (b : Bool) → bytes_eq s.name name ≡ b → find (with_store name kept ss) other ≡ find ss other
        → find (cond b (made name kept ∷ ss) (s ∷ with_store name kept ss)) other ≡ cond (bytes_eq s.name other) s.kept (find ss other)
    go true h later =
        let same : s.name ≡ name = (bytes_eq-Decides s.name name).0 h in
        let not_here : bytes_eq s.name other ≡ false = apart s.name other (λ e. ne (sym same ∙ e)) in
        rw (apart name other ne, not_here) refl
    go false h later = ap (cond (bytes_eq s.name other) s.kept) later

-- ---- what a search has found

past_end : {X : Type 0} (p : X → Bool) (xs : List X) → position p xs ≡ None → length xs ≤ position_or_len p xs
past_end {X} p xs h = grind (arith, common_steps)

nowhere_from : (name : List ℕ) (ss : List Shelf) → length ss ≤ position_or_len (λ (s : Shelf). bytes_eq s.name name) ss → IsNowhere name ss
nowhere_from name [] h = tt
nowhere_from name (s ∷ ss) h = go (bytes_eq s.name name) refl h (nowhere_from name ss)
  where
    go : (b : Bool) → bytes_eq s.name name ≡ b → length (s ∷ ss) ≤ cond (not b) (1 + position_or_len (λ (t : Shelf). bytes_eq t.name name) ss) 0
        → (length ss ≤ position_or_len (λ (t : Shelf). bytes_eq t.name name) ss → IsNowhere name ss) → (bytes_eq s.name name ≡ false) × IsNowhere name ss
    go true is late later = absurd (omega (arith, late))
    go false is late later = (is, later (omega (arith, late)))

pub nowhere : (name : List ℕ) (ss : List Shelf) → position (λ (s : Shelf). bytes_eq s.name name) ss ≡ None → IsNowhere name ss
nowhere name ss h = nowhere_from name ss (past_end (λ (s : Shelf). bytes_eq s.name name) ss h)

pub first : (name : List ℕ) (ss : List Shelf) (i : ℕ) (d : Shelf) → position (λ (s : Shelf). bytes_eq s.name name) ss ≡ Some i → IsFirst name ss i d
first name ss i d h = let f = position-Some (λ (s : Shelf). bytes_eq s.name name) ss i d h in record { within = f.0; here = f.1; before = f.2 }
