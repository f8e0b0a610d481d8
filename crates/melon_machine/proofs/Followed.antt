-- Calls that are followed with their outcomes.
use Rattle.std.proofs.Common.{◌≡◌, ℕ, ◌+◌, ◌≤◌, List, [], ◌∷◌, ◌++◌, Bool, true, false, bytes_eq, refl, ap, sym, ◌∙◌, arith}
use Rattle.std.specs.Prelude.{Option, Some, None, if◌then◌else◌}
use Rattle.std.proofs.lemmas.Slice.Eq.{bytes_eq-Decides}
use Rattle.melon_outside.specs.Kept.{batched}
use Rattle.melon_outside.specs.Keeping.{Stores, AreSame, Changes}
use Rattle.melon_outside.specs.SeenKeeper.{SeenKeeper}
use Rattle.melon_outside.specs.declared.kept.KeptBatch.{KeptBatch}
use Rattle.melon_outside.proofs.SeenKeepers.{answered_none}
use Rattle.melon_machine.specs.Calls.{Calls, Done, Load, Commit, asks, with_end, failures, RoseBy, after_batch, follow, Begins, Follows, Meets}

-- ---- what is kept

pub same_is : (a b : Stores) → AreSame a b → a ≡ b
same_is a b h = λ i store. h store i

-- a store that was changed by a batch
pub changes_same : (name : List ℕ) (batch : KeptBatch) (was now : Stores) → Changes (batched batch) name was now → AreSame now (after_batch name batch was)
changes_same name batch was now h store = by_case (bytes_eq name store) refl
  where
    by_case : (b : Bool) → bytes_eq name store ≡ b → now store ≡ (if bytes_eq name store then batched batch (was store) else was store)
    by_case true e =
        let is : name ≡ store = (bytes_eq-Decides name store).0 e in
        ap now (sym is) ∙ h.0 ∙ ap (λ n. batched batch (was n)) is ∙ sym (ap (λ (b : Bool). if b then batched batch (was store) else was store) e)
    by_case false e =
        h.1 store (λ is. absurd (apart (sym e ∙ (bytes_eq-Decides name store).1 is)))
        ∙ sym (ap (λ (b : Bool). if b then batched batch (was store) else was store) e)
      where
        apart : false ≡ true → ⊥
        apart e = grind (arith, e)

-- ---- following

-- with the outcomes that it takes and others behind them, the others are left
pub follow_exact : {X : Type 0} (calls : Calls X) (was : Stores) (used : List Bool) (x : X) (now : Stores) (later : List Bool) → Follows calls was used x now
    → follow calls was (used ++ later) ≡ record { value = x; kept = now; left = later }
follow_exact (Done x) was used y now later h = λ i. record { value = h.1 i; kept = sym (same_is now was h.2) i; left = ap (λ (u : List Bool). u ++ later) h.0 i }
follow_exact (Load name does) was [] y now later h = absurd h
follow_exact (Load name does) was (true ∷ used) y now later h = follow_exact (does (Some (was name))) was used y now later h.1
follow_exact (Load name does) was (false ∷ used) y now later h = follow_exact (does None) was used y now later h
follow_exact (Commit name batch does) was [] y now later h = absurd h
follow_exact (Commit name batch does) was (true ∷ used) y now later h = follow_exact (does true) (after_batch name batch was) used y now later h
follow_exact (Commit name batch does) was (false ∷ used) y now later h = follow_exact (does false) was used y now later h

-- calls with another value at their end come to it by the same outcomes
pub follows_end : {X Y : Type 0} (f : X → Y) (calls : Calls X) (was : Stores) (used : List Bool) (y : Y) (now : Stores) → Follows (with_end f calls) was used y now
    → (x : X) × (f x ≡ y) × Follows calls was used x now
follows_end f (Done x) was used y now h = (x, h.1, (h.0, refl, h.2))
follows_end f (Load name does) was [] y now h = absurd h
follows_end f (Load name does) was (true ∷ used) y now h = (let end = follows_end f (does (Some (was name))) was used y now h.1 in (end.0, end.1, (h.0, end.2)))
follows_end f (Load name does) was (false ∷ used) y now h = follows_end f (does None) was used y now h
follows_end f (Commit name batch does) was [] y now h = absurd h
follows_end f (Commit name batch does) was (true ∷ used) y now h = follows_end f (does true) (after_batch name batch was) used y now h
follows_end f (Commit name batch does) was (false ∷ used) y now h = follows_end f (does false) was used y now h

pub asks_end : {X Y : Type 0} (f : X → Y) (name : List ℕ) (batch : Option KeptBatch) (done failed : X) → asks name batch (f done) (f failed) ≡ with_end f (asks name batch done failed)
asks_end f name None done failed = refl
asks_end {X} {Y} f name (Some batch) done failed = λ i. Commit name batch (λ ok. Done (chosen ok i))
  where
    chosen : (ok : Bool) → (if ok then f done else f failed) ≡ f (if ok then done else failed)
    chosen true = refl
    chosen false = refl

-- ---- failures

pub failures_append : (xs ys : List Bool) → failures (xs ++ ys) ≡ failures xs + failures ys
failures_append [] ys = omega arith
failures_append (true ∷ xs) ys = omega (arith, failures_append xs ys)
failures_append (false ∷ xs) ys = omega (arith, failures_append xs ys)

pub rose_more : (xs ys : List Bool) (before between now : ℕ) → RoseBy (failures xs) before between → RoseBy (failures ys) between now → RoseBy (failures (xs ++ ys)) before now
rose_more xs ys before between now p q = omega (arith, p, q, failures_append xs ys)

pub rose_none : (before now : ℕ) → before ≤ now → RoseBy 0 before now
rose_none before now h = omega (arith, h)

-- ---- calls that were begun

-- nothing is begun but what is asked
pub begins_end : {X Y : Type 0} (f : X → Y) (used : List Bool) (calls : Calls X) (was : Stores) → Begins used (with_end f calls) was → Begins used calls was
begins_end f [] calls was h = tt
begins_end f (o ∷ used) (Done x) was h = absurd h
begins_end f (true ∷ used) (Load name does) was h = begins_end f used (does (Some (was name))) was h
begins_end f (false ∷ used) (Load name does) was h = begins_end f used (does None) was h
begins_end f (true ∷ used) (Commit name batch does) was h = absurd h
begins_end f (false ∷ used) (Commit name batch does) was h = begins_end f used (does false) was h

pub begins_with : {X Y : Type 0} (f : X → Y) (used : List Bool) (calls : Calls X) (was : Stores) → Begins used calls was → Begins used (with_end f calls) was
begins_with f [] calls was h = tt
begins_with f (o ∷ used) (Done x) was h = absurd h
begins_with f (true ∷ used) (Load name does) was h = begins_with f used (does (Some (was name))) was h
begins_with f (false ∷ used) (Load name does) was h = begins_with f used (does None) was h
begins_with f (true ∷ used) (Commit name batch does) was h = absurd h
begins_with f (false ∷ used) (Commit name batch does) was h = begins_with f used (does false) was h

-- ---- a keeper that meets what it was asked

-- it wasn't asked
pub meets_done : {X : Type 0} (x : X) (k : SeenKeeper) → Meets (Done x) k k x
meets_done x k m held = (m, held, [], (refl, refl, λ store. refl), omega arith, answered_none k)
