-- What a step asks of the keeper, and what it does with each answer.
use Rattle.std.specs.Prelude.{◌≡◌, ℕ, ◌+◌, ◌-◌, ◌^◌, ◌≤◌, min, List, [], ◌∷◌, Bool, true, false, Option, Some, None, bytes_eq, if◌then◌else◌}
use Rattle.melon_outside.specs.Kept.{batched, is_in_order}
use Rattle.melon_outside.specs.Keeping.{Stores, AreSame}
use Rattle.melon_outside.specs.SeenKeeper.{SeenKeeper, Answered}
use Rattle.melon_outside.specs.declared.kept.Kept.{Kept}
use Rattle.melon_outside.specs.declared.kept.KeptBatch.{KeptBatch}

-- Nothing is asked; or a store is loaded, which gives what is kept of it or fails; or a batch is committed, which is done or fails.
pub data Calls (X : Type 0) : Type 0 where
  Done : X → Calls X
  Load : List ℕ → (Option Kept → Calls X) → Calls X
  Commit : List ℕ → KeptBatch → (Bool → Calls X) → Calls X

-- a batch is committed where there is one
abbrev pub asks : {X : Type 0} → List ℕ → Option KeptBatch → X → X → Calls X
asks name None done failed = Done done
asks name (Some batch) done failed = Commit name batch (λ ok. Done (if ok then done else failed))

-- the same calls, with another value at their end
abbrev pub with_end : {X Y : Type 0} → (X → Y) → Calls X → Calls Y
with_end f (Done x) = Done (f x)
with_end f (Load name does) = Load name (λ kept. with_end f (does kept))
with_end f (Commit name batch does) = Commit name batch (λ ok. with_end f (does ok))

-- ---- outcomes: each call is done or fails

-- the next outcome; where none is left, the call fails
abbrev pub next : List Bool → Bool
next [] = false
next (o ∷ os) = o

abbrev pub after_next : List Bool → List Bool
after_next [] = []
after_next (o ∷ os) = os

abbrev pub failures : List Bool → ℕ
failures [] = 0
failures (o ∷ os) = (if o then 0 else 1) + failures os

-- a count rose at least so often, or stands at its type's end
abbrev pub RoseBy : ℕ → ℕ → ℕ → Type 0
RoseBy times before now = min (before + times) (2 ^ 64 - 1) ≤ now

-- ---- what the calls lead to

-- what is kept once a batch is done
abbrev pub after_batch : List ℕ → KeptBatch → Stores → Stores
after_batch name batch kept other = if bytes_eq name other then batched batch (kept other) else kept other

-- the value at the end, what is kept then, and the outcomes that are left
pub record Followed (X : Type 0) : Type 0 where
  pub value : X
  pub kept : Stores
  pub left : List Bool

-- the calls made one after another over what is kept, with these outcomes
abbrev pub follow : {X : Type 0} → Calls X → Stores → List Bool → Followed X
follow (Done x) kept outcomes = record { value = x; kept = kept; left = outcomes }
follow (Load name does) kept outcomes =
    if next outcomes then follow (does (Some (kept name))) kept (after_next outcomes) else follow (does None) kept (after_next outcomes)
follow (Commit name batch does) kept outcomes =
    if next outcomes then follow (does true) (after_batch name batch kept) (after_next outcomes) else follow (does false) kept (after_next outcomes)

-- With exactly these outcomes the calls end with the value and leave that kept. What is loaded is in order.
abbrev pub Follows : {X : Type 0} → Calls X → Stores → List Bool → X → Stores → Type 0
Follows (Done x) was used y now = (used ≡ []) × (x ≡ y) × AreSame now was
Follows (Load name does) was [] y now = ⊥
Follows (Load name does) was (true ∷ used) y now = (is_in_order (was name) ≡ true) × Follows (does (Some (was name))) was used y now
Follows (Load name does) was (false ∷ used) y now = Follows (does None) was used y now
Follows (Commit name batch does) was [] y now = ⊥
Follows (Commit name batch does) was (true ∷ used) y now = Follows (does true) (after_batch name batch was) used y now
Follows (Commit name batch does) was (false ∷ used) y now = Follows (does false) was used y now

-- These are the outcomes of the first calls, and no batch of theirs was done.
abbrev pub Begins : {X : Type 0} → List Bool → Calls X → Stores → Type 0
Begins [] calls was = Unit {0}
Begins (o ∷ used) (Done x) was = ⊥
Begins (true ∷ used) (Load name does) was = Begins used (does (Some (was name))) was
Begins (false ∷ used) (Load name does) was = Begins used (does None) was
Begins (true ∷ used) (Commit name batch does) was = ⊥
Begins (false ∷ used) (Commit name batch does) was = Begins used (does false) was

-- ---- a keeper that is asked

-- It holds what the calls leave of what it held. Its count rose with each that failed, and their outcomes are what it answered.
abbrev pub Meets : {X : Type 0} → Calls X → SeenKeeper → SeenKeeper → X → Type 0
Meets calls before now x = (m : Stores) → now.holds m → (was : Stores) × before.holds was × (used : List Bool) × Follows calls was used x m × RoseBy (failures used) before.faults now.faults × Answered used before now

-- It was asked for the first of the calls alone, and holds what it held.
abbrev pub Interrupts : {X : Type 0} → Calls X → SeenKeeper → SeenKeeper → Type 0
Interrupts calls before now =
    (m : Stores) → now.holds m → (was : Stores) × before.holds was × AreSame m was × (used : List Bool) × Begins used calls was × RoseBy (failures used) before.faults now.faults × Answered used before now
