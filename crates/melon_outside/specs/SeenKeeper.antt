-- What is seen of a keeper, and what each call of it does to that.
use Rattle.std.specs.Prelude.{◌≡◌, ◌⊎◌, ℕ, suc, zero, ◌≤◌, Bool, true, false, not, nat_eq, List, [], ◌∷◌, ◌++◌, Result, Ok, Err, IfOk, OnOk, IsErrOf}
use Rattle.std.specs.List.{list_any}
use Rattle.melon_outside.specs.declared.kept.Kept.{Kept}
use Rattle.melon_outside.specs.declared.kept.KeptBatch.{KeptBatch}
use Rattle.melon_outside.specs.declared.keeper.KeeperError.{KeeperError}
use Rattle.melon_outside.specs.declared.keeper.KeeperError.TheVariants.{Memory, Failed}
use Rattle.melon_outside.specs.Causes.{Rose}
use Rattle.melon_outside.specs.Kept.{batched, is_in_order}
use Rattle.melon_outside.specs.Keeping.{Stores, AreSame, Changes, Committed}

-- An outcome is true of a call that was done, and false of one that failed. Calls are counted from 1. A call that wants
-- memory has no outcome and no number.
pub record SeenKeeper : Type 1 where
  -- it tells that it holds this
  pub holds : Stores → Type 0
  -- it tells that these are the outcomes of its calls so far, in their order
  pub answered : List Bool → Type 0
  -- it tells that the calls of these numbers are to fail, and no others
  pub plan : List ℕ → Type 0
  -- a stop may leave this
  pub may_leave : Stores → Type 0
  -- so far its disk gave back what was written
  pub honest : Type 0
  -- it never fails
  pub sound : Type 0
  -- how often it has failed
  pub faults : ℕ

-- the outcomes that a call adds
abbrev pub outcome_of : {T : Type 0} → Result T KeeperError → List Bool
outcome_of (Ok x) = true ∷ []
outcome_of (Err Failed) = false ∷ []
outcome_of (Err Memory) = []

-- the outcomes of so many calls, of which those of these numbers fail
abbrev pub planned_to : List ℕ → ℕ → List Bool
planned_to fails zero = []
planned_to fails (suc n) = planned_to fails n ++ not (list_any (λ m. nat_eq m (suc n)) fails) ∷ []

-- what it tells of its calls it told before, and then exactly these outcomes
abbrev pub Answered : List Bool → SeenKeeper → SeenKeeper → Type 0
Answered used before now = (all : List Bool) → now.answered all → (was : List Bool) × before.answered was × (all ≡ was ++ used)

-- The count never falls. A sound keeper stays so, and its count stands. A plan stays.
pub record Later (before now : SeenKeeper) : Type 0 where
  pub count : before.faults ≤ now.faults
  pub sound : before.sound → now.sound
  pub same : before.sound → now.faults ≡ before.faults
  pub plan : (fails : List ℕ) → before.plan fails → now.plan fails

-- a load gives what is kept of a store, and leaves all that is held
pub record Loads (store : List ℕ) (result : Result Kept KeeperError) (before now : SeenKeeper) : Type 0 where
  pub kept : (m : Stores) → now.holds m → before.holds m
  pub found : (m : Stores) → now.holds m → IfOk result (λ kept. kept ≡ m store)
  pub ordered : IfOk result (λ kept. is_in_order kept ≡ true)
  pub leaves : (was : Stores) → before.holds was → (left : Stores) → now.may_leave left → AreSame left was
  pub goes_on : OnOk result (now.honest → (was : Stores) → before.holds was → now.holds was)
  pub answered : Answered (outcome_of result) before now
  pub later : Later before now
  pub cause : IsErrOf result Failed → Rose before.faults now.faults
  pub never : before.sound → IsErrOf result Failed → ⊥

-- a commit does all of the batch or, after an Err, nothing, and leaves the other stores
pub record Commits (batch : KeptBatch) (store : List ℕ) (result : Result (Unit {0}) KeeperError) (before now : SeenKeeper) : Type 0 where
  pub done : (m : Stores) → now.holds m → (was : Stores) × before.holds was × Committed (batched batch) store result was m
  pub leaves : (was : Stores) → before.holds was → (left : Stores) → now.may_leave left → AreSame left was ⊎ Changes (batched batch) store was left
  pub was_honest : now.honest → before.honest
  pub answered : Answered (outcome_of result) before now
  pub later : Later before now
  pub cause : IsErrOf result Failed → Rose before.faults now.faults
  pub never : before.sound → IsErrOf result Failed → ⊥
