-- Calls that ask a keeper at most once: what they ask, and what became of it.
use Rattle.std.specs.Prelude.{◌≡◌, true, false, Bool, ℕ, List, [], ◌∷◌, Option, Some, None, Result, Ok, Err, OnOk, IfErr, IsErrOf}
use Rattle.melon_outside.specs.declared.kept.Kept.{Kept}
use Rattle.melon_outside.specs.declared.kept.KeptBatch.{KeptBatch}
use Rattle.melon_outside.specs.Causes.{Rose}
use Rattle.melon_outside.specs.Kept.{batched, is_in_order}
use Rattle.melon_outside.specs.Keeping.{Stores, AreSame, Changes, Leaves}
use Rattle.melon_outside.specs.SeenKeeper.{SeenKeeper, Answered, Later}

-- what the keeper holds now it held before
abbrev pub HoldsAsBefore : SeenKeeper → SeenKeeper → Type 0
HoldsAsBefore before now = (m : Stores) → now.holds m → (was : Stores) × before.holds was × AreSame m was

-- the batch was done, where there is one
abbrev pub IsDone : Option KeptBatch → List ℕ → Stores → Stores → Type 0
IsDone None store was now = AreSame now was
IsDone (Some batch) store was now = Changes (batched batch) store was now

-- with Ok what was asked is done, and after an Err what is kept is as it was
abbrev pub IsDoneOnOk : {T E : Type 0} → Option KeptBatch → List ℕ → Result T E → Stores → Stores → Type 0
IsDoneOnOk batch store (Ok x) was now = IsDone batch store was now
IsDoneOnOk batch store (Err e) was now = AreSame now was

-- A store was loaded as kept. Where the keeper tells what it holds now, it held that before, but for what was asked, which is done.
pub record IsOver (before now : SeenKeeper) (store : List ℕ) (kept : Kept) (batch : Option KeptBatch) : Type 0 where
  pub ordered : is_in_order kept ≡ true
  pub told : (m : Stores) → now.holds m → (was : Stores) × before.holds was × (kept ≡ was store) × IsDone batch store was m

-- the outcomes of what was asked, all of it done
abbrev pub done_of : Option KeptBatch → List Bool
done_of None = []
done_of (Some batch) = true ∷ []

-- The keeper is asked to commit the batch, where there is one, once, and nothing else. With this fault its call failed.
-- Before another the keeper was asked nothing, or it wanted memory.
pub record Asks {T E : Type 0} (asked : Option KeptBatch) (store : List ℕ) (fault : E) (result : Result T E) (before now : SeenKeeper) : Type 0 where
  pub later : Later before now
  pub kept : (m : Stores) → now.holds m → (was : Stores) × before.holds was × IsDoneOnOk asked store result was m
  pub stops : Leaves asked store before.holds now.may_leave
  pub done : OnOk result (Answered (done_of asked) before now)
  pub failed : IsErrOf result fault → ((batch : KeptBatch) × (asked ≡ Some batch)) × Answered (false ∷ []) before now
  pub other : IfErr result (λ e. (e ≡ fault → ⊥) → Answered [] before now)
  pub cause : IsErrOf result fault → Rose before.faults now.faults
  pub never : before.sound → IsErrOf result fault → ⊥
