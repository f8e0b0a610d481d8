-- What a call does of its plan, and what becomes of what is kept.
use Rattle.std.specs.Prelude.{◌≡◌, ◌⊎◌, ℕ, List, [], ◌∷◌, length, true, false, Option, Some, None, Result, Ok, Err}
use Rattle.melon_schema.specs.Seen.{SeenSchema}
use Rattle.melon_outside.specs.declared.kept.Kept.{Kept}
use Rattle.melon_outside.specs.declared.kept.KeptBatch.{KeptBatch}
use Rattle.melon_outside.specs.declared.kept.OpenFault.{OpenFault}
use Rattle.melon_outside.specs.declared.kept.OpenFault.TheVariants as opening
use Rattle.melon_outside.specs.Keeping.{Stores, IsLeft}
use Rattle.melon_outside.specs.SeenKeeper.{SeenKeeper, Answered}
use Rattle.melon_outside.specs.Asking.{HoldsAsBefore, IsOver, done_of}
use Rattle.melon_board.specs.declared.fault.WriteFault.{WriteFault}
use Rattle.melon_board.specs.declared.fault.WriteFault.TheVariants.{Batch, StoreFull, SessionFull, KeeperFault, Memory}
use Rattle.melon_board.specs.Stores.{SeenStore, store_key}
use Rattle.melon_board.specs.Plans.{Plan, asked}
use Rattle.melon_board.specs.Opening.{open_plan}
use Rattle.melon_board.specs.Keeps.{Keeps}

-- What the keeper tells that it holds under the store's name is what the store has.
abbrev pub HoldsStore : SeenKeeper → SeenStore → Type 0
HoldsStore seen store = (m : Stores) → seen.holds m → Keeps store (m (store_key store.name))

-- ---- a write

-- the plan is to commit, and nothing refuses it
abbrev pub IsAsked : Result Plan WriteFault → Type 0
IsAsked plan = (batch : KeptBatch) × (asked plan ≡ Some batch)

-- a refusal before the keeper is asked: the plan's own, or want of memory
abbrev pub Refuses : Result Plan WriteFault → WriteFault → Type 0
Refuses plan KeeperFault = ⊥
Refuses plan Memory = Unit {0}
Refuses plan fault = plan ≡ Err fault

-- a fault of the keeper, or want of memory
abbrev pub IsOfKeeper : WriteFault → Type 0
IsOfKeeper KeeperFault = Unit {0}
IsOfKeeper Memory = Unit {0}
IsOfKeeper fault = ⊥

-- The answer is the journal's length, and the store is as planned. A keeper's fault hides no refusal. Every other fault
-- but want of memory is the plan's. After each fault the store is as it was.
abbrev pub IsWritten : Result Plan WriteFault → SeenStore → SeenStore → Result ℕ WriteFault → Type 0
IsWritten plan was now (Ok at) = (plan ≡ Ok (record { batch = asked plan; after = now })) × (at ≡ length now.entries)
IsWritten plan was now (Err KeeperFault) = IsAsked plan × (now ≡ was)
IsWritten plan was now (Err Memory) = now ≡ was
IsWritten plan was now (Err fault) = (plan ≡ Err fault) × (now ≡ was)

-- ---- an opening

-- A stop leaves what was held, or that with all the values that an opening over it keeps.
abbrev pub LeavesOpened : SeenKeeper → SeenKeeper → List ℕ → SeenSchema → Type 0
LeavesOpened before now name schema = (was : Stores) → before.holds was → (left : Stores) → now.may_leave left
    → IsLeft (asked (open_plan name schema (was (store_key name)))) (store_key name) was left

-- The load failed, or it was done, what was loaded has no bad row and no other version, and the commit of what its plan
-- asks failed. The keeper holds what it held.
abbrev pub FailsOpening : SeenKeeper → SeenKeeper → List ℕ → SeenSchema → Type 0
FailsOpening before now name schema =
    HoldsAsBefore before now × Answered (false ∷ []) before now
    ⊎ ((kept : Kept) × (batch : KeptBatch) × (asked (open_plan name schema kept) ≡ Some batch) × IsOver before now (store_key name) kept None × Answered (true ∷ false ∷ []) before now)

-- The store is loaded once. The opened store is as planned over what was loaded, and what the plan asks is committed once
-- and done. Every fault but the keeper's and want of memory is the plan's over what was loaded, and nothing is committed.
-- After each fault the keeper holds what it held.
abbrev pub Opens : SeenKeeper → SeenKeeper → List ℕ → SeenSchema → Result SeenStore OpenFault → Type 0
Opens before now name schema (Ok store) =
    (kept : Kept) × (open_plan name schema kept ≡ Ok (record { batch = asked (open_plan name schema kept); after = store })) × IsOver before now (store_key name) kept (asked (open_plan name schema kept))
    × Answered (true ∷ done_of (asked (open_plan name schema kept))) before now
Opens before now name schema (Err opening.KeeperFault) = FailsOpening before now name schema
Opens before now name schema (Err opening.Memory) = HoldsAsBefore before now × (Answered [] before now ⊎ Answered (true ∷ []) before now)
Opens before now name schema (Err fault) = (kept : Kept) × (open_plan name schema kept ≡ Err fault) × IsOver before now (store_key name) kept None × Answered (true ∷ []) before now
