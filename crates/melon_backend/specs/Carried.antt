-- What an opening does of its plan, and what becomes of what is kept.
use Rattle.std.specs.Prelude.{◌≡◌, ◌⊎◌, ℕ, List, [], ◌∷◌, true, false, Option, Some, None, Result, Ok, Err}
use Rattle.melon_schema.specs.Seen.{SeenSchema}
use Rattle.melon_outside.specs.declared.kept.Kept.{Kept}
use Rattle.melon_outside.specs.declared.kept.KeptBatch.{KeptBatch}
use Rattle.melon_outside.specs.declared.kept.OpenFault.{OpenFault}
use Rattle.melon_outside.specs.declared.kept.OpenFault.TheVariants as opening
use Rattle.melon_outside.specs.SeenKeeper.{SeenKeeper, Answered}
use Rattle.melon_outside.specs.Asking.{HoldsAsBefore, IsOver, done_of}
use Rattle.melon_backend.specs.Backends.{SeenBackend, asked, open_plan}

-- The load failed, or it was done, what was loaded has no bad row and no other version, and the commit of what its plan
-- asks failed. The keeper holds what it held.
abbrev pub FailsOpening : SeenKeeper → SeenKeeper → List ℕ → SeenSchema → Type 0
FailsOpening before now name schema =
    HoldsAsBefore before now × Answered (false ∷ []) before now
    ⊎ ((kept : Kept) × (batch : KeptBatch) × (asked (open_plan name schema kept) ≡ Some batch) × IsOver before now name kept None × Answered (true ∷ false ∷ []) before now)

-- The rows are loaded once. The opened backend is as planned over what was loaded, and what the plan asks is committed once
-- and done. Every fault but the keeper's and want of memory is the plan's over what was loaded, and nothing is committed.
-- After each fault the keeper holds what it held.
abbrev pub Opens : SeenKeeper → SeenKeeper → List ℕ → SeenSchema → Result SeenBackend OpenFault → Type 0
Opens before now name schema (Ok backend) =
    (kept : Kept) × (open_plan name schema kept ≡ Ok (record { batch = asked (open_plan name schema kept); after = backend })) × IsOver before now name kept (asked (open_plan name schema kept))
    × Answered (true ∷ done_of (asked (open_plan name schema kept))) before now
Opens before now name schema (Err opening.KeeperFault) = FailsOpening before now name schema
Opens before now name schema (Err opening.Memory) = HoldsAsBefore before now × (Answered [] before now ⊎ Answered (true ∷ []) before now)
Opens before now name schema (Err fault) = (kept : Kept) × (open_plan name schema kept ≡ Err fault) × IsOver before now name kept None × Answered (true ∷ []) before now
