-- Over a keeper in memory the outcomes are fixed by its list of failing calls.
use Rattle.std.specs.Prelude.{◌≡◌, ◌<◌, ◌+◌, ◌-◌, ◌^◌, ℕ, List, [], ◌++◌, length, Bool}
use Rattle.melon_outside.specs.Keeping.{Shelves}
use Rattle.melon_outside.specs.SeenMemory.{seen_memory}
use Rattle.melon_outside.specs.SeenKeeper.{Answered, Later, planned_to}
use Rattle.melon_machine.specs.Calls.{failures}

-- The outcomes of a run are those of the calls of its numbers: behind those of the calls before it they are the outcomes that the
-- list plans.
abbrev pub FixesOutcomes : Type 0
FixesOutcomes = (old new : Shelves) (outcomes : List Bool) → Answered outcomes (seen_memory old) (seen_memory new) → Later (seen_memory old) (seen_memory new) → new.calls < 2 ^ 64 - 1
    → planned_to old.fails old.calls ++ outcomes ≡ planned_to old.fails (old.calls + length outcomes)

-- where the list is empty, none of them failed
abbrev pub NoneFails : Type 0
NoneFails = (old new : Shelves) (outcomes : List Bool) → Answered outcomes (seen_memory old) (seen_memory new) → Later (seen_memory old) (seen_memory new) → new.calls < 2 ^ 64 - 1 → old.fails ≡ [] → failures outcomes ≡ 0
