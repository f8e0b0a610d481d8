-- What a keeper holds under the names of stores, and what a commit makes of it.
use Rattle.std.specs.Prelude.{◌≡◌, ◌⊎◌, ℕ, Bool, true, not, ◌&&◌, if◌then◌else◌, List, [], ◌∷◌, bytes_eq, Option, Some, None, Result, Ok, Err}
use Rattle.std.specs.List.{list_all}
use Rattle.melon_outside.specs.declared.kept.Kept.{Kept}
use Rattle.melon_outside.specs.declared.kept.KeptBatch.{KeptBatch}
use Rattle.melon_outside.specs.declared.kept.KeptStore.{KeptStore}
use Rattle.melon_outside.specs.declared.kept.OpenFault.{OpenFault}
use Rattle.melon_outside.specs.declared.kept.OpenFault.TheVariants as opening
use Rattle.melon_outside.specs.declared.keeper.KeeperError.{KeeperError}
use Rattle.melon_outside.specs.declared.keeper.KeeperError.TheVariants.{Memory, Failed}
use Rattle.melon_outside.specs.Causes.{next_count}
use Rattle.melon_outside.specs.Kept.{batched, nothing, is_in_order}
use Rattle.melon_outside.specs.Memory.{fails_next, faults_after}

-- what is kept under each name
abbrev pub Stores : Type 0
Stores = List ℕ → Kept

abbrev pub AreSame : Stores → Stores → Type 0
AreSame a b = (store : List ℕ) → a store ≡ b store

-- what is kept of one store is changed, and the others are as they were
abbrev pub Changes : (Kept → Kept) → List ℕ → Stores → Stores → Type 0
Changes f store was now = (now store ≡ f (was store)) × ((other : List ℕ) → (store ≡ other → ⊥) → now other ≡ was other)

-- all of the change, or nothing
abbrev pub Committed : {T E : Type 0} → (Kept → Kept) → List ℕ → Result T E → Stores → Stores → Type 0
Committed f store (Ok _) was now = Changes f store was now
Committed f store (Err _) was now = AreSame now was

-- what a stop may leave: what was held, or that with the whole batch, where one was asked
abbrev pub IsLeft : Option KeptBatch → List ℕ → Stores → Stores → Type 0
IsLeft None store was left = AreSame left was
IsLeft (Some batch) store was left = AreSame left was ⊎ Changes (batched batch) store was left

-- a stop as a call ends leaves what was held before it, or that with the whole batch that was asked
abbrev pub Leaves : Option KeptBatch → List ℕ → (Stores → Type 0) → (Stores → Type 0) → Type 0
Leaves asked store held may_leave = (was : Stores) → held was → (left : Stores) → may_leave left → IsLeft asked store was left

-- a keeper's error, as an opening tells it
abbrev pub open_fault_of : KeeperError → OpenFault
open_fault_of Memory = opening.Memory
open_fault_of Failed = opening.KeeperFault

-- ---- in memory: a list of stores

abbrev pub made : List ℕ → Kept → KeptStore
made name kept = record { name = name; kept = kept }

-- what is kept under a name; of a store that isn't listed nothing is
abbrev pub find : List KeptStore → Stores
find [] name = nothing
find (s ∷ more) name = if bytes_eq s.name name then s.kept else find more name

abbrev pub with_store : List ℕ → Kept → List KeptStore → List KeptStore
with_store name kept [] = made name kept ∷ []
with_store name kept (s ∷ more) = if bytes_eq s.name name then made name kept ∷ more else s ∷ with_store name kept more

-- no name twice, and each store in order
abbrev pub are_stores : List KeptStore → Bool
are_stores [] = true
are_stores (s ∷ more) = list_all (λ t. not (bytes_eq s.name t.name)) more && (is_in_order s.kept && are_stores more)

abbrev pub are_in_order : List KeptStore → Bool
are_in_order stores = list_all (λ (s : KeptStore). is_in_order s.kept) stores

-- a keeper in memory: its stores, which calls fail, and what was told so far
pub record Shelves : Type 0 where
  pub stores : List KeptStore
  pub fails : List ℕ
  pub calls : ℕ
  pub faults : ℕ

abbrev pub call_fails : Shelves → Bool
call_fails shelves = fails_next shelves.fails shelves.calls

-- after a call that leaves the stores so
abbrev pub after_call : Shelves → List KeptStore → Shelves
after_call shelves stores = record {
  stores = stores;
  fails = shelves.fails;
  calls = next_count shelves.calls;
  faults = faults_after (call_fails shelves) shelves.faults;
}
