-- What statements do inside a transaction, and what the whole of one does.
use Rattle.std.specs.Prelude.{◌≡◌, ◌⊎◌, ℕ, ◌<◌, ◌^◌, false, drop, List, Result, Ok, Err, IsTrue}
use Rattle.std.specs.List.{AllByRecursion}
use Rattle.sqlite_trees.specs.Tree.{Trees}
use Rattle.sqlite.specs.State.{State, HasCleanDisk, Survives}
use Rattle.melon_outside.specs.declared.kept.Kept.{Kept}
use Rattle.melon_outside.specs.declared.kept.KeptValue.{KeptValue}
use Rattle.melon_outside.specs.Keeping.{Changes}
use Rattle.melon_sqlite.specs.Contents.{IsKept, stores_in}
use Rattle.melon_sqlite.specs.Statements.{StaysShut, Undone}

-- the numbers that a column of integers can hold
abbrev pub AreNumbers : List KeptValue → Type 0
AreNumbers = AllByRecursion (λ v. v.number < 2 ^ 63)

-- a transaction is open over the two tables
pub record Ready (s : State) : Type 0 where
  pub kept : IsKept s.now
  pub base : IsKept s.committed
  pub is_open : IsTrue s.is_open
  pub inside : IsTrue s.in_transaction

pub record Inside (f : Kept → Kept) (store : List ℕ) (old new : State) : Type 0 where
  pub ready : Ready new
  pub was_open : IsTrue old.is_open
  pub changes : Changes f store (stores_in old.now.trees) (stores_in new.now.trees)
  pub committed : new.committed ≡ old.committed

-- nothing was committed, and where the transaction has ended it was undone
pub record Fell (old new : State) : Type 0 where
  pub was_open : IsTrue new.is_open → IsTrue old.is_open
  pub committed : IsTrue new.is_open → new.committed ≡ old.committed
  pub undone : new.in_transaction ≡ false → IsTrue new.is_open → new.now ≡ old.committed
  pub kept : IsTrue new.in_transaction → IsKept new.now

abbrev pub MovesAs : {T E : Type 0} → (Kept → Kept) → List ℕ → State → State → Result T E → Type 0
MovesAs f store old new (Ok _) = Ready old → Inside f store old new
MovesAs f store old new (Err _) = Ready old → Fell old new

abbrev pub Moves : {T E : Type 0} → (Kept → Kept) → List ℕ → State → State → Result T E → Type 0
Moves f store old new r = StaysShut old new × MovesAs f store old new r

-- a call in an open transaction commits nothing
abbrev pub NoCommit : State → Trees → Type 0
NoCommit s db = Ready s → ⊥

-- the first items are done, and what the others do to that is what all of them do
abbrev pub Looping : {A : Type 0} → (List A → Kept → Kept) → List ℕ → List A → ℕ → State → State → Type 0
Looping apply store xs i old now =
    Survives old now (NoCommit old) × (HasCleanDisk now → StaysShut old now) × (HasCleanDisk now → Ready old → (f : Kept → Kept) × Inside f store old now × ((k : Kept) → apply (drop i xs) (f k) ≡ apply xs k))

-- ---- the whole transaction

-- the two tables are there, and all that was written is committed
pub record Idle (s : State) : Type 0 where
  pub kept : IsKept s.now
  pub is_open : IsTrue s.is_open
  pub outside : s.in_transaction ≡ false
  pub settled : s.committed ≡ s.now

abbrev pub BeginsAs : {T E : Type 0} → State → State → Result T E → Type 0
BeginsAs old new (Ok _) = Idle old → Ready new × (new.now ≡ old.now) × (new.committed ≡ old.now)
BeginsAs old new (Err _) = Undone old new

abbrev pub Begins : {T E : Type 0} → State → State → Result T E → Type 0
Begins old new r = StaysShut old new × BeginsAs old new r

abbrev pub FinishesAs : {T E : Type 0} → (Kept → Kept) → List ℕ → State → State → Result T E → Type 0
FinishesAs f store old new (Ok _) = Ready old → Idle new × Changes f store (stores_in old.now.trees) (stores_in new.now.trees)
FinishesAs f store old new (Err _) = Ready old → Fell old new

abbrev pub Finishes : {T E : Type 0} → (Kept → Kept) → List ℕ → State → State → Result T E → Type 0
Finishes f store old new r = StaysShut old new × FinishesAs f store old new r

-- where a transaction is open still, it is over the two tables
abbrev pub IsOverKept : State → Type 0
IsOverKept s = IsTrue s.in_transaction → IsKept s.now

-- no transaction is open any more, and what it wrote is undone
pub record Abandons (old new : State) : Type 0 where
  pub was_open : StaysShut old new
  pub ended : new.in_transaction ≡ false
  pub committed : IsTrue new.is_open → new.committed ≡ old.committed
  pub undone : IsTrue new.is_open → ((old.in_transaction ≡ false) × (new.now ≡ old.now)) ⊎ (new.now ≡ old.committed)

-- all of it or nothing
abbrev pub CommitsAs : {T E : Type 0} → (Kept → Kept) → List ℕ → State → State → Result T E → Type 0
CommitsAs f store old new (Ok _) = Idle old → Idle new × Changes f store (stores_in old.now.trees) (stores_in new.now.trees)
CommitsAs f store old new (Err _) = Idle old → IsTrue new.is_open → Idle new × (new.now ≡ old.now)

abbrev pub Commits : {T E : Type 0} → (Kept → Kept) → List ℕ → State → State → Result T E → Type 0
Commits f store old new r = StaysShut old new × CommitsAs f store old new r

-- a crash may leave the whole change
abbrev pub Whole : (Kept → Kept) → List ℕ → (State → Type 0) → State → Trees → Type 0
Whole f store Was old db = Was old → Changes f store (stores_in old.now.trees) (stores_in db)
