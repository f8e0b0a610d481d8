-- What a statement does to what is kept.
use Rattle.std.specs.Prelude.{◌⊎◌, ℕ, if◌then◌else◌, List, Result, Ok, Err, IsTrue}
use Rattle.sqlite_value.specs.Order.{Row, column, bytes}
use Rattle.sqlite.specs.State.{State, Shows, IsUnchanged, IsRolledBack}
use Rattle.sqlite.specs.declared.error.Error.{Error}
use Rattle.melon_outside.specs.declared.kept.Kept.{Kept}
use Rattle.melon_outside.specs.declared.kept.KeptRow.{KeptRow}
use Rattle.melon_outside.specs.declared.kept.KeptValue.{KeptValue}
use Rattle.melon_outside.specs.Keeping.{Changes}
use Rattle.melon_sqlite.specs.Contents.{IsKept, stores_in, natural}

-- what is kept of one store is changed and of every other stays, which outside a transaction is committed
pub record Did (f : Kept → Kept) (store : List ℕ) (old new : State) : Type 0 where
  pub kept : IsKept new.now
  pub changes : Changes f store (stores_in old.now.trees) (stores_in new.now.trees)
  pub shown : Shows old new new.now (if old.in_transaction then old.committed else new.now) old.in_transaction

abbrev pub Undone : State → State → Type 0
Undone old new = IsUnchanged old new ⊎ IsRolledBack old new

-- what was shut stays so
abbrev pub StaysShut : State → State → Type 0
StaysShut old new = IsTrue new.is_open → IsTrue old.is_open

-- where the two tables are there the change is made; after an error nothing is, or the transaction is undone
abbrev pub DoesAs : {T : Type 0} → (Kept → Kept) → List ℕ → State → State → Result T Error → Type 0
DoesAs f store old new (Ok _) = IsKept old.now → Did f store old new
DoesAs f store old new (Err _) = Undone old new

abbrev pub Does : {T : Type 0} → (Kept → Kept) → List ℕ → State → State → Result T Error → Type 0
Does f store old new r = StaysShut old new × DoesAs f store old new r

-- a row as the statement that reads it shows it
abbrev pub row_shown : Row → KeptRow
row_shown row = record { table = bytes (column row 0); id = bytes (column row 1); body = bytes (column row 2) }

abbrev pub value_shown : Row → KeptValue
value_shown row = record { name = bytes (column row 0); number = natural (column row 1) }

-- a statement that shows rows changes nothing
abbrev pub ReadsAs : {T E : Type 0} → State → State → Result T E → Type 0
ReadsAs old new (Ok _) = IsKept old.now → IsUnchanged old new
ReadsAs old new (Err _) = IsKept old.now → Undone old new
