-- What a keeper over SQLite tells, and what a stop may leave.
use Rattle.std.specs.Prelude.{◌≡◌, ◌⊎◌, ℕ, ◌^◌, Bool, not, ◌&&◌, true, false, List, [], map, Result, Ok, Err, IsTrue, nat_lt, refl}
use Rattle.std.proofs.Common.{ap, ap₂, sym, ◌∙◌}
use Rattle.std.proofs.lemmas.Cmp.{nat_list_cmp_total}
use Rattle.std.specs.List.{list_any}
use Rattle.std.specs.Coded.{Coded, code_by, coded×, coded_ℕ, coded_bool}
use Rattle.sqlite_trees.specs.Tree.{Trees}
use Rattle.sqlite_disk.specs.Disk.{MoreFaults}
use Rattle.sqlite_trees.specs.declared.store.Store.{Ghosts}
use Rattle.sqlite.specs.Held.{Held, held_code, state}
use Rattle.sqlite.specs.State.{State, HasCleanDisk}
use Rattle.melon_outside.specs.declared.kept.Kept.{Kept}
use Rattle.melon_outside.specs.declared.kept.KeptValue.{KeptValue}
use Rattle.melon_outside.specs.Keeping.{AreSame, Stores}
use Rattle.melon_outside.specs.Kept.{key_cmp, key_of, name_of, text_cmp, is_in_order}
use Rattle.melon_outside.specs.SeenKeeper.{SeenKeeper}
use Rattle.melon_outside.proofs.Order.{up, up_withs, ascends-up}
use Rattle.melon_outside.proofs.Places.{key_total}
use Rattle.melon_sqlite.specs.Contents.{of_store, row_of, value_of, rows_tree, values_tree, stores_in}
use Rattle.melon_sqlite.specs.Transactions.{Idle}

-- a keeper: its connection, whether the schema was exactly that of the two tables as it was opened, and its count of faults
pub record Seen (S : Type 0) : Type 0 where
  pub connection : Held S
  pub fits : Bool
  pub faults : ℕ

abbrev pub seen_code : {S : Type 0} → Coded S → Coded (Seen S)
seen_code {S} store =
    code_by (Held S × (Bool × ℕ)) (coded× (held_code store) (coded× coded_bool coded_ℕ))
    (λ k. (k.connection, (k.fits, k.faults)))
    (λ p. record { connection = p.0; fits = p.1.0; faults = p.1.1 })
    (λ _. refl)

-- It tells what it holds where its schema fits, so far the disk has returned what was written, and the connection is open outside a transaction.
pub record TellsIn (fits : Bool) (s : State) : Type 0 where
  pub fits_now : IsTrue fits
  pub clean : HasCleanDisk s
  pub is_open : IsTrue s.is_open
  pub outside : s.in_transaction ≡ false

-- then that is what the two tables keep, as it was last committed
abbrev pub HoldsIn : Bool → State → Stores → Type 0
HoldsIn fits s m = TellsIn fits s × AreSame m (stores_in s.committed.trees)

-- what an open of the database after a stop at this moment may find in the two tables
abbrev pub LeavesIn : State → Stores → Type 0
LeavesIn s m = HasCleanDisk s × (db : Trees) × s.may_leave db × AreSame m (stores_in db)

-- what a stop leaves is what is held, where the disk leaves what is committed
pub settles : (fits : Bool) (s : State) → ((db : Trees) → IsTrue s.is_open → s.may_leave db → db ≡ s.committed.trees) → (m left : Stores) → HoldsIn fits s m → LeavesIn s left → AreSame left m
settles fits s law m left h l = λ store. l.3 store ∙ ap (λ (t : Trees). stores_in t store) (law l.1 h.0.is_open l.2) ∙ sym (h.1 store)

-- where it tells, the two tables are there and all is committed
abbrev pub Knows : Bool → State → Type 0
Knows fits s = TellsIn fits s → Idle s

-- what the tables keep of a store is in order
stores-in_order : (trees : Trees) (store : List ℕ) → is_in_order (stores_in trees store) ≡ true
stores-in_order trees store =
    let rows = map row_of (of_store store (trees rows_tree)) in
    let values = map value_of (of_store store (trees values_tree)) in
    ap₂ ◌&&◌
    (ascends-up key_cmp key_of key_total _ (up_withs key_cmp key_of key_total rows [] (up key_cmp key_of key_total [] refl)))
    (ascends-up text_cmp name_of nat_list_cmp_total _ (up_withs text_cmp name_of nat_list_cmp_total values [] (up text_cmp name_of nat_list_cmp_total [] refl)))

pub held_in_order : (fits : Bool) (s : State) (m : Stores) → HoldsIn fits s m → (store : List ℕ) → is_in_order (m store) ≡ true
held_in_order fits s m h store = ap is_in_order (h.1 store) ∙ stores-in_order s.committed.trees store

-- a keeper that tells goes on telling, unless the disk was caught lying or failed
abbrev pub GoesOnIn : Bool → State → State → Type 0
GoesOnIn fits old new = TellsIn fits old → HasCleanDisk new → TellsIn fits new ⊎ MoreFaults old.faults new.faults

abbrev pub LoadsAs : {E : Type 0} → List ℕ → State → State → Result Kept E → Type 0
LoadsAs store old new (Ok kept) = Idle old → Idle new × (kept ≡ stores_in old.now.trees store)
LoadsAs store old new (Err e) = Unit {0}

abbrev pub StaysIdle : State → State → Type 0
StaysIdle old new = Idle old → IsTrue new.is_open → Idle new × (new.now ≡ old.now)

-- a number that no column of integers can hold
abbrev pub has_big : List KeptValue → Bool
has_big values = list_any (λ v. not (nat_lt v.number (2 ^ 63))) values

-- It tells nothing of its outcomes, and may always fail.
abbrev pub seen_in : Bool → State → ℕ → SeenKeeper
seen_in fits s faults = record {
  holds = HoldsIn fits s;
  answered = λ _. ⊥;
  plan = λ _. ⊥;
  may_leave = LeavesIn s;
  honest = HasCleanDisk s;
  sound = ⊥;
  faults = faults;
}

-- ---- the same of a keeper, over the store of its connection

module _ {S : Type 0} (g : Ghosts S) where
  -- what its connection shows
  abbrev pub shown : Seen S → State
  shown k = state g k.connection

  abbrev pub Tells : Seen S → Type 0
  Tells k = TellsIn k.fits (shown k)

  abbrev pub Holds : Seen S → Stores → Type 0
  Holds k m = HoldsIn k.fits (shown k) m

  abbrev pub MayLeave : Seen S → Stores → Type 0
  MayLeave k m = LeavesIn (shown k) m

  abbrev pub seen_keeper : Seen S → SeenKeeper
  seen_keeper k = seen_in k.fits (shown k) k.faults

  abbrev pub GoesOn : Seen S → Seen S → Type 0
  GoesOn old new = GoesOnIn old.fits (shown old) (shown new)
