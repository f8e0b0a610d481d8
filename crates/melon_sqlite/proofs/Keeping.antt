-- What the keeper tells after a call.
use Rattle.std.proofs.Common.{◌≡◌, ◌⊎◌, inl, inr, ℕ, ◌≤◌, Bool, true, false, not, List, Result, IfOk, OnOk, IsErrOf, refl, sym, ap, ◌∙◌, IsTrue, arith}
use Rattle.sqlite_trees.specs.Tree.{Trees}
use Rattle.sqlite.specs.Effect.{Database}
use Rattle.sqlite.specs.State.{State, HasCleanDisk, Survives}
use Rattle.melon_outside.specs.declared.kept.Kept.{Kept}
use Rattle.melon_outside.specs.declared.kept.KeptBatch.{KeptBatch}
use Rattle.melon_outside.specs.declared.keeper.KeeperError.{KeeperError}
use Rattle.melon_outside.specs.declared.keeper.KeeperError.TheVariants.{Failed}
use Rattle.melon_outside.specs.Causes.{Rose}
use Rattle.melon_outside.specs.Kept.{batched, is_in_order}
use Rattle.melon_outside.specs.Keeping.{Changes, Committed, Stores, AreSame}
use Rattle.melon_outside.specs.SeenKeeper.{Later, Loads, Commits}
use Rattle.melon_sqlite.specs.Contents.{stores_in}
use Rattle.melon_sqlite.specs.Statements.{StaysShut}
use Rattle.melon_sqlite.specs.Telling.{TellsIn, GoesOnIn, HoldsIn, Knows, LeavesIn, StaysIdle, seen_in}
use Rattle.melon_sqlite.specs.Transactions.{Idle, Whole}

pub outside_from : (b r : Bool) → r ≡ not b → r ≡ true → b ≡ false
outside_from true r e f = absurd (cc)
outside_from false r e f = refl

-- what tells now told before
pub told_before : (fits : Bool) (old new : State) (P : Trees → Type 0) → old.in_transaction ≡ false → Survives old new P → (HasCleanDisk new → StaysShut old new) → TellsIn fits new → TellsIn fits old
told_before fits old new P outside s o T = record { fits_now = T.fits_now; clean = omega (arith, s.clean, T.clean); is_open = o T.clean T.is_open; outside = outside }

-- what is committed is what there is
here : (s : State) → Idle s → (store : List ℕ) → stores_in s.committed.trees store ≡ stores_in s.now.trees store
here s I store = ap (λ (d : Database). stores_in d.trees store) I.settled

module _ (f : Kept → Kept) (store : List ℕ) (fits : Bool) (old new : State) (knows : Knows fits old) (outside : old.in_transaction ≡ false) (s : Survives old new (Whole f store Idle old)) where
  pub ok_done : (HasCleanDisk new → StaysShut old new × (Idle old → Idle new × Changes f store (stores_in old.now.trees) (stores_in new.now.trees))) → (m : Stores) → HoldsIn fits new m → (was : Stores) × HoldsIn fits old was × Changes f store was m
  ok_done c m h =
      let T = told_before fits old new _ outside s (λ clean. (c clean).0) h.0 in
      let r = (c h.0.clean).1 (knows T) in (
        stores_in old.committed.trees,
        (T, λ _. refl),
        (h.1 store ∙ here new r.0 store ∙ r.1.0 ∙ ap f (sym (here old (knows T) store)), λ other apart. h.1 other ∙ here new r.0 other ∙ r.1.1 other apart ∙ sym (here old (knows T) other)),
      )

  pub err_done : (HasCleanDisk new → StaysShut old new × (Idle old → IsTrue new.is_open → Idle new × (new.now ≡ old.now))) → (m : Stores) → HoldsIn fits new m → (was : Stores) × HoldsIn fits old was × AreSame m was
  err_done c m h =
      let T = told_before fits old new _ outside s (λ clean. (c clean).0) h.0 in
      let r = (c h.0.clean).1 (knows T) h.0.is_open in
      (stores_in old.committed.trees, (T, λ _. refl), λ one. h.1 one ∙ here new r.0 one ∙ ap (λ (d : Database). stores_in d.trees one) r.1 ∙ sym (here old (knows T) one))

  pub ok_knows : (HasCleanDisk new → StaysShut old new × (Idle old → Idle new × Changes f store (stores_in old.now.trees) (stores_in new.now.trees))) → Knows fits new
  ok_knows c T = ((c T.clean).1 (knows (told_before fits old new _ outside s (λ clean. (c clean).0) T))).0

  pub err_knows : (HasCleanDisk new → StaysShut old new × (Idle old → IsTrue new.is_open → Idle new × (new.now ≡ old.now))) → Knows fits new
  err_knows c T = ((c T.clean).1 (knows (told_before fits old new _ outside s (λ clean. (c clean).0) T)) T.is_open).0

  pub may_leave : ((db : Trees) → IsTrue old.is_open → old.may_leave db → db ≡ old.committed.trees) → (was : Stores) → HoldsIn fits old was → (m : Stores) → LeavesIn new m → AreSame m was ⊎ Changes f store was m
  may_leave law was h m left =
      let I = knows h.0 in
      elim (s.crash left.0 left.1 left.2) [
        | inl before ↦ inl (λ one. left.3 one ∙ ap (λ (t : Trees). stores_in t one) (law left.1 h.0.is_open before) ∙ sym (h.1 one))
        | inr whole ↦ let w = whole I in inr (left.3 store ∙ w.0 ∙ ap f (sym (here old I store) ∙ sym (h.1 store)), λ other apart. left.3 other ∙ w.1 other apart ∙ sym (here old I other) ∙ sym (h.1 other))
      ]

module _ (fits : Bool) (old new : State) (knows : Knows fits old) (outside : old.in_transaction ≡ false) (s : Survives old new (λ _. Idle old → ⊥)) (opened : HasCleanDisk new → StaysShut old new) (stays : HasCleanDisk new → StaysIdle old new) where
  pub load_kept : (m : Stores) → HoldsIn fits new m → HoldsIn fits old m
  load_kept m h =
      let T = told_before fits old new _ outside s opened h.0 in
      let r = stays h.0.clean (knows T) h.0.is_open in
      (T, λ one. h.1 one ∙ here new r.0 one ∙ ap (λ (d : Database). stores_in d.trees one) r.1 ∙ sym (here old (knows T) one))

  pub load_found : (store : List ℕ) (kept : Kept) → (HasCleanDisk new → Idle old → Idle new × (kept ≡ stores_in old.now.trees store)) → (m : Stores) → HoldsIn fits new m → kept ≡ m store
  load_found store kept loads m h = let was = load_kept m h in (loads h.0.clean (knows was.0)).1 ∙ sym (here old (knows was.0) store) ∙ sym (was.1 store)

  pub load_knows : Knows fits new
  load_knows T = (stays T.clean (knows (told_before fits old new _ outside s opened T)) T.is_open).0

  pub load_leaves : ((db : Trees) → IsTrue old.is_open → old.may_leave db → db ≡ old.committed.trees) → (was : Stores) → HoldsIn fits old was → (m : Stores) → LeavesIn new m → AreSame m was
  load_leaves law was h m left =
      let I = knows h.0 in
      elim (s.crash left.0 left.1 left.2) [
        | inl before ↦ λ one. left.3 one ∙ ap (λ (t : Trees). stores_in t one) (law left.1 h.0.is_open before) ∙ sym (h.1 one)
        | inr never ↦ absurd (never I)
      ]

-- it goes on telling
pub goes_on : (fits : Bool) (old new : State) (P : Trees → Type 0) → Knows fits old → Survives old new P → (HasCleanDisk new → Idle old → IsTrue new.is_open → new.in_transaction ≡ false) → GoesOnIn fits old new
goes_on fits old new P knows s outside T clean = elim (s.closes clean T.is_open) [
  | inl o ↦ inl (record { fits_now = T.fits_now; clean = clean; is_open = o; outside = outside clean (knows T) o })
  | inr more ↦ inr more
]

pub load_tells : (fits : Bool) (old new : State) (store : List ℕ) (kept : Kept) → Knows fits old → (HasCleanDisk new → Idle old → Idle new × (kept ≡ stores_in old.now.trees store)) → TellsIn fits old → HasCleanDisk new → TellsIn fits new
load_tells fits old new store kept knows loads T clean =
    let idle = (loads clean (knows T)).0 in
    record { fits_now = T.fits_now; clean = clean; is_open = idle.is_open; outside = idle.outside }

-- a load that answers leaves it telling what it told, where the disk is clean
pub load_goes_on : (fits : Bool) (old new : State) (store : List ℕ) (kept : Kept) → Knows fits old → (HasCleanDisk new → Idle old → Idle new × (kept ≡ stores_in old.now.trees store)) → (HasCleanDisk new → StaysIdle old new)
    → HasCleanDisk new → (was : Stores) → HoldsIn fits old was → HoldsIn fits new was
load_goes_on fits old new store kept knows loads stays clean was h =
    let I = knows h.0 in
    let T = load_tells fits old new store kept knows loads h.0 clean in
    let r = stays clean I T.is_open in
    (T, λ one. h.1 one ∙ here old I one ∙ sym (ap (λ (d : Database). stores_in d.trees one) r.1) ∙ sym (here new r.0 one))

-- ---- the same as it is seen

module _ (fits : Bool) (old new : State) (before now : ℕ) where
  later_seen : before ≤ now → Later (seen_in fits old before) (seen_in fits new now)
  later_seen count = record { count = count; sound = λ never. never; same = λ never. absurd never; plan = λ fails never. never }

  pub loads_seen : (store : List ℕ) (result : Result Kept KeeperError) → ((m : Stores) → HoldsIn fits new m → HoldsIn fits old m) → ((m : Stores) → HoldsIn fits new m → IfOk result (λ kept. kept ≡ m store)) → IfOk result (λ kept. is_in_order kept ≡ true)
      → ((was : Stores) → HoldsIn fits old was → (left : Stores) → LeavesIn new left → AreSame left was) → OnOk result (HasCleanDisk new → (was : Stores) → HoldsIn fits old was → HoldsIn fits new was)
      → before ≤ now → (IsErrOf result Failed → Rose before now) → Loads store result (seen_in fits old before) (seen_in fits new now)
  loads_seen store result kept found ordered leaves goes_on count cause = record {
    kept = kept;
    found = found;
    ordered = ordered;
    leaves = leaves;
    goes_on = goes_on;
    answered = λ all never. absurd never;
    later = later_seen count;
    cause = cause;
    never = λ never h. never;
  }

  pub commits_seen : (batch : KeptBatch) (store : List ℕ) (result : Result (Unit {0}) KeeperError) → ((m : Stores) → HoldsIn fits new m → (was : Stores) × HoldsIn fits old was × Committed (batched batch) store result was m)
      → ((was : Stores) → HoldsIn fits old was → (left : Stores) → LeavesIn new left → AreSame left was ⊎ Changes (batched batch) store was left) → (HasCleanDisk new → HasCleanDisk old)
      → before ≤ now → (IsErrOf result Failed → Rose before now) → Commits batch store result (seen_in fits old before) (seen_in fits new now)
  commits_seen batch store result done leaves honest count cause = record {
    done = done;
    leaves = leaves;
    was_honest = honest;
    answered = λ all never. absurd never;
    later = later_seen count;
    cause = cause;
    never = λ never h. never;
  }
