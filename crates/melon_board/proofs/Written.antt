-- How the answers of a write follow from its plan.
use Rattle.std.proofs.Common.{◌≡◌, ℕ, List, [], ◌∷◌, length, arith, Option, Some, None, Result, Ok, Err, refl, ap, sym, subst, ◌∙◌}
use Rattle.melon_schema.specs.Faults.{◌>>=◌, Fails}
use Rattle.melon_raw.specs.Rows.{Rows}
use Rattle.melon_outside.specs.declared.kept.KeptBatch.{KeptBatch}
use Rattle.melon_change.specs.declared.change.Change.{Change}
use Rattle.melon_change.specs.declared.op.Op.{Op}
use Rattle.melon_change.specs.declared.rule.BatchFault.{BatchFault}
use Rattle.melon_change.specs.declared.rule.BatchFault.TheVariants as batch
use Rattle.melon_change.specs.declared.history.Origin.{Origin}
use Rattle.melon_change.specs.declared.history.Origin.TheVariants.{Local}
use Rattle.melon_change.specs.Batch.{batch_of}
use Rattle.melon_board.specs.declared.fault.WriteFault.{WriteFault}
use Rattle.melon_board.specs.declared.fault.WriteFault.TheVariants.{Batch, StoreFull, SessionFull, KeeperFault, Memory}
use Rattle.melon_board.specs.Faults.{fault_of_batch}
use Rattle.melon_board.specs.Stores.{SeenStore}
use Rattle.melon_board.specs.Plans.{Plan, as_batch, install_plan, write_plan, asked}
use Rattle.melon_board.specs.Carried.{IsAsked, IsOfKeeper, IsWritten, Refuses}

-- a fault of the keeper, or want of memory, leaves the store
pub kept_fault : (plan : Result Plan WriteFault) (was now : SeenStore) (f : WriteFault) → IsOfKeeper f → IsAsked plan → now ≡ was → IsWritten plan was now (Err f)
kept_fault plan was now (Batch b) of_keeper is_asked same = absurd of_keeper
kept_fault plan was now (StoreFull n) of_keeper is_asked same = absurd of_keeper
kept_fault plan was now (SessionFull n) of_keeper is_asked same = absurd of_keeper
kept_fault plan was now KeeperFault of_keeper is_asked same = (is_asked, same)
kept_fault plan was now Memory of_keeper is_asked same = same

-- a broken rule is no fault of the keeper
pub not_keepers : (f : BatchFault) → fault_of_batch f ≡ KeeperFault → ⊥
not_keepers (batch.UnknownTable op table id) e = cc
not_keepers (batch.UnknownColumn op table id column) e = cc
not_keepers (batch.BadId op table id) e = cc
not_keepers (batch.Twice op table id) e = cc
not_keepers (batch.Taken op table id) e = cc
not_keepers (batch.NoRow op table id) e = cc
not_keepers (batch.LongText op table id column) e = cc
not_keepers (batch.TooMany count) e = cc
not_keepers batch.Memory e = cc

-- what a plan refuses is no fault of the keeper
pub refusal_not_keepers : (plan : Result Plan WriteFault) (f : WriteFault) → Refuses plan f → f ≡ KeeperFault → ⊥
refusal_not_keepers plan (Batch b) h e = cc
refusal_not_keepers plan (StoreFull n) h e = cc
refusal_not_keepers plan (SessionFull n) h e = cc
refusal_not_keepers plan KeeperFault h e = h
refusal_not_keepers plan Memory h e = cc

-- an empty set asks nothing
pub nothing_asked : (store : SeenStore) (origin : Origin) (set : List Change) → length set ≡ 0 → asked (install_plan store origin set) ≡ None
nothing_asked store origin [] h = refl
nothing_asked store origin (c ∷ cs) h = absurd (omega (arith, h))

pub is_asked : (plan : Result Plan WriteFault) (b : KeptBatch) (after : SeenStore) → plan ≡ Ok (record { batch = Some b; after = after }) → IsAsked plan
is_asked plan b after e = (b, ap (λ (p : Result Plan WriteFault). asked p) e)

module _ (store : SeenStore) (ops : List Op) where
  broken : (f : BatchFault) → batch_of store.schema.tables store.rows ops ≡ Err f → write_plan store ops ≡ Err (Batch f)
  broken f e = ap (λ (r : Result (List Change) BatchFault). as_batch r >>= install_plan store Local) e

  -- a broken rule, or want of memory
  pub unwritten : (f : BatchFault) → Fails batch.Memory f (batch_of store.schema.tables store.rows ops) → IsWritten (write_plan store ops) store store (Err (fault_of_batch f))
  unwritten (batch.UnknownTable op table id) h = (broken (batch.UnknownTable op table id) (h (λ e. cc)), refl)
  unwritten (batch.UnknownColumn op table id column) h = (broken (batch.UnknownColumn op table id column) (h (λ e. cc)), refl)
  unwritten (batch.BadId op table id) h = (broken (batch.BadId op table id) (h (λ e. cc)), refl)
  unwritten (batch.Twice op table id) h = (broken (batch.Twice op table id) (h (λ e. cc)), refl)
  unwritten (batch.Taken op table id) h = (broken (batch.Taken op table id) (h (λ e. cc)), refl)
  unwritten (batch.NoRow op table id) h = (broken (batch.NoRow op table id) (h (λ e. cc)), refl)
  unwritten (batch.LongText op table id column) h = (broken (batch.LongText op table id column) (h (λ e. cc)), refl)
  unwritten (batch.TooMany count) h = (broken (batch.TooMany count) (h (λ e. cc)), refl)
  unwritten batch.Memory h = refl

  -- a batch is installed
  pub write_plan-is : (set : List Change) → batch_of store.schema.tables store.rows ops ≡ Ok set → write_plan store ops ≡ install_plan store Local set
  write_plan-is set e = ap (λ (r : Result (List Change) BatchFault). as_batch r >>= install_plan store Local) e
