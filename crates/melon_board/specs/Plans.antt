-- What a call on a store is to commit, and the store after it.
use Rattle.std.specs.Prelude.{◌≡◌, ℕ, nat_lt, List, [], ◌∷◌, ◌++◌, Bool, true, false, not, Option, Some, None, Result, Ok, Err, ⊤}
use Rattle.melon_schema.specs.Faults.{◌>>=◌, unless}
use Rattle.melon_outside.specs.declared.kept.KeptBatch.{KeptBatch}
use Rattle.melon_change.specs.declared.op.Op.{Op}
use Rattle.melon_change.specs.declared.rule.BatchFault.{BatchFault}
use Rattle.melon_change.specs.declared.change.Change.{Change}
use Rattle.melon_change.specs.declared.history.Origin.{Origin}
use Rattle.melon_change.specs.declared.history.Origin.TheVariants.{Local}
use Rattle.melon_change.specs.declared.history.Entry.{Entry}
use Rattle.melon_change.specs.Batch.{batch_of}
use Rattle.melon_change.specs.Changes.{after_set}
use Rattle.melon_board.specs.declared.fault.WriteFault.{WriteFault}
use Rattle.melon_board.specs.declared.fault.WriteFault.TheVariants.{Batch, StoreFull, SessionFull, KeeperFault}
use Rattle.melon_board.specs.Sizes.{stored_bytes, journal_bytes}
use Rattle.melon_board.specs.Stores.{SeenStore, with_entry}
use Rattle.melon_board.specs.Batches.{kept_batch}

-- the batch that the keeper is asked to do, where it is asked at all, and the store once that is done
pub record Plan : Type 0 where
  pub batch : Option KeptBatch
  pub after : SeenStore

-- ---- entries

-- so many bytes are at most the limit
abbrev pub within_limit : (ℕ → WriteFault) → ℕ → Result ⊤ WriteFault
within_limit full bytes = unless (not (nat_lt 134217728 bytes)) (full bytes)

-- the entry, where the rows and the journal stay within their limits
unfoldable pub entry_plan : SeenStore → Entry → Result Plan WriteFault
entry_plan store e = do
  rows ← within_limit StoreFull (stored_bytes store.schema.tables (after_set store.rows e.set))
  journal ← within_limit SessionFull (journal_bytes store.schema.tables (store.entries ++ e ∷ []))
  Ok (record { batch = Some (kept_batch store.schema.tables e.set); after = with_entry store e })

-- no changes make no entry, and ask nothing of the keeper
abbrev pub install_plan : SeenStore → Origin → List Change → Result Plan WriteFault
install_plan store origin [] = Ok (record { batch = None; after = store })
install_plan store origin (c ∷ cs) = entry_plan store (record { origin = origin; set = c ∷ cs })

abbrev pub as_batch : {X : Type 0} → Result X BatchFault → Result X WriteFault
as_batch (Ok x) = Ok x
as_batch (Err fault) = Err (Batch fault)

abbrev pub write_plan : SeenStore → List Op → Result Plan WriteFault
write_plan store ops = as_batch (batch_of store.schema.tables store.rows ops) >>= install_plan store Local

-- ---- the plan and the keeper's outcome

abbrev pub unless_asked : Option KeptBatch → SeenStore → Result SeenStore WriteFault
unless_asked None store = Ok store
unless_asked (Some batch) store = Err KeeperFault

-- the keeper did what it was asked, or failed
abbrev pub done_or_failed : Bool → Plan → Result SeenStore WriteFault
done_or_failed true plan = Ok plan.after
done_or_failed false plan = unless_asked plan.batch plan.after

-- A change set installed, where the keeper does its batch or fails.
abbrev pub installed : SeenStore → Bool → Origin → List Change → Result SeenStore WriteFault
installed store done origin set = install_plan store origin set >>= done_or_failed done

-- A batch written, where the keeper does it or fails.
abbrev pub written : SeenStore → Bool → List Op → Result SeenStore WriteFault
written store done ops = write_plan store ops >>= done_or_failed done

-- what is asked of the keeper by a plan, or by a refusal
abbrev pub asked : {E : Type 0} → Result Plan E → Option KeptBatch
asked (Ok plan) = plan.batch
asked (Err fault) = None
