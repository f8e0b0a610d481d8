-- The plan of an entry, from its two sizes.
use Rattle.std.proofs.Common.{◌≡◌, ℕ, List, Bool, true, false, not, nat_lt, Option, Some, None, Result, Ok, Err, refl, ap, sym, subst, ◌∙◌}
use Rattle.melon_schema.specs.Faults.{◌>>=◌, unless, Fails}
use Rattle.melon_outside.specs.declared.kept.KeptBatch.{KeptBatch}
use Rattle.melon_change.specs.declared.history.Entry.{Entry}
use Rattle.melon_board.specs.declared.fault.WriteFault.{WriteFault}
use Rattle.melon_board.specs.declared.fault.WriteFault.TheVariants.{Batch, StoreFull, SessionFull, KeeperFault, Memory}
use Rattle.melon_board.specs.declared.draft.Sizes.{Sizes}
use Rattle.melon_board.specs.Stores.{SeenStore, with_entry}
use Rattle.melon_board.specs.Sizes.{stored_bytes, journal_bytes}
use Rattle.melon_board.specs.Batches.{kept_batch}
use Rattle.melon_board.specs.Plans.{Plan, entry_plan}
use Rattle.melon_board.specs.Drafts.{sizes_within}
use Rattle.melon_board.specs.Carried.{Refuses}
use Rattle.melon_change.specs.Changes.{after_set}

-- both limits, and what is made within them
abbrev limited : {X : Type 0} → Bool → Bool → ℕ → ℕ → X → Result X WriteFault
limited a b stored journal x = unless a (StoreFull stored) >>= λ _. unless b (SessionFull journal) >>= λ _. Ok x

made : {X Y : Type 0} (a b : Bool) (stored journal : ℕ) (x z : X) (y : Y) → limited a b stored journal x ≡ Ok z → (limited a b stored journal y ≡ Ok y) × (z ≡ x)
made true true stored journal x z y e = (refl, cc)
made true false stored journal x z y e = cc
made false true stored journal x z y e = cc
made false false stored journal x z y e = cc

full : {X : Type 0} (a b : Bool) (stored journal : ℕ) (x : X) (plan : Plan) (f : WriteFault) → limited a b stored journal x ≡ Err f → Refuses (limited a b stored journal plan) f
full true true stored journal x plan f e = cc
full true false stored journal x plan f e = let same : SessionFull journal ≡ f = cc in subst (λ (g : WriteFault). Refuses (Err (SessionFull journal)) g) same refl
full false true stored journal x plan f e = let same : StoreFull stored ≡ f = cc in subst (λ (g : WriteFault). Refuses (Err (StoreFull stored)) g) same refl
full false false stored journal x plan f e = let same : StoreFull stored ≡ f = cc in subst (λ (g : WriteFault). Refuses (Err (StoreFull stored)) g) same refl

abbrev fits_limit : ℕ → Bool
fits_limit bytes = not (nat_lt 134217728 bytes)

sizes-limited : (stored journal : ℕ) → sizes_within stored journal ≡ limited (fits_limit stored) (fits_limit journal) stored journal (record { stored = stored; journal = journal })
unfolding sizes_within
sizes-limited stored journal = refl

abbrev pub plan_of : SeenStore → Entry → Plan
plan_of store e = record { batch = Some (kept_batch store.schema.tables e.set); after = with_entry store e }

module _ (store : SeenStore) (e : Entry) (stored journal : ℕ) (stored_is : stored ≡ stored_bytes store.schema.tables (after_set store.rows e.set)) (journal_is : journal ≡ journal_bytes store.schema.tables (with_entry store e).entries) where
  plan-limited : entry_plan store e ≡ limited (fits_limit stored) (fits_limit journal) stored journal (plan_of store e)
  unfolding entry_plan
  plan-limited =
      ap (λ (n : ℕ). limited (fits_limit n) (fits_limit (journal_bytes store.schema.tables (with_entry store e).entries)) n (journal_bytes store.schema.tables (with_entry store e).entries) (plan_of store e)) (sym stored_is)
      ∙ ap (λ (n : ℕ). limited (fits_limit stored) (fits_limit n) stored n (plan_of store e)) (sym journal_is)

  pub planned : (sizes : Sizes) → sizes_within stored journal ≡ Ok sizes → (entry_plan store e ≡ Ok (plan_of store e)) × (sizes ≡ record { stored = stored; journal = journal })
  planned sizes h =
      let both = made (fits_limit stored) (fits_limit journal) stored journal (record { stored = stored; journal = journal }) sizes (plan_of store e) (sym (sizes-limited stored journal) ∙ h) in
      (plan-limited ∙ both.0, both.1)

  refused_by : (f : WriteFault) → sizes_within stored journal ≡ Err f → Refuses (entry_plan store e) f
  refused_by f h = subst (λ (p : Result Plan WriteFault). Refuses p f) (sym plan-limited) (full (fits_limit stored) (fits_limit journal) stored journal (record { stored = stored; journal = journal }) (plan_of store e) f (sym (sizes-limited stored journal) ∙ h))

  pub refused : (f : WriteFault) → Fails Memory f (sizes_within stored journal) → Refuses (entry_plan store e) f
  refused (Batch b) h = refused_by (Batch b) (h (λ e. cc))
  refused (StoreFull n) h = refused_by (StoreFull n) (h (λ e. cc))
  refused (SessionFull n) h = refused_by (SessionFull n) (h (λ e. cc))
  refused KeeperFault h = refused_by KeeperFault (h (λ e. cc))
  refused Memory h = tt
