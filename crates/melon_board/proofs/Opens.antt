-- How the answers of an opening follow from what was loaded, and from what the keeper answered.
use Rattle.std.proofs.Common.{◌≡◌, ℕ, List, [], ◌∷◌, true, false, Option, Some, None, Result, Ok, Err, inl, inr, refl, ap, sym, subst, ◌∙◌}
use Rattle.melon_schema.specs.Faults.{Fails}
use Rattle.melon_schema.specs.Seen.{SeenSchema}
use Rattle.melon_outside.specs.declared.kept.Kept.{Kept}
use Rattle.melon_outside.specs.declared.kept.KeptBatch.{KeptBatch}
use Rattle.melon_outside.specs.declared.kept.OpenFault.{OpenFault}
use Rattle.melon_outside.specs.declared.kept.OpenFault.TheVariants.{BadRow, Version, Full, KeeperFault, Memory}
use Rattle.melon_outside.specs.declared.keeper.KeeperError.{KeeperError}
use Rattle.melon_outside.specs.declared.keeper.KeeperError.TheVariants as keeper
use Rattle.melon_outside.specs.Keeping.{open_fault_of}
use Rattle.melon_outside.specs.SeenKeeper.{SeenKeeper, Answered, Loads}
use Rattle.melon_outside.specs.Asking.{IsOver, Asks, HoldsAsBefore, done_of}
use Rattle.melon_outside.proofs.SeenKeepers.{answered_none, answered_more, holds_refl, holds_kept, holds_as_before, load_over, over_done}
use Rattle.melon_board.specs.Stores.{SeenStore, store_key}
use Rattle.melon_board.specs.Plans.{Plan, asked}
use Rattle.melon_board.specs.Opening.{open_plan}
use Rattle.melon_board.specs.Opened.{IsOfKept}
use Rattle.melon_board.specs.Carried.{Opens}

-- memory ran out before the keeper was asked
pub opens_nothing : (s : SeenKeeper) (name : List ℕ) (schema : SeenSchema) → Opens s s name schema (Err Memory)
opens_nothing s name schema = (holds_refl s, inl (answered_none s))

-- the load came to nothing
pub opens_loading : (before now : SeenKeeper) (key name : List ℕ) (schema : SeenSchema) (e : KeeperError) → Loads key (Err e) before now → Opens before now name schema (Err (open_fault_of e))
opens_loading before now key name schema keeper.Memory loads = (holds_kept before now loads.kept, inl loads.answered)
opens_loading before now key name schema keeper.Failed loads = inl (holds_kept before now loads.kept, loads.answered)

-- what was loaded is refused, or memory ran out over it
pub opens_fault : (before now : SeenKeeper) (name : List ℕ) (schema : SeenSchema) (kept : Kept) (f : OpenFault) → Fails Memory f (open_plan name schema kept) → IsOfKept f → Loads (store_key name) (Ok kept) before now → Opens before now name schema (Err f)
opens_fault before now name schema kept (BadRow table id) fails of_kept loads = (kept, fails (λ e. cc), load_over (store_key name) kept before now loads, loads.answered)
opens_fault before now name schema kept (Version stored) fails of_kept loads = (kept, fails (λ e. cc), load_over (store_key name) kept before now loads, loads.answered)
opens_fault before now name schema kept (Full bytes) fails of_kept loads = (kept, fails (λ e. cc), load_over (store_key name) kept before now loads, loads.answered)
opens_fault before now name schema kept KeeperFault fails of_kept loads = absurd of_kept
opens_fault before now name schema kept Memory fails of_kept loads = (holds_kept before now loads.kept, inr loads.answered)

module _ (before mid now : SeenKeeper) (name : List ℕ) (schema : SeenSchema) (kept : Kept) (batch : Option KeptBatch) (store : SeenStore) (plan : open_plan name schema kept ≡ Ok (record { batch = batch; after = store })) (loads : Loads (store_key name) (Ok kept) before mid) where
  is_asked : asked (open_plan name schema kept) ≡ batch
  is_asked = ap (λ (p : Result Plan OpenFault). asked p) plan

  -- what is missing wasn't kept
  pub opens_keeping : (e : KeeperError) → Asks {T = Unit {0}} batch (store_key name) keeper.Failed (Err e) mid now → Opens before now name schema (Err (open_fault_of e))
  opens_keeping keeper.Memory asks =
      (holds_as_before before mid now (holds_kept before mid loads.kept) asks.kept, inr (answered_more before mid now (true ∷ []) [] loads.answered (asks.other (λ e. cc))))
  opens_keeping keeper.Failed asks =
      let failed = asks.failed refl in
      inr (
        kept,
        failed.0.0,
        is_asked ∙ failed.0.1,
        over_done before mid now (store_key name) kept None (load_over (store_key name) kept before mid loads) asks.kept,
        answered_more before mid now (true ∷ []) (false ∷ []) loads.answered failed.1,
      )

  -- all was kept
  pub opens_ok : Asks {T = Unit {0}} {E = KeeperError} batch (store_key name) keeper.Failed (Ok tt) mid now → Opens before now name schema (Ok store)
  opens_ok asks = (
    kept,
    plan ∙ ap (λ (b : Option KeptBatch). let p : Result Plan OpenFault = Ok (record { batch = b; after = store }) in p) (sym is_asked),
    subst (λ (b : Option KeptBatch). IsOver before now (store_key name) kept b) (sym is_asked) (over_done before mid now (store_key name) kept batch (load_over (store_key name) kept before mid loads) asks.kept),
    subst (λ (b : Option KeptBatch). Answered (true ∷ done_of b) before now) (sym is_asked) (answered_more before mid now (true ∷ []) (done_of batch) loads.answered asks.done),
  )
