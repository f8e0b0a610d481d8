-- A store that was opened or refused.
use Rattle.std.proofs.Common.{◌≡◌, ◌≢◌, ◌⊎◌, ℕ, List, [], ◌∷◌, ◌++◌, true, false, refl, ap, sym, ◌∙◌, subst, inl, inr, arith}
use Rattle.std.specs.Prelude.{Option, Some, None, Result, Ok, Err, IfOk, IsErrOf}
use Rattle.melon_schema.specs.Seen.{SeenSchema}
use Rattle.melon_outside.specs.Asking.{IsOver, HoldsAsBefore, done_of}
use Rattle.melon_outside.specs.Causes.{Rose}
use Rattle.melon_outside.specs.Kept.{is_in_order}
use Rattle.melon_outside.specs.Keeping.{Stores, AreSame}
use Rattle.melon_outside.specs.SeenKeeper.{SeenKeeper, Answered, Later}
use Rattle.melon_outside.specs.declared.kept.Kept.{Kept}
use Rattle.melon_outside.specs.declared.kept.KeptBatch.{KeptBatch}
use Rattle.melon_outside.specs.declared.kept.OpenFault.{OpenFault}
use Rattle.melon_outside.specs.declared.kept.OpenFault.TheVariants.{BadRow, Version, Full, KeeperFault, Memory}
use Rattle.melon_board.specs.Carried.{Opens}
use Rattle.melon_board.specs.Opening.{open_plan}
use Rattle.melon_board.specs.Plans.{Plan, asked}
use Rattle.melon_board.specs.Stores.{SeenStore, store_key}
use Rattle.melon_script.specs.declared.item.Item.{Item}
use Rattle.melon_script.specs.declared.item.Item.TheVariants as items
use Rattle.melon_machine.specs.Calls.{Calls, asks, Begins, Follows, Meets, Interrupts}
use Rattle.melon_machine.specs.Refusals.{is_of_keeper, open_refusal, keeper_refusal}
use Rattle.melon_machine.specs.State.{KeptApp, kept_app, no_writers, as_kept}
use Rattle.melon_machine.specs.Apps.{row_count, with_opened, opens_by, opens_under}
use Rattle.melon_machine.specs.Outcomes.{Stepped, stepped}
use Rattle.melon_machine.proofs.Followed.{rose_none}
use Rattle.melon_world.specs.Handled.{IsHandled}
use Rattle.melon_world.proofs.Meeting.{asks_done, asks_failed, unasked}

module _ (before now : SeenKeeper) (later : Later before now) (name : List ℕ) (schema : SeenSchema) (apps : List KeptApp) where
  abbrev calls : Calls (Stepped (List KeptApp))
  calls = opens_under as_kept apps name (Ok schema)

  abbrev Ends : List KeptApp → Item → Type 0
  Ends left item = Meets calls before now (stepped left item)

  -- its count rose where it failed
  abbrev IsCaused : OpenFault → Type 0
  IsCaused fault = IsErrOf {T = SeenStore} (Err fault) KeeperFault → Rose before.faults now.faults

  opened : (store : SeenStore) → Opens before now name schema (Ok store) → Ends (apps ++ kept_app store no_writers [] ∷ []) (items.Open name (row_count store.rows) store.last)
  opened store h m holds =
      let kept = h.0 in
      let told = h.2.told m holds in
      let batch = asked (open_plan name schema kept) in
      let done = with_opened as_kept apps name store in
      let a = asks_done (store_key name) batch done (stepped apps keeper_refusal) told.0 m told.3 in (
        told.0,
        told.1,
        true ∷ done_of batch,
        (
          subst (λ (k : Kept). is_in_order k ≡ true) told.2 h.2.ordered,
          subst (λ (k : Kept). Follows (opens_by as_kept apps name (open_plan name schema k)) told.0 (done_of batch) done m) told.2
              (subst (λ (p : Result Plan OpenFault). Follows (opens_by as_kept apps name p) told.0 (done_of batch) done m) (sym h.1) a.0),
        ),
        omega (arith, a.1, later.count),
        h.3,
      )

  refused : (fault : OpenFault) (kept : Kept) → open_plan name schema kept ≡ Err fault → IsOver before now (store_key name) kept None → Answered (true ∷ []) before now → Ends apps (open_refusal fault)
  refused fault kept is over answered m holds =
      let told = over.told m holds in (
        told.0,
        told.1,
        true ∷ [],
        (
          subst (λ (k : Kept). is_in_order k ≡ true) told.2 over.ordered,
          subst (λ (k : Kept). Follows (opens_by as_kept apps name (open_plan name schema k)) told.0 [] (stepped apps (open_refusal fault)) m) told.2
              (subst (λ (p : Result Plan OpenFault). Follows (opens_by as_kept apps name p) told.0 [] (stepped apps (open_refusal fault)) m) (sym is) (refl, refl, told.3)),
        ),
        rose_none before.faults now.faults later.count,
        answered,
      )

  -- the load failed
  unloaded : HoldsAsBefore before now → Answered (false ∷ []) before now → Rose before.faults now.faults → Ends apps keeper_refusal
  unloaded held answered rose m holds = (let k = held m holds in (k.0, k.1, false ∷ [], (refl, refl, k.2), omega (arith, rose), answered))

  -- the commit failed
  unkept : (kept : Kept) (batch : KeptBatch) → asked (open_plan name schema kept) ≡ Some batch → IsOver before now (store_key name) kept None → Answered (true ∷ false ∷ []) before now → Rose before.faults now.faults → Ends apps keeper_refusal
  unkept kept batch is over answered rose m holds =
      let told = over.told m holds in (
        told.0,
        told.1,
        true ∷ false ∷ [],
        (
          subst (λ (k : Kept). is_in_order k ≡ true) told.2 over.ordered,
          subst (λ (k : Kept). Follows (opens_by as_kept apps name (open_plan name schema k)) told.0 (false ∷ []) (stepped apps keeper_refusal) m) told.2
              (by (open_plan name schema kept) is told.0 told.3),
        ),
        omega (arith, rose),
        answered,
      )
    where
      by : (p : Result Plan OpenFault) → asked p ≡ Some batch → (was : Stores) → AreSame m was → Follows (opens_by as_kept apps name p) was (false ∷ []) (stepped apps keeper_refusal) m
      by (Ok plan) is was same =
          subst (λ (b : Option KeptBatch). Follows (asks (store_key name) b (with_opened as_kept apps name plan.after) (stepped apps keeper_refusal)) was (false ∷ []) (stepped apps keeper_refusal) m) (sym is)
          (asks_failed (store_key name) batch (with_opened as_kept apps name plan.after) (stepped apps keeper_refusal) was m same)
      by (Err e) is was same = absurd (grind (arith, is))

  -- the one or the other
  failed : Opens before now name schema (Err KeeperFault) → Rose before.faults now.faults → Ends apps keeper_refusal
  failed (inl h) rose = unloaded h.0 h.1 rose
  failed (inr h) rose = unkept h.0 h.1 h.2 h.3 h.4 rose

  err_met : (fault : OpenFault) → fault ≢ Memory → Opens before now name schema (Err fault) → IsCaused fault → Ends apps (open_refusal fault)
  err_met (BadRow table id) apart h cause = refused (BadRow table id) h.0 h.1 h.2 h.3
  err_met (Version stored) apart h cause = refused (Version stored) h.0 h.1 h.2 h.3
  err_met (Full bytes) apart h cause = refused (Full bytes) h.0 h.1 h.2 h.3
  err_met KeeperFault apart h cause = failed h (cause refl)
  err_met Memory apart h cause = absurd (apart refl)

  over_held : (kept : Kept) → IsOver before now (store_key name) kept None → HoldsAsBefore before now
  over_held kept over m holds = (let told = over.told m holds in (told.0, told.1, told.3))

  failed_held : Opens before now name schema (Err KeeperFault) → HoldsAsBefore before now
  failed_held (inl h) = h.0
  failed_held (inr h) = over_held h.0 h.3

  err_held : (fault : OpenFault) → Opens before now name schema (Err fault) → HoldsAsBefore before now
  err_held (BadRow table id) h = over_held h.0 h.2
  err_held (Version stored) h = over_held h.0 h.2
  err_held (Full bytes) h = over_held h.0 h.2
  err_held KeeperFault h = failed_held h
  err_held Memory h = h.0

  -- the opening came as far as its load
  loaded : HoldsAsBefore before now → Answered (true ∷ []) before now → Interrupts calls before now
  loaded held answered m holds = (let k = held m holds in (k.0, k.1, k.2, true ∷ [], tt, rose_none before.faults now.faults later.count, answered))

  cut_unloaded : HoldsAsBefore before now → Answered (false ∷ []) before now → Rose before.faults now.faults → Interrupts calls before now
  cut_unloaded held answered rose m holds = (let k = held m holds in (k.0, k.1, k.2, false ∷ [], tt, omega (arith, rose), answered))

  cut_unkept : (kept : Kept) (batch : KeptBatch) → asked (open_plan name schema kept) ≡ Some batch → IsOver before now (store_key name) kept None → Answered (true ∷ false ∷ []) before now → Rose before.faults now.faults → Interrupts calls before now
  cut_unkept kept batch is over answered rose m holds =
      let told = over.told m holds in (
        told.0,
        told.1,
        told.3,
        true ∷ false ∷ [],
        subst (λ (k : Kept). Begins (false ∷ []) (opens_by as_kept apps name (open_plan name schema k)) told.0) told.2 (by (open_plan name schema kept) is told.0),
        omega (arith, rose),
        answered,
      )
    where
      by : (p : Result Plan OpenFault) → asked p ≡ Some batch → (was : Stores) → Begins (false ∷ []) (opens_by as_kept apps name p) was
      by (Ok plan) is was = subst (λ (b : Option KeptBatch). Begins (false ∷ []) (asks (store_key name) b (with_opened as_kept apps name plan.after) (stepped apps keeper_refusal)) was) (sym is) tt
      by (Err e) is was = absurd (grind (arith, is))

  failed_cut : Opens before now name schema (Err KeeperFault) → Rose before.faults now.faults → Interrupts calls before now
  failed_cut (inl h) rose = cut_unloaded h.0 h.1 rose
  failed_cut (inr h) rose = cut_unkept h.0 h.1 h.2 h.3 h.4 rose

  memory_cut : HoldsAsBefore before now → Answered [] before now ⊎ Answered (true ∷ []) before now → Interrupts calls before now
  memory_cut held (inl none) = unasked before now calls held later none
  memory_cut held (inr one) = loaded held one

  err_cut : (fault : OpenFault) → Opens before now name schema (Err fault) → IsCaused fault → Interrupts calls before now
  err_cut (BadRow table id) h cause = loaded (over_held h.0 h.2) h.3
  err_cut (Version stored) h cause = loaded (over_held h.0 h.2) h.3
  err_cut (Full bytes) h cause = loaded (over_held h.0 h.2) h.3
  err_cut KeeperFault h cause = failed_cut h (cause refl)
  err_cut Memory h cause = memory_cut h.0 h.1

  err_cause : (fault : OpenFault) → IsCaused fault → is_of_keeper (open_refusal fault) ≡ true → Rose before.faults now.faults
  err_cause (BadRow table id) cause is = absurd (grind (arith, is))
  err_cause (Version stored) cause is = absurd (grind (arith, is))
  err_cause (Full bytes) cause is = absurd (grind (arith, is))
  err_cause KeeperFault cause is = cause refl
  err_cause Memory cause is = absurd (grind (arith, is))

  pub handled_ok : {E : Type 0} (left : List KeptApp) (store : SeenStore) (said : List ℕ) (rows last : ℕ) → said ≡ name → Opens before now name schema (Ok store)
      → left ≡ apps ++ kept_app store no_writers [] ∷ [] → rows ≡ row_count store.rows → last ≡ store.last
      → IsHandled {E = E} calls (stepped left) is_of_keeper before now apps left (Ok (items.Open said rows last))
  handled_ok left store said rows last same h is rows_are last_is = record {
    met = subst (λ (l : List KeptApp). Ends l (items.Open said rows last)) (sym is) (subst (λ (n : List ℕ). Ends (apps ++ kept_app store no_writers [] ∷ []) (items.Open n rows last)) (sym same)
        (subst (λ (n : ℕ). Ends (apps ++ kept_app store no_writers [] ∷ []) (items.Open name n last)) (sym rows_are)
        (subst (λ (n : ℕ). Ends (apps ++ kept_app store no_writers [] ∷ []) (items.Open name (row_count store.rows) n)) (sym last_is) (opened store h))));
    same = tt;
    held = tt;
    interrupted = tt;
    later = later;
    cause = λ told. absurd (grind (arith, told));
  }

  pub handled_err : {E : Type 0} (left : List KeptApp) (fault : OpenFault) (result : Result Item E) → Opens before now name schema (Err fault) → IsCaused fault → left ≡ apps
      → IfOk result (λ item. item ≡ open_refusal fault) → IfOk result (λ _. fault ≢ Memory)
      → IsHandled calls (stepped left) is_of_keeper before now apps left result
  handled_err left fault (Ok item) h cause same is apart = record {
    met = subst (λ (l : List KeptApp). Ends l item) (sym same) (subst (Ends apps) (sym is) (err_met fault apart h cause));
    same = tt;
    held = tt;
    interrupted = tt;
    later = later;
    cause = λ told. err_cause fault cause (sym (ap is_of_keeper is) ∙ told);
  }
  handled_err left fault (Err e) h cause same is apart = record {
    met = tt;
    same = same;
    held = err_held fault h;
    interrupted = err_cut fault h cause;
    later = later;
    cause = tt;
  }
