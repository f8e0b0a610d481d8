-- A batch that was written or refused.
use Rattle.std.proofs.Common.{◌≡◌, ◌≢◌, ℕ, List, [], ◌∷◌, true, false, length, refl, ap, sym, ◌∙◌, subst, arith}
use Rattle.std.specs.Prelude.{Option, Some, Result, Ok, Err}
use Rattle.melon_outside.specs.Asking.{Asks, IsDoneOnOk, HoldsAsBefore, done_of}
use Rattle.melon_outside.specs.Causes.{Rose}
use Rattle.melon_outside.specs.Keeping.{Stores}
use Rattle.melon_outside.specs.SeenKeeper.{SeenKeeper, Answered}
use Rattle.melon_outside.specs.declared.kept.KeptBatch.{KeptBatch}
use Rattle.melon_change.specs.declared.rule.BatchFault.{BatchFault}
use Rattle.melon_change.specs.declared.rule.BatchFault.TheVariants as rules
use Rattle.melon_board.specs.Carried.{IsWritten}
use Rattle.melon_board.specs.Plans.{Plan, asked}
use Rattle.melon_board.specs.Stores.{SeenStore, store_key}
use Rattle.melon_board.specs.declared.fault.WriteFault.{WriteFault}
use Rattle.melon_board.specs.declared.fault.WriteFault.TheVariants.{Batch, StoreFull, SessionFull, KeeperFault, Memory}
use Rattle.melon_script.specs.declared.item.Item.{Item}
use Rattle.melon_script.specs.declared.item.Item.TheVariants as items
use Rattle.melon_machine.specs.Calls.{Calls, Done, asks, RoseBy, Begins, Follows, Meets, Interrupts}
use Rattle.melon_machine.specs.Refusals.{is_of_keeper, write_refusal, batch_refusal, keeper_refusal}
use Rattle.melon_machine.specs.State.{KeptApp, kept_app, as_kept}
use Rattle.melon_machine.specs.Apps.{Told, told, writes_by}
use Rattle.melon_machine.proofs.Followed.{rose_none}
use Rattle.melon_world.specs.Handled.{IsHandled, Tells}
use Rattle.melon_world.proofs.Meeting.{asks_done, asks_failed, met_quietly, unasked}

-- a broken rule isn't told as the keeper's failure
rule_apart : (fault : BatchFault) → is_of_keeper (batch_refusal fault) ≡ true → ⊥
rule_apart (rules.UnknownTable op table id) h = grind (arith, h)
rule_apart (rules.UnknownColumn op table id column) h = grind (arith, h)
rule_apart (rules.BadId op table id) h = grind (arith, h)
rule_apart (rules.Twice op table id) h = grind (arith, h)
rule_apart (rules.Taken op table id) h = grind (arith, h)
rule_apart (rules.NoRow op table id) h = grind (arith, h)
rule_apart (rules.LongText op table id column) h = grind (arith, h)
rule_apart (rules.TooMany count) h = grind (arith, h)
rule_apart rules.Memory h = grind (arith, h)

module _ (before now : SeenKeeper) (name : List ℕ) (was : KeptApp) (plan : Result Plan WriteFault) where
  -- how the keeper was asked for what is planned
  abbrev IsAsked : Result ℕ WriteFault → Type 0
  IsAsked result = Asks (asked plan) (store_key was.store.name) KeeperFault result before now

  abbrev calls : Calls (Told KeptApp)
  calls = writes_by as_kept name was plan

  abbrev Ends : SeenStore → Item → Type 0
  Ends left item = Meets calls before now (told (kept_app left was.queue was.observers) item)

  pub written : (left : SeenStore) (at : ℕ) → IsWritten plan was.store left (Ok at) → IsAsked (Ok at) → Ends left (items.Write name at)
  written left at h asks m holds =
      let k = asks.kept m holds in
      let done = told (kept_app left was.queue was.observers) (items.Write name (length left.entries)) in
      let a = asks_done (store_key was.store.name) (asked plan) done (told was keeper_refusal) k.0 m k.2 in (
        k.0,
        k.1,
        done_of (asked plan),
        subst (λ (n : ℕ). Follows calls k.0 (done_of (asked plan)) (told (kept_app left was.queue was.observers) (items.Write name n)) m) (sym h.1)
            (subst (λ (p : Result Plan WriteFault). Follows (writes_by as_kept name was p) k.0 (done_of (asked plan)) done m) (sym h.0) a.0),
        subst (λ (n : ℕ). RoseBy n before.faults now.faults) (sym a.1) (rose_none before.faults now.faults asks.later.count),
        asks.done,
      )

  held : (fault : WriteFault) → IsAsked (Err fault) → HoldsAsBefore before now
  held fault asks = asks.kept

  -- a refusal that the plan gives
  refused : (left : SeenStore) (fault : WriteFault) → plan ≡ Err fault → left ≡ was.store → IsAsked (Err fault) → Answered [] before now → Ends left (write_refusal fault)
  refused left fault is same asks none =
      subst (λ (p : Result Plan WriteFault). Meets (writes_by as_kept name was p) before now (told (kept_app left was.queue was.observers) (write_refusal fault))) (sym is)
      (subst (λ (s : SeenStore). Meets (Done (told was (write_refusal fault))) before now (told (kept_app s was.queue was.observers) (write_refusal fault))) (sym same)
      (met_quietly before now (told was (write_refusal fault)) (held fault asks) asks.later none))

  -- the keeper failed
  failed : (left : SeenStore) (p : Result Plan WriteFault) (batch : KeptBatch) → asked p ≡ Some batch → left ≡ was.store → HoldsAsBefore before now → Rose before.faults now.faults → Answered (false ∷ []) before now
      → Meets (writes_by as_kept name was p) before now (told (kept_app left was.queue was.observers) keeper_refusal)
  failed left (Ok p) batch is same held rose answered m holds = (
      let k = held m holds in (
        k.0,
        k.1,
        false ∷ [],
        subst (λ (s : SeenStore). Follows (writes_by as_kept name was (Ok p)) k.0 (false ∷ []) (told (kept_app s was.queue was.observers) keeper_refusal) m) (sym same)
            (subst (λ (b : Option KeptBatch). Follows (asks (store_key was.store.name) b (told (kept_app p.after was.queue was.observers) (items.Write name (length p.after.entries))) (told was keeper_refusal)) k.0 (false ∷ []) (told was keeper_refusal) m) (sym is)
            (asks_failed (store_key was.store.name) batch (told (kept_app p.after was.queue was.observers) (items.Write name (length p.after.entries))) (told was keeper_refusal) k.0 m k.2)),
        omega (arith, rose),
        answered,
      ))
  failed left (Err e) batch is same held rose answered m holds = absurd (grind (arith, is))

  err_met : (left : SeenStore) (fault : WriteFault) → fault ≢ Memory → IsWritten plan was.store left (Err fault) → IsAsked (Err fault) → Ends left (write_refusal fault)
  err_met left (Batch rule) apart h asks = refused left (Batch rule) h.0 h.1 asks (asks.other (λ e. grind (arith, e)))
  err_met left (StoreFull bytes) apart h asks = refused left (StoreFull bytes) h.0 h.1 asks (asks.other (λ e. grind (arith, e)))
  err_met left (SessionFull bytes) apart h asks = refused left (SessionFull bytes) h.0 h.1 asks (asks.other (λ e. grind (arith, e)))
  err_met left KeeperFault apart h asks = failed left plan h.0.0 h.0.1 h.1 (held KeeperFault asks) (asks.cause refl) (asks.failed refl).1
  err_met left Memory apart h asks = absurd (apart refl)

  err_same : (left : SeenStore) (fault : WriteFault) → IsWritten plan was.store left (Err fault) → left ≡ was.store
  err_same left (Batch rule) h = h.1
  err_same left (StoreFull bytes) h = h.1
  err_same left (SessionFull bytes) h = h.1
  err_same left KeeperFault h = h.1
  err_same left Memory h = h

  -- ---- want of memory

  none_asked : (fault : WriteFault) → fault ≢ KeeperFault → IsAsked (Err fault) → Interrupts calls before now
  none_asked fault apart asks = unasked before now calls (held fault asks) asks.later (asks.other apart)

  cut_failed : (batch : KeptBatch) → asked plan ≡ Some batch → HoldsAsBefore before now → Rose before.faults now.faults → Answered (false ∷ []) before now → Interrupts calls before now
  cut_failed batch is held rose answered m holds = (let k = held m holds in (k.0, k.1, k.2, false ∷ [], by plan is k.0, omega (arith, rose), answered))
    where
      by : (p : Result Plan WriteFault) → asked p ≡ Some batch → (kept : Stores) → Begins (false ∷ []) (writes_by as_kept name was p) kept
      by (Ok p) is kept = subst (λ (b : Option KeptBatch). Begins (false ∷ []) (asks (store_key was.store.name) b (told (kept_app p.after was.queue was.observers) (items.Write name (length p.after.entries))) (told was keeper_refusal)) kept) (sym is) tt
      by (Err e) is kept = absurd (grind (arith, is))

  err_cut : (fault : WriteFault) → IsAsked (Err fault) → Interrupts calls before now
  err_cut (Batch rule) asks = none_asked (Batch rule) (λ e. grind (arith, e)) asks
  err_cut (StoreFull bytes) asks = none_asked (StoreFull bytes) (λ e. grind (arith, e)) asks
  err_cut (SessionFull bytes) asks = none_asked (SessionFull bytes) (λ e. grind (arith, e)) asks
  err_cut KeeperFault asks = (let f = asks.failed refl in cut_failed f.0.0 f.0.1 (held KeeperFault asks) (asks.cause refl) f.1)
  err_cut Memory asks = none_asked Memory (λ e. grind (arith, e)) asks

  err_cause : (fault : WriteFault) → fault ≢ Memory → IsAsked (Err fault) → is_of_keeper (write_refusal fault) ≡ true → Rose before.faults now.faults
  err_cause (Batch rule) apart asks is = absurd (rule_apart rule is)
  err_cause (StoreFull bytes) apart asks is = absurd (grind (arith, is))
  err_cause (SessionFull bytes) apart asks is = absurd (grind (arith, is))
  err_cause KeeperFault apart asks is = asks.cause refl
  err_cause Memory apart asks is = absurd (apart refl)

  pub handled : {E : Type 0} (left : SeenStore) (said : List ℕ) (done : Result ℕ WriteFault) (result : Result Item E) → said ≡ name → IsWritten plan was.store left done → IsAsked done → Tells said done result
      → IsHandled calls (told (kept_app left was.queue was.observers)) is_of_keeper before now was (kept_app left was.queue was.observers) result
  handled left said (Ok at) (Ok item) same h asks is = record {
    met = subst (Ends left) (sym is) (subst (λ (n : List ℕ). Ends left (items.Write n at)) (sym same) (written left at h asks));
    same = tt;
    held = tt;
    interrupted = tt;
    later = asks.later;
    cause = λ told. absurd (grind (arith, sym (ap is_of_keeper is) ∙ told));
  }
  handled left said (Ok at) (Err e) same h asks is = absurd is
  handled left said (Err fault) (Ok item) same h asks is = record {
    met = subst (Ends left) (sym is.0) (err_met left fault is.1 h asks);
    same = tt;
    held = tt;
    interrupted = tt;
    later = asks.later;
    cause = λ told. err_cause fault is.1 asks (sym (ap is_of_keeper is.0) ∙ told);
  }
  handled left said (Err fault) (Err e) same h asks is = record {
    met = tt;
    same = ap (λ (s : SeenStore). kept_app s was.queue was.observers) (err_same left fault h);
    held = held fault asks;
    interrupted = err_cut fault asks;
    later = asks.later;
    cause = tt;
  }
