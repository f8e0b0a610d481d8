-- What the answers of a backend are for every log for which it stands.
use Rattle.std.proofs.Common.{◌≡◌, ℕ, List, true, Option, Some, None, Result, Ok, Err, IfOk, sym, ap, ◌∙◌, subst}
use Rattle.melon_schema.specs.Seen.{SeenSchema}
use Rattle.melon_outside.specs.declared.kept.KeptBatch.{KeptBatch}
use Rattle.melon_outside.specs.declared.kept.OpenFault.{OpenFault}
use Rattle.melon_outside.specs.Keeping.{Stores}
use Rattle.melon_wire.specs.declared.changes.TableChanges.{TableChanges}
use Rattle.melon_wire.specs.declared.changes.Changes as wire
use Rattle.melon_wire.specs.Forms.{names_ascend}
use Rattle.melon_log.specs.declared.fault.PushFault.{PushFault}
use Rattle.melon_log.specs.Log.{Log, after_push}
use Rattle.melon_log.specs.Verdict.{verdict}
use Rattle.melon_log.specs.Laws.{NamesApart}
use Rattle.melon_backend.specs.Backends.{SeenBackend, Plan, asked, open_plan}
use Rattle.melon_backend.specs.Pushing.{push_plan}
use Rattle.melon_backend.specs.Pushed.{IsPushed, IsVerdict}
use Rattle.melon_outside.specs.SeenKeeper.{SeenKeeper}
use Rattle.melon_outside.specs.Asking.{IsDone, IsDoneOnOk}
use Rattle.melon_backend.specs.Carried.{Opens}
use Rattle.melon_backend.specs.Standing.{Stands, opened_log}
use Rattle.melon_backend.specs.Keeps.{KeepsLog, KeepsOn, kept_after, log_after}
use Rattle.melon_backend.proofs.OpenedRows.{open_plan-is}
use Rattle.melon_backend.proofs.Planning.{verdict_from, same_after}
use Rattle.melon_backend.proofs.Stood.{verdict_is, push_follows}
use Rattle.melon_backend.proofs.KeptLogs.{push_keeps_log, opening_begins}

-- what is kept under the name once the batch is done, and of the other stores
done_is : (batch : Option KeptBatch) (name : List ℕ) (was now : Stores) → IsDone batch name was now → (now name ≡ kept_after batch (was name)) × ((other : List ℕ) → (name ≡ other → ⊥) → now other ≡ was other)
done_is None name was now same = (same name, λ other apart. same other)
done_is (Some batch) name was now done = done

-- ---- a push

module _ (g : Log) (b : SeenBackend) (t : ℕ) (c : wire.Changes) (s : Stands g b) where
  pub log_verdict : (now : SeenBackend) (r : Result ℕ PushFault) → IsPushed (push_plan b t c) b now r → IsVerdict (verdict g t c) r
  log_verdict now r h = subst (λ v. IsVerdict v r) (verdict_is g b t c s) (verdict_from b t c now r h)

  module _ (up : names_ascend (λ (u : TableChanges). u.table) c.tables ≡ true) where
    pub log_stands : (now : SeenBackend) (r : Result ℕ PushFault) → IsPushed (push_plan b t c) b now r → Stands (log_after g c r) now
    log_stands now (Ok revision) h = push_follows g b t c (record { batch = asked (push_plan b t c); after = now }) up s h.0
    log_stands now (Err f) h = subst (Stands g) (sym (same_after (push_plan b t c) b now f h)) s

    keeps_on : (now : SeenBackend) (r : Result ℕ PushFault) (was m : Stores) → IsPushed (push_plan b t c) b now r → IsDoneOnOk (asked (push_plan b t c)) b.name r was m → KeepsOn b.name b.schema.version g (log_after g c r) was m
    keeps_on now (Ok revision) was m h done =
        let is = done_is (asked (push_plan b t c)) b.name was m done in
        record {
          own = λ k. subst (KeepsLog (after_push g c) b.schema.version) (sym is.0) (push_keeps_log g b t c (record { batch = asked (push_plan b t c); after = now }) (was b.name) up s k h.0);
          others = is.1;
        }
    keeps_on now (Err f) was m h same = record {
      own = λ k. subst (KeepsLog g b.schema.version) (sym (same b.name)) k;
      others = λ other apart. same other;
    }

    pub log_keeps : (Before Now : Stores → Type 0) (now : SeenBackend) (r : Result ℕ PushFault) → IsPushed (push_plan b t c) b now r → ((m : Stores) → Now m → (was : Stores) × Before was × IsDoneOnOk (asked (push_plan b t c)) b.name r was m) → (m : Stores) → Now m
        → (was : Stores) × Before was × KeepsOn b.name b.schema.version g (log_after g c r) was m
    log_keeps Before Now now r h kept m held = let k = kept m held in (k.0, k.1, keeps_on now r k.0 m h k.2)

-- ---- an opening

module _ (before now : SeenKeeper) (name : List ℕ) (schema : SeenSchema) (apart : NamesApart schema.tables) where
  pub opens_stands : (r : Result SeenBackend OpenFault) → Opens before now name schema r → IfOk r (λ b. Stands (opened_log b) b)
  opens_stands (Ok b) h = (opening_begins name schema h.0 (record { batch = asked (open_plan name schema h.0); after = b }) apart h.2.ordered h.1).stands
  opens_stands (Err f) h = tt

  pub opens_keeps : (m : Stores) → now.holds m → (r : Result SeenBackend OpenFault) → Opens before now name schema r → IfOk r (λ b. KeepsLog (opened_log b) schema.version (m name))
  opens_keeps m held (Ok b) h =
      let kept = h.0 in
      let plan : Plan = record { batch = asked (open_plan name schema kept); after = b } in
      let begins = opening_begins name schema kept plan apart h.2.ordered h.1 in
      let told = h.2.told m held in
      let done = done_is plan.batch name told.0 m told.3 in
      let there : m name ≡ kept_after plan.batch kept = done.0 ∙ ap (kept_after plan.batch) (sym told.2) in
      let version : b.schema.version ≡ schema.version = sym (ap (λ (p : Plan). p.after.schema.version) (open_plan-is name schema kept plan h.1).is) in
      subst (λ (v : ℕ). KeepsLog (opened_log b) v (m name)) version (subst (KeepsLog (opened_log b) b.schema.version) (sym there) begins.keeps)
  opens_keeps m held (Err f) h = tt
