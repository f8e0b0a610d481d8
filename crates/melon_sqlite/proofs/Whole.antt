-- The transaction, from BEGIN to COMMIT or ROLLBACK.
use Rattle.std.proofs.Common.{length, ◌≡◌, inl, inr, ℕ, true, false, List, [], codes, Ok, Err, Result, Option, refl, sym, ap, ◌∙◌, subst, IsTrue, arith, true≢false}
use Rattle.sqlite_trees.specs.Tree.{Trees}
use Rattle.sqlite_schema.specs.declared.command.Command.TheVariants.{Begin, Commit, Rollback}
use Rattle.sqlite.specs.Listing.{understood}
use Rattle.sqlite.specs.State.{State, HasCleanDisk, Survives, CommitsBy, Executes, ExecutesIn, shows_rows, IsNotRun, IsRolledBack}
use Rattle.sqlite.specs.declared.error.Error.{Error}
use Rattle.sqlite.proofs.Callers.{command_of, IsPlain, runs_as}
use Rattle.sqlite.proofs.StateLemmas.{survives_then, survives_weaker}
use Rattle.melon_outside.specs.declared.kept.Kept.{Kept}
use Rattle.melon_outside.specs.Keeping.{Changes}
use Rattle.melon_sqlite.specs.Contents.{IsKept, stores_in}
use Rattle.melon_sqlite.specs.Statements.{Undone, StaysShut}
use Rattle.melon_sqlite.specs.Tables.{kept_schema}
use Rattle.melon_sqlite.specs.Transactions.{Ready, Inside, Fell, NoCommit, Idle, Begins, Finishes, Abandons, IsOverKept, Whole}
use Rattle.melon_sqlite.proofs.Texts.{begin_is, begin_plain, commit_is, commit_plain, rollback_is, rollback_plain, IsAlone, rollback_alone}
use Rattle.melon_sqlite.proofs.Opens.{failed, executes_open}
use Rattle.melon_sqlite.proofs.Inside.{fell}

abbrev pub begin_text : List ℕ
begin_text = codes "BEGIN"

abbrev pub commit_text : List ℕ
commit_text = codes "COMMIT"

abbrev pub rollback_text : List ℕ
rollback_text = codes "ROLLBACK"

pub begins : (old new : State) (r : Result ℕ Error) → Executes begin_text [] old new r → Begins old new r
begins old new (Err e) h = (executes_open begin_text [] old new (Err e) h, failed begin_text [] old new e h)
begins old new (Ok count) h = (
  executes_open begin_text [] old new (Ok count) h,
  λ I.
      let w = runs_as begin_text [] old new kept_schema I.kept.schema Begin begin_is begin_plain count h in (
        record { kept = subst IsKept (sym w.1.now_is) I.kept; base = subst IsKept (sym (w.1.committed_is ∙ I.settled)) I.kept; is_open = w.1.is_open; inside = w.1.mode },
        w.1.now_is,
        w.1.committed_is ∙ I.settled,
      ),
)

-- COMMIT after the statements
pub ends : (f : Kept → Kept) (store : List ℕ) (old mid new : State) (r : Result ℕ Error) → StaysShut old mid × (Ready old → Inside f store old mid) → Executes commit_text [] mid new r → Finishes f store old new r
ends f store old mid new (Err e) p h = (λ o. p.0 (executes_open commit_text [] mid new (Err e) h o), λ R. let i = p.1 R in Rattle.melon_sqlite.proofs.Inside.inside_fell f store old mid new i (fell mid new (failed commit_text [] mid new e h) i.ready))
ends f store old mid new (Ok count) p h = (
  λ o. p.0 (executes_open commit_text [] mid new (Ok count) h o),
  λ R.
      let i = p.1 R in
      let w = runs_as commit_text [] mid new kept_schema i.ready.kept.schema Commit commit_is commit_plain count h in (
        record { kept = subst IsKept (sym w.1.now_is) i.ready.kept; is_open = w.1.is_open; outside = w.1.mode; settled = w.1.committed_is ∙ sym w.1.now_is },
        (ap (λ (d : Rattle.sqlite.specs.Effect.Database). stores_in d.trees store) w.1.now_is ∙ i.changes.0, λ other apart. ap (λ (d : Rattle.sqlite.specs.Effect.Database). stores_in d.trees other) w.1.now_is ∙ i.changes.1 other apart),
      ),
)

-- a ROLLBACK over the two tables ends the transaction, also where it fails
rolled_back : (old new : State) (e : Error) → old.now.schema ≡ kept_schema → old.in_transaction ≡ true → Executes rollback_text [] old new (Err e) → IsRolledBack old new
unfolding ExecutesIn IsNotRun
rolled_back old new e has inside (inl (inl h)) = absurd (elim h.0 [
  | inl fault ↦ subst IsPlain (ap (λ s. understood s rollback_text) (sym has) ∙ fault.1) rollback_plain
  | inr it ↦
      let is = ap (λ s. understood s rollback_text) (sym has) ∙ it.1 in
      let alone = subst (IsAlone rollback_text) is rollback_alone in
      elim it.2 [ inl cut ↦ cut.0 alone.1 | inr more ↦ elim more [ inl other ↦ other.0 (sym (ap length alone.0)) | inr late ↦ late.0 (subst IsPlain is rollback_plain).1 ] ]
])
rolled_back old new e has inside (inl (inr h)) = h.3
rolled_back old new e has inside (inr h) =
    let is = ap (λ s. understood s rollback_text) (sym has) ∙ h.1.is in
    let plain = subst IsPlain is rollback_plain in
    let known : h.0.command ≡ Rollback = sym (ap command_of is) ∙ rollback_is in
    let quiet : shows_rows false h.0 ≡ false = rw (known, plain.0) refl in
    elim (rw quiet at h.2) [
      | inl refused ↦ absurd (elim refused.0 [
        | inl misplaced ↦ elim misplaced [
          | inl state ↦ elim state.1 [ inl opens ↦ (let x = sym known ∙ opens.0 in cc) | inr none ↦ true≢false (sym inside ∙ none.1) ]
          | inr point ↦ elim point.2 [ inl released ↦ (let x = sym known ∙ released in cc) | inr back ↦ (let x = sym known ∙ back in cc) ]
        ]
        | inr changes ↦ elim changes.0 [ inl writes ↦ (rw known at writes) | inr returns ↦ true≢false (sym (rw plain.0 at returns)) ]
      ])
      | inr broke ↦ broke.3
    ]

abandoned : (old new : State) → IsRolledBack old new → Abandons old new
abandoned old new rb = record { was_open = rb.was_open; ended = rb.autocommit; committed = λ o. (rb.undone o).1; undone = λ o. inr (rb.undone o).0 }

pub rolls : (old new : State) (r : Result ℕ Error) → Executes rollback_text [] old new r → old.in_transaction ≡ true → IsOverKept old → Abandons old new
rolls old new (Err e) h inside kept = abandoned old new (rolled_back old new e (kept inside).schema inside h)
rolls old new (Ok count) h inside kept = abandoned old new (runs_as rollback_text [] old new kept_schema (kept inside).schema Rollback rollback_is rollback_plain count h).1

pub rolls_open : (old new : State) (r : Result ℕ Error) → Executes rollback_text [] old new r → StaysShut old new
rolls_open old new r h = executes_open rollback_text [] old new r h

pub same_abandoned : (s : State) → s.in_transaction ≡ false → Abandons s s
same_abandoned s outside = record { was_open = λ o. o; ended = outside; committed = λ _. refl; undone = λ _. inl (outside, refl) }

-- ---- all of it or nothing

pub committed_whole : (f : Kept → Kept) (store : List ℕ) (old mid new : State) → (Idle old → Ready mid × (mid.now ≡ old.now) × (mid.committed ≡ old.now))
    → (Ready mid → Idle new × Changes f store (stores_in mid.now.trees) (stores_in new.now.trees)) → Idle old → Idle new × Changes f store (stores_in old.now.trees) (stores_in new.now.trees)
committed_whole f store old mid new b e I =
    let p = b I in
    let q = e p.0 in
    (q.0, subst (λ (d : Rattle.sqlite.specs.Effect.Database). Changes f store (stores_in d.trees) (stores_in new.now.trees)) p.1 q.1)

pub failed_whole : (old mid late new : State) → (Idle old → Ready mid × (mid.now ≡ old.now) × (mid.committed ≡ old.now)) → (Ready mid → Fell mid late) → (IsOverKept late → Abandons late new)
    → Idle old → IsTrue new.is_open → Idle new × (new.now ≡ old.now)
failed_whole old mid late new b e ab I o =
    let p = b I in
    let q = e p.0 in
    let a = ab q.kept in
    let late_open = a.was_open o in
    let base : new.committed ≡ old.now = a.committed o ∙ q.committed late_open ∙ p.2 in
    let now : new.now ≡ old.now = elim (a.undone o) [
      | inl still ↦ still.1 ∙ q.undone still.0 late_open ∙ p.2
      | inr undone ↦ undone ∙ q.committed late_open ∙ p.2
    ] in
    (record { kept = subst IsKept (sym now) I.kept; is_open = o; outside = a.ended; settled = base ∙ sym now }, now)

pub not_begun : (old new : State) → Undone old new → Idle old → IsTrue new.is_open → Idle new × (new.now ≡ old.now)
not_begun old new (inl u) I o =
    (record { kept = subst IsKept (sym u.0.now_is) I.kept; is_open = o; outside = u.0.mode ∙ I.outside; settled = u.0.committed_is ∙ I.settled ∙ sym u.0.now_is }, u.0.now_is)
not_begun old new (inr rb) I o =
    let now = (rb.undone o).0 ∙ I.settled in
    (record { kept = subst IsKept (sym now) I.kept; is_open = o; outside = rb.autocommit; settled = (rb.undone o).1 ∙ I.settled ∙ sym now }, now)

-- ---- crashes

pub commit_leaves : (s : State) (db : Trees) → CommitsBy commit_text [] s db → Ready s → db ≡ s.now.trees
unfolding CommitsBy
commit_leaves s db h R = elim h.2 [ inl ends ↦ ends.1 | inr writes ↦ absurd (true≢false (sym R.inside ∙ writes.0)) ]

pub finish_safe : (f : Kept → Kept) (store : List ℕ) (old mid new : State) → Survives old mid (NoCommit old) → (HasCleanDisk mid → StaysShut old mid × (Ready old → Inside f store old mid))
    → Survives mid new (CommitsBy commit_text [] mid) → Survives old new (Whole f store Ready old)
finish_safe f store old mid new p m q = survives_then old mid new _ _ (Whole f store Ready old) (λ _ db none R. absurd (none R))
    (λ clean db by R.
    let i = (m (omega (arith, clean, q.clean))).1 R in
    subst (λ (t : Trees). Changes f store (stores_in old.now.trees) (stores_in t)) (sym (commit_leaves mid db by i.ready)) i.changes) p q

pub write_safe : (f : Kept → Kept) (store : List ℕ) (old new : State) → Survives old new (NoCommit old) → Survives old new (Whole f store Ready old)
write_safe f store old new = survives_weaker old new _ (Whole f store Ready old) (λ _ db none R. absurd (none R))

pub begin_leaves : (s : State) (db : Trees) → CommitsBy begin_text [] s db → Idle s → ⊥
unfolding CommitsBy
begin_leaves s db h I =
    let plain = subst IsPlain (ap (λ c. understood c begin_text) (sym I.kept.schema) ∙ h.1.is) begin_plain in
    let known : h.0.command ≡ Begin = sym (ap command_of (sym (ap (λ c. understood c begin_text) I.kept.schema) ∙ h.1.is)) ∙ begin_is in
    elim h.2 [
      | inl ends ↦ elim ends.0 [ inl e ↦ absurd (let x = sym known ∙ e in cc) | inr r ↦ absurd (let x = sym known ∙ r.2 in cc) ]
      | inr writes ↦ let d = rw (known, plain.0) at writes.3 in absurd (let e : ◌≡◌ {A = Result _ (Option Error)} (Ok _) (Err _) = d in cc)
    ]

pub rollback_leaves : (s : State) (db : Trees) → s.in_transaction ≡ true → CommitsBy rollback_text [] s db → IsKept s.now → ⊥
unfolding CommitsBy
rollback_leaves s db inside h K =
    let known : h.0.command ≡ Rollback = sym (ap command_of (sym (ap (λ c. understood c rollback_text) K.schema) ∙ h.1.is)) ∙ rollback_is in
    elim h.2 [
      | inl ends ↦ elim ends.0 [ inl e ↦ absurd (let x = sym known ∙ e in cc) | inr r ↦ absurd (let x = sym known ∙ r.2 in cc) ]
      | inr writes ↦ true≢false (sym inside ∙ writes.0)
    ]

pub ok_safe : (f : Kept → Kept) (store : List ℕ) (old mid new : State) → Survives old mid (λ _. Idle old → ⊥) → (HasCleanDisk mid → StaysShut old mid × (Idle old → Ready mid × (mid.now ≡ old.now) × (mid.committed ≡ old.now)))
    → Survives mid new (Whole f store Ready mid) → Survives old new (Whole f store Idle old)
ok_safe f store old mid new p b q = survives_then old mid new _ _ (Whole f store Idle old) (λ _ db none I. absurd (none I))
    (λ clean db whole I.
    let x = (b (omega (arith, clean, q.clean))).1 I in
    subst (λ (d : Rattle.sqlite.specs.Effect.Database). Changes f store (stores_in d.trees) (stores_in db)) x.1 (whole x.0)) p q

pub err_safe : (f : Kept → Kept) (store : List ℕ) (old mid late new : State) → Survives old mid (λ _. Idle old → ⊥) → (HasCleanDisk mid → StaysShut old mid × (Idle old → Ready mid × (mid.now ≡ old.now) × (mid.committed ≡ old.now)))
    → Survives mid late (Whole f store Ready mid) → (HasCleanDisk late → StaysShut mid late × (Ready mid → Fell mid late)) → Survives late new (λ _. IsOverKept late → ⊥) → Survives old new (Whole f store Idle old)
err_safe f store old mid late new p b q e r = survives_then old late new _ _ (Whole f store Idle old) (λ _ db h. h)
    (λ clean db none I. absurd (none ((e (omega (arith, clean, r.clean))).1 ((b (omega (arith, clean, r.clean, q.clean))).1 I).0).kept)) (ok_safe f store old mid late p b q) r

pub begin_safe : (f : Kept → Kept) (store : List ℕ) (old new : State) → Survives old new (λ _. Idle old → ⊥) → Survives old new (Whole f store Idle old)
begin_safe f store old new = survives_weaker old new _ (Whole f store Idle old) (λ _ db none I. absurd (none I))
