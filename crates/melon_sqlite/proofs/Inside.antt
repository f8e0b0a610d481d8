-- Statements inside a transaction, one after another.
use Rattle.std.proofs.Common.{◌≡◌, inl, inr, ℕ, ◌+◌, ◌<◌, ◌≤◌, length, drop, get_or, drop-cons, add-one, List, [], ◌∷◌, Ok, Err, Result, refl, sym, ap, ◌∙◌, subst, arith, true≢false}
use Rattle.sqlite_value.specs.Order.{Row}
use Rattle.sqlite_trees.specs.Tree.{Trees}
use Rattle.sqlite_schema.specs.declared.command.Command.{Command}
use Rattle.sqlite_schema.specs.declared.command.Command.TheVariants.{Commit, Release}
use Rattle.sqlite.specs.Listing.{understood}
use Rattle.sqlite.specs.State.{State, HasCleanDisk, Survives, CommitsBy}
use Rattle.sqlite.specs.declared.error.Error.{Error}
use Rattle.sqlite.proofs.Callers.{command_of}
use Rattle.sqlite.proofs.StateLemmas.{survives_then, survives_weaker}
use Rattle.melon_outside.specs.declared.kept.Kept.{Kept}
use Rattle.melon_sqlite.specs.Contents.{IsKept, stores_in}
use Rattle.melon_sqlite.specs.Statements.{Does, Did, Undone, StaysShut}
use Rattle.melon_sqlite.specs.Tables.{kept_schema, put_text, put_value_text, clear_text, remove_text}
use Rattle.melon_sqlite.specs.Transactions.{Ready, Inside, Fell, Moves, NoCommit, Looping}
use Rattle.melon_sqlite.proofs.Texts.{put_command, put_is, value_command, value_is, clear_command, clear_is, remove_command, remove_is}

pub moves_ok : (f : Kept → Kept) (store : List ℕ) (old new : State) → (IsKept old.now → Did f store old new) → Ready old → Inside f store old new
moves_ok f store old new h R =
    let d = h R.kept in
    let same : new.committed ≡ old.committed = rw R.inside at d.shown.committed_is in
    record {
      ready = record { kept = d.kept; base = subst IsKept (sym same) R.base; is_open = d.shown.is_open; inside = d.shown.mode ∙ R.inside };
      was_open = R.is_open;
      changes = d.changes;
      committed = same;
    }

pub fell : (old new : State) → Undone old new → Ready old → Fell old new
fell old new (inl u) R = record {
  was_open = λ _. u.0.was_open;
  committed = λ _. u.0.committed_is;
  undone = λ none _. absurd (true≢false (sym (u.0.mode ∙ R.inside) ∙ none));
  kept = λ _. subst IsKept (sym u.0.now_is) R.kept;
}
fell old new (inr rb) R = record { was_open = rb.was_open; committed = λ o. (rb.undone o).1; undone = λ _ o. (rb.undone o).0; kept = λ inside. absurd (true≢false (sym inside ∙ rb.autocommit)) }

pub does_moves : {T : Type 0} (f : Kept → Kept) (store : List ℕ) (old new : State) (r : Result T Error) → Does f store old new r → Moves f store old new r
does_moves f store old new (Ok x) h = (h.0, moves_ok f store old new h.1)
does_moves f store old new (Err e) h = (h.0, fell old new h.1)

pub inside_start : (store : List ℕ) (s : State) → Ready s → Inside (λ k. k) store s s
inside_start store s R = record { ready = R; was_open = R.is_open; changes = (refl, λ other _. refl); committed = refl }

pub inside_then : (f g : Kept → Kept) (store : List ℕ) (a b c : State) → Inside f store a b → Inside g store b c → Inside (λ k. g (f k)) store a c
inside_then f g store a b c p q = record {
  ready = q.ready;
  was_open = p.was_open;
  changes = (q.changes.0 ∙ ap g p.changes.0, λ other apart. q.changes.1 other apart ∙ p.changes.1 other apart);
  committed = q.committed ∙ p.committed;
}

pub inside_fell : (f : Kept → Kept) (store : List ℕ) (a b c : State) → Inside f store a b → Fell b c → Fell a c
inside_fell f store a b c p q = record {
  was_open = λ o. p.was_open;
  committed = λ o. q.committed o ∙ p.committed;
  undone = λ none o. q.undone none o ∙ p.committed;
  kept = q.kept;
}

pub inside_same : (f g : Kept → Kept) (store : List ℕ) (a b : State) → ((k : Kept) → f k ≡ g k) → Inside f store a b → Inside g store a b
inside_same f g store a b e p = record { ready = p.ready; was_open = p.was_open; changes = (p.changes.0 ∙ e (stores_in a.now.trees store), p.changes.1); committed = p.committed }

-- ---- crashes: inside a transaction no such statement commits

pub survives_start : (s : State) (P : Trees → Type 0) → Survives s s P
survives_start s P = record { clean = omega arith; shield = λ h. h; counts = omega arith; limit = refl; closes = λ _ o. inl o; crash = λ _ db h. inl h }

pub survives_on : (a b c : State) → Survives a b (NoCommit a) → (HasCleanDisk b → Ready a → Ready b) → Survives b c (NoCommit b) → Survives a c (NoCommit a)
survives_on a b c p i q = survives_then a b c _ _ (NoCommit a) (λ _ db h. h) (λ clean db h R. h (i (omega (arith, clean, q.clean)) R)) p q

no_commit : (sql : List ℕ) (given : Row) (command : Command) → command_of (understood kept_schema sql) ≡ command → (command ≡ Commit → ⊥) → ((n : List ℕ) → command ≡ Release n → ⊥)
    → (s : State) (db : Trees) → CommitsBy sql given s db → NoCommit s db
unfolding CommitsBy
no_commit sql given command is ends_not holds_not s db h R =
    let known : h.0.command ≡ command = sym (ap command_of (sym (ap (λ c. understood c sql) R.kept.schema) ∙ h.1.is)) ∙ is in
    elim h.2 [
      | inl ends ↦ elim ends.0 [ inl e ↦ ends_not (sym known ∙ e) | inr r ↦ holds_not r.0 (sym known ∙ r.2) ]
      | inr writes ↦ true≢false (sym R.inside ∙ writes.0)
    ]

pub keeps_put : (given : Row) (a b : State) → Survives a b (CommitsBy put_text given a) → Survives a b (NoCommit a)
keeps_put given a b = survives_weaker a b _ (NoCommit a) (λ _ db. no_commit put_text given put_command put_is (λ e. cc) (λ n e. cc) a db)

pub keeps_value : (given : Row) (a b : State) → Survives a b (CommitsBy put_value_text given a) → Survives a b (NoCommit a)
keeps_value given a b = survives_weaker a b _ (NoCommit a) (λ _ db. no_commit put_value_text given value_command value_is (λ e. cc) (λ n e. cc) a db)

pub keeps_clear : (given : Row) (a b : State) → Survives a b (CommitsBy clear_text given a) → Survives a b (NoCommit a)
keeps_clear given a b = survives_weaker a b _ (NoCommit a) (λ _ db. no_commit clear_text given clear_command clear_is (λ e. cc) (λ n e. cc) a db)

pub keeps_remove : (given : Row) (a b : State) → Survives a b (CommitsBy remove_text given a) → Survives a b (NoCommit a)
keeps_remove given a b = survives_weaker a b _ (NoCommit a) (λ _ db. no_commit remove_text given remove_command remove_is (λ e. cc) (λ n e. cc) a db)

-- ---- loops

module _ {A : Type 0} (apply : List A → Kept → Kept) (one : A → Kept → Kept) (store : List ℕ) (xs : List A) where
  pub loop_start : (s : State) → Looping apply store xs 0 s s
  loop_start s = (survives_start s (NoCommit s), λ _ o. o, λ _ R. ((λ k. k), inside_start store s R, λ k. refl))

  opened : (i : ℕ) (x : A) → i < length xs → x ≡ get_or xs i x → drop i xs ≡ x ∷ drop (i + 1) xs
  opened i x low is = rw (add-one i) (rw (← is) at (drop-cons xs i x low))

  pub loop_step : ((x : A) (more : List A) (k : Kept) → apply (x ∷ more) k ≡ apply more (one x k)) → (i : ℕ) (x : A) → i < length xs → x ≡ get_or xs i x → (old mid new : State)
      → Looping apply store xs i old mid → (HasCleanDisk new → StaysShut mid new × (Ready mid → Inside (one x) store mid new)) → Survives mid new (NoCommit mid) → Looping apply store xs (i + 1) old new
  loop_step cons i x low is old mid new p m s = (
    survives_on old mid new p.0 (λ clean R. (p.2 clean R).1.ready) s,
    λ clean o. p.1 (omega (arith, clean, s.clean)) ((m clean).0 o),
    λ clean R.
        let q = p.2 (omega (arith, clean, s.clean)) R in (
          (λ k. one x (q.0 k)),
          inside_then q.0 (one x) store old mid new q.1 ((m clean).1 q.1.ready),
          λ k. sym (cons x (drop (i + 1) xs) (q.0 k)) ∙ ap (λ l. apply l (q.0 k)) (sym (opened i x low is)) ∙ q.2 k,
        ),
  )

  pub loop_end : ((k : Kept) → apply [] k ≡ k) → (i : ℕ) → length xs ≤ i → (old now : State) → Looping apply store xs i old now → HasCleanDisk now → StaysShut old now × (Ready old → Inside (apply xs) store old now)
  loop_end nil i long old now p clean = (
    p.1 clean,
    λ R.
        let q = p.2 clean R in
        inside_same q.0 (apply xs) store old now (λ k. sym (nil (q.0 k)) ∙ ap (λ l. apply l (q.0 k)) (sym (Rattle.std.proofs.lemmas.List.drop_all i xs long)) ∙ q.2 k) q.1,
  )

  pub loop_fell : (i : ℕ) (old mid new : State) → Looping apply store xs i old mid → (HasCleanDisk new → StaysShut mid new × (Ready mid → Fell mid new)) → Survives mid new (NoCommit mid) → HasCleanDisk new → StaysShut old new × (Ready old → Fell old new)
  loop_fell i old mid new p m s clean = (λ o. p.1 (omega (arith, clean, s.clean)) ((m clean).0 o), λ R. let q = p.2 (omega (arith, clean, s.clean)) R in inside_fell q.0 store old mid new q.1 ((m clean).1 q.1.ready))

  pub loop_safe : (i : ℕ) (old mid new : State) → Looping apply store xs i old mid → Survives mid new (NoCommit mid) → Survives old new (NoCommit old)
  loop_safe i old mid new p s = survives_on old mid new p.0 (λ clean R. (p.2 clean R).1.ready) s

-- ---- one call after another

pub moves_then : {U : Type 0} (f g : Kept → Kept) (store : List ℕ) (a b c : State) (r : Result U Error) → StaysShut a b × (Ready a → Inside f store a b) → Moves g store b c r → Moves (λ k. g (f k)) store a c r
moves_then f g store a b c (Ok y) p q = (λ o. p.0 (q.0 o), λ R. inside_then f g store a b c (p.1 R) (q.1 (p.1 R).ready))
moves_then f g store a b c (Err e) p q = (λ o. p.0 (q.0 o), λ R. inside_fell f store a b c (p.1 R) (q.1 (p.1 R).ready))

pub safe_then : (f : Kept → Kept) (store : List ℕ) (a b c : State) → Survives a b (NoCommit a) → (HasCleanDisk b → StaysShut a b × (Ready a → Inside f store a b)) → Survives b c (NoCommit b) → Survives a c (NoCommit a)
safe_then f store a b c s p t = survives_on a b c s (λ clean R. ((p clean).1 R).ready) t

pub earlier : (a b : State) (P : Trees → Type 0) → Survives a b P → HasCleanDisk b → HasCleanDisk a
earlier a b P s clean = omega (arith, clean, s.clean)
