-- Reading a whole store.
use Rattle.std.proofs.Common.{◌≡◌, ℕ, false, List, sym, ap, ◌∙◌, subst, arith}
use Rattle.sqlite_value.specs.Order.{Row}
use Rattle.sqlite.specs.Effect.{Database}
use Rattle.sqlite.specs.State.{State, HasCleanDisk, Survives, CommitsShowing, IsUnchanged}
use Rattle.sqlite.proofs.Callers.{never_commits}
use Rattle.sqlite.proofs.StateLemmas.{survives_then, survives_weaker}
use Rattle.melon_outside.specs.declared.kept.Kept.{Kept}
use Rattle.melon_outside.specs.declared.kept.KeptRow.{KeptRow}
use Rattle.melon_outside.specs.declared.kept.KeptValue.{KeptValue}
use Rattle.melon_sqlite.specs.Contents.{IsKept, rows_in, values_in, stores_in, has_negative}
use Rattle.melon_sqlite.specs.Statements.{Undone}
use Rattle.melon_sqlite.specs.Tables.{read_rows_text, read_values_text}
use Rattle.melon_sqlite.specs.Telling.{StaysIdle}
use Rattle.melon_sqlite.specs.Transactions.{Idle}
use Rattle.melon_sqlite.proofs.Puts.{made}
use Rattle.melon_sqlite.proofs.ReadRows.{kept_plain_rows, kept_plain_values}
use Rattle.melon_sqlite.proofs.Whole.{not_begun}

pub rows_safe : (given : Row) (a b : State) → Survives a b (CommitsShowing read_rows_text given a) → Survives a b (λ _. Idle a → ⊥)
rows_safe given a b = survives_weaker a b _ (λ _. Idle a → ⊥) (λ _ db by I. never_commits read_rows_text given a db (kept_plain_rows a I.kept) by)

pub values_safe : (given : Row) (a b : State) → Survives a b (CommitsShowing read_values_text given a) → Survives a b (λ _. Idle a → ⊥)
values_safe given a b = survives_weaker a b _ (λ _. Idle a → ⊥) (λ _ db by I. never_commits read_values_text given a db (kept_plain_values a I.kept) by)

pub same_idle : (a b : State) → IsUnchanged a b → Idle a → Idle b
same_idle a b u I = record { kept = subst IsKept (sym u.0.now_is) I.kept; is_open = u.0.is_open; outside = u.0.mode ∙ I.outside; settled = u.0.committed_is ∙ I.settled ∙ sym u.0.now_is }

pub both_safe : (given given2 : Row) (a b c : State) → Survives a b (CommitsShowing read_rows_text given a) → (HasCleanDisk b → IsKept a.now → IsUnchanged a b) → Survives b c (CommitsShowing read_values_text given2 b)
    → Survives a c (λ _. Idle a → ⊥)
both_safe given given2 a b c p u q = survives_then a b c _ _ (λ _. Idle a → ⊥) (λ _ db h. h) (λ clean db h I. h (same_idle a b (u (omega (arith, clean, q.clean)) I.kept) I)) (rows_safe given a b p) (values_safe given2 b c q)

pub both_loaded : (store : List ℕ) (a b d : State) (rows : List KeptRow) (values : List KeptValue) → (IsKept a.now → rows ≡ rows_in (a.now.trees 0) store) → (IsKept b.now → values ≡ values_in (b.now.trees 2) store)
    → (IsKept a.now → IsUnchanged a b) → (IsKept b.now → IsUnchanged b d) → Idle a → Idle d × ◌≡◌ {A = Kept} (record { rows = rows; values = values }) (stores_in a.now.trees store)
both_loaded store a b d rows values p q u v I =
    let same = (u I.kept).0.now_is in
    let between = same_idle a b (u I.kept) I in
    (same_idle b d (v between.kept) between, made (p I.kept) (q (subst IsKept (sym same) I.kept) ∙ ap (λ (x : Database). values_in (x.trees 2) store) same))

pub both_stay : (a b c : State) → (IsKept a.now → IsUnchanged a b) → (IsKept b.now → Undone b c) → StaysIdle a c
both_stay a b c u v I o =
    let x = u I.kept in
    let J = same_idle a b x I in
    let r = not_begun b c (v J.kept) J o in
    (r.0, r.1 ∙ x.0.now_is)

pub one_stays : (a b : State) → (IsKept a.now → Undone a b) → StaysIdle a b
one_stays a b v I o = not_begun a b (v I.kept) I o

-- values that were read after the rows are those of before
pub still_natural : (store : List ℕ) (a b : State) → (IsKept b.now → has_negative b.now.trees store ≡ false) → (IsKept a.now → IsUnchanged a b) → Idle a → has_negative a.now.trees store ≡ false
still_natural store a b n u I =
    let same = (u I.kept).0.now_is in
    ap (λ (d : Database). has_negative d.trees store) (sym same) ∙ n (subst IsKept (sym same) I.kept)
