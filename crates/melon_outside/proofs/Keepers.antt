-- A keeper in memory against the trait.
use Rattle.std.proofs.Common.{◌≡◌, ◌⊎◌, ℕ, Bool, true, false, ◌||◌, List, [], ◌∷◌, Result, Ok, Err, nat_eq, nat_le, refl, sym, ap, ◌∙◌, inl, inr, arith}
use Rattle.std.proofs.lemmas.Bool.Decides.{nat_tests}
use Rattle.std.specs.Prelude.{OnOk, OnErr, IsErrOf, is_err}
use Rattle.melon_outside.specs.declared.kept.KeptBatch.{KeptBatch}
use Rattle.melon_outside.specs.Kept.{batched, is_in_order}
use Rattle.melon_outside.specs.declared.kept.Kept.{Kept}
use Rattle.melon_outside.specs.declared.kept.KeptStore.{KeptStore}
use Rattle.melon_outside.specs.Causes.{next_count}
use Rattle.melon_outside.specs.Memory.{fails_next, fails_later}
use Rattle.melon_outside.specs.Keeping.{Stores, AreSame, Changes, find, with_store, are_in_order}
use Rattle.melon_outside.specs.declared.keeper.KeeperError.{KeeperError}
use Rattle.melon_outside.specs.SeenKeeper.{SeenKeeper, Loads, Commits}
use Rattle.melon_outside.proofs.Found.{find-with_store, find-other, find-in_order, committed-in_order}

-- ---- one store changed

pub changes_from : (f : Kept → Kept) (store : List ℕ) (stores : List KeptStore) (was m : Stores) → AreSame was (find stores) → AreSame m (find (with_store store (f (find stores store)) stores)) → Changes f store was m
changes_from f store stores was m p q = (
  q store ∙ find-with_store store (f (find stores store)) stores ∙ ap f (sym (p store)),
  λ other apart. q other ∙ find-other store (f (find stores store)) other stores apart ∙ sym (p other),
)

-- what a keeper in memory holds
abbrev pub AreHeld : List KeptStore → Stores → Type 0
AreHeld stores m = ((store : List ℕ) → is_in_order (m store) ≡ true) × AreSame m (find stores)

pub commit_done : (batch : KeptBatch) (store : List ℕ) (old now : List KeptStore) → now ≡ with_store store (batched batch (find old store)) old → are_in_order old ≡ true
    → (m : Stores) → AreHeld now m → (was : Stores) × AreHeld old was × Changes (batched batch) store was m
commit_done batch store old now e h m p = (
  find old,
  (λ name. find-in_order old name h, λ name. refl),
  changes_from (batched batch) store old (find old) m (λ name. refl) (λ name. p.1 name ∙ ap (λ s. find s name) e),
)

pub commit_left : (batch : KeptBatch) (store : List ℕ) (old now : List KeptStore) → now ≡ with_store store (batched batch (find old store)) old
    → (was : Stores) → AreHeld old was → (m : Stores) → AreSame m (find now) → AreSame m was ⊎ Changes (batched batch) store was m
commit_left batch store old now e was q m p = inr (changes_from (batched batch) store old was m q.1 (λ name. p name ∙ ap (λ s. find s name) e))

pub same_error : {T E : Type 0} {a b : E} → IsErrOf {T = T} (Err a) b → a ≡ b
same_error {T} {E} {a} {b} h = cc

-- a commit that does nothing is as a load that gives nothing
pub commits_nothing : (batch : KeptBatch) (store : List ℕ) (e : KeeperError) (before now : SeenKeeper) → (now.honest → before.honest) → Loads store (Err e) before now → Commits batch store (Err e) before now
commits_nothing batch store e before now honest loads = record {
  done = λ m h. (m, loads.kept m h, λ name. refl);
  leaves = λ was h left l. inl (loads.leaves was h left l);
  was_honest = honest;
  answered = loads.answered;
  later = loads.later;
  cause = λ h. loads.cause (ap Err (same_error h));
  never = λ sound h. loads.never sound (ap Err (same_error h));
}

pub ordered_after : {E : Type 0} (name : List ℕ) (batch : KeptBatch) (old new : List KeptStore) (r : Result (Unit {0}) E) → OnOk r (new ≡ with_store name (batched batch (find old name)) old) → OnErr r (new ≡ old) → are_in_order old ≡ true → are_in_order new ≡ true
ordered_after {E} name batch old new (Ok u) done kept h = ap are_in_order done ∙ committed-in_order name batch old h
ordered_after {E} name batch old new (Err e) done kept h = ap are_in_order kept ∙ h

pub at_err : {T E P : Type 0} (r : Result T E) → is_err r ≡ true → OnErr r P → P
at_err {T} {E} {P} (Ok x) h p = absurd (let f : false ≡ true = h in cc)
at_err {T} {E} {P} (Err e) h p = p

pub at_ok : {T E P : Type 0} (r : Result T E) → is_err r ≡ false → OnOk r P → P
at_ok {T} {E} {P} (Ok x) h p = p
at_ok {T} {E} {P} (Err e) h p = absurd (let f : true ≡ false = h in cc)

-- ---- calls that are to fail

no_either : (a b : Bool) → (a || b) ≡ false → (a ≡ false) × (b ≡ false)
no_either true b h = cc
no_either false b h = (refl, h)

past_now : (n c : ℕ) → nat_le (next_count c) n ≡ false → nat_eq n (next_count c) ≡ false
past_now n c h = grind (arith, nat_tests)

past_then : (n c : ℕ) → nat_le (next_count c) n ≡ false → nat_le (next_count (next_count c)) n ≡ false
past_then n c h = grind (arith, nat_tests)

pub none_now : (fails : List ℕ) (c : ℕ) → fails_later fails c ≡ false → fails_next fails c ≡ false
none_now [] c h = refl
none_now (n ∷ ns) c h = let both = no_either (nat_le (next_count c) n) (fails_later ns c) h in rw (past_now n c both.0) (none_now ns c both.1)

pub none_then : (fails : List ℕ) (c : ℕ) → fails_later fails c ≡ false → fails_later fails (next_count c) ≡ false
none_then [] c h = refl
none_then (n ∷ ns) c h = let both = no_either (nat_le (next_count c) n) (fails_later ns c) h in rw (past_then n c both.0) (none_then ns c both.1)
