-- How what is seen of a keeper goes on from call to call, and calls that ask it at most once.
use Rattle.std.proofs.Common.{◌≡◌, ℕ, Bool, List, [], ◌++◌, Option, Some, None, Result, Ok, Err, OnErr, refl, sym, ap, ◌∙◌, append_assoc, append-nil, arith}
use Rattle.melon_outside.specs.declared.kept.Kept.{Kept}
use Rattle.melon_outside.specs.declared.kept.KeptBatch.{KeptBatch}
use Rattle.melon_outside.specs.declared.keeper.KeeperError.{KeeperError}
use Rattle.melon_outside.specs.declared.keeper.KeeperError.TheVariants.{Memory, Failed}
use Rattle.melon_outside.specs.Kept.{batched}
use Rattle.melon_outside.specs.Keeping.{Stores, AreSame}
use Rattle.melon_outside.specs.SeenKeeper.{SeenKeeper, Answered, Later, Loads, Commits}
use Rattle.melon_outside.specs.Asking.{HoldsAsBefore, IsDone, IsOver, Asks}
use Rattle.melon_outside.proofs.Keepers.{same_error}
use Rattle.melon_outside.proofs.Stopped.{quiet}

-- ---- one call after another

pub later_refl : (s : SeenKeeper) → Later s s
later_refl s = record { count = omega (arith); sound = λ h. h; same = λ h. refl; plan = λ fails p. p }

pub later_more : (a b c : SeenKeeper) → Later a b → Later b c → Later a c
later_more a b c p q = record {
  count = omega (arith, p.count, q.count);
  sound = λ h. q.sound (p.sound h);
  same = λ h. q.same (p.sound h) ∙ p.same h;
  plan = λ fails h. q.plan fails (p.plan fails h);
}

pub answered_none : (s : SeenKeeper) → Answered [] s s
answered_none s all h = (all, h, sym (append-nil all))

pub answered_more : (a b c : SeenKeeper) (first second : List Bool) → Answered first a b → Answered second b c → Answered (first ++ second) a c
answered_more a b c first second p q all h =
    let late = q all h in
    let early = p late.0 late.1 in
    (early.0, early.1, late.2 ∙ ap (λ xs. xs ++ second) early.2 ∙ append_assoc early.0 first second)

pub holds_refl : (s : SeenKeeper) → HoldsAsBefore s s
holds_refl s m h = (m, h, λ store. refl)

pub holds_kept : (before now : SeenKeeper) → ((m : Stores) → now.holds m → before.holds m) → HoldsAsBefore before now
holds_kept before now kept m h = (m, kept m h, λ store. refl)

pub holds_as_before : (a b c : SeenKeeper) → HoldsAsBefore a b → HoldsAsBefore b c → HoldsAsBefore a c
holds_as_before a b c p q m h =
    let late = q m h in
    let early = p late.0 late.1 in
    (early.0, early.1, λ store. late.2 store ∙ early.2 store)

-- ---- a load, and then what it asks

pub load_over : (store : List ℕ) (kept : Kept) (before now : SeenKeeper) → Loads store (Ok kept) before now → IsOver before now store kept None
load_over store kept before now loads = record { ordered = loads.ordered; told = λ m h. (m, loads.kept m h, loads.found m h, λ s. refl) }

chained : (batch : Option KeptBatch) (store : List ℕ) (was mid m : Stores) → AreSame mid was → IsDone batch store mid m → IsDone batch store was m
chained None store was mid m same done = λ s. done s ∙ same s
chained (Some batch) store was mid m same done = (done.0 ∙ ap (batched batch) (same store), λ other apart. done.1 other apart ∙ same other)

-- and then the batch is done, where there is one
pub over_done : (a b c : SeenKeeper) (store : List ℕ) (kept : Kept) (batch : Option KeptBatch) → IsOver a b store kept None → ((m : Stores) → c.holds m → (was : Stores) × b.holds was × IsDone batch store was m) → IsOver a c store kept batch
over_done a b c store kept batch over done = record {
  ordered = over.ordered;
  told = λ m h.
      let late = done m h in
      let early = over.told late.0 late.1 in
      (early.0, early.1, early.2, chained batch store early.0 late.0 m early.3 late.2);
}

-- ---- a commit

pub commit_holds : (batch : KeptBatch) (store : List ℕ) (result : Result (Unit {0}) KeeperError) (before now : SeenKeeper) → Commits batch store result before now → OnErr result (HoldsAsBefore before now)
commit_holds batch store (Ok x) before now commits = tt
commit_holds batch store (Err e) before now commits = commits.done

pub commit_asks : (batch : KeptBatch) (store : List ℕ) (result : Result (Unit {0}) KeeperError) (before now : SeenKeeper) → Commits batch store result before now → Asks (Some batch) store Failed result before now
commit_asks batch store (Ok x) before now commits = record {
  later = commits.later;
  kept = commits.done;
  stops = commits.leaves;
  done = commits.answered;
  failed = λ e. absurd cc;
  other = tt;
  cause = commits.cause;
  never = commits.never;
}
commit_asks batch store (Err Failed) before now commits = record {
  later = commits.later;
  kept = commits.done;
  stops = commits.leaves;
  done = tt;
  failed = λ e. ((batch, refl), commits.answered);
  other = λ apart. absurd (apart refl);
  cause = commits.cause;
  never = commits.never;
}
commit_asks batch store (Err Memory) before now commits = record {
  later = commits.later;
  kept = commits.done;
  stops = commits.leaves;
  done = tt;
  failed = λ e. absurd cc;
  other = λ apart. commits.answered;
  cause = commits.cause;
  never = commits.never;
}

-- ---- nothing is asked

module _ (s : SeenKeeper) (between : (m left : Stores) → s.holds m → s.may_leave left → AreSame left m) where
  pub none_asked : {T E : Type 0} (store : List ℕ) (fault : E) (x : T) → Asks {T = T} None store fault (Ok x) s s
  none_asked {T} {E} store fault x = record {
    later = later_refl s;
    kept = holds_refl s;
    stops = quiet s.holds s.may_leave between None store;
    done = answered_none s;
    failed = λ e. absurd cc;
    other = tt;
    cause = λ e. absurd cc;
    never = λ h e. cc;
  }

  -- another fault came first
  pub not_asked : {T E : Type 0} (asked : Option KeptBatch) (store : List ℕ) (fault e : E) → (e ≡ fault → ⊥) → Asks {T = T} asked store fault (Err e) s s
  not_asked {T} {E} asked store fault e apart = record {
    later = later_refl s;
    kept = holds_refl s;
    stops = quiet s.holds s.may_leave between asked store;
    done = tt;
    failed = λ h. absurd (apart (same_error h));
    other = λ h. answered_none s;
    cause = λ h. absurd (apart (same_error h));
    never = λ sound h. apart (same_error h);
  }

-- ---- the same, told otherwise

-- by another answer
pub asks_ok : {T U E F : Type 0} (asked : Option KeptBatch) (store : List ℕ) (fault : E) (other : F) (x : T) (y : U) (before now : SeenKeeper) → Asks asked store fault (Ok x) before now → Asks asked store other (Ok y) before now
asks_ok {T} {U} {E} {F} asked store fault other x y before now asks = record {
  later = asks.later;
  kept = asks.kept;
  stops = asks.stops;
  done = asks.done;
  failed = λ h. absurd cc;
  other = tt;
  cause = λ h. absurd cc;
  never = λ sound h. cc;
}

-- by another error, which is that fault just where this one was
pub asks_err : {T U E F : Type 0} (asked : Option KeptBatch) (store : List ℕ) (fault e : E) (other told : F) → (e ≡ fault → told ≡ other) → (told ≡ other → e ≡ fault) → (before now : SeenKeeper)
    → Asks {T = T} asked store fault (Err e) before now → Asks {T = U} asked store other (Err told) before now
asks_err {T} {U} {E} {F} asked store fault e other told to from before now asks = record {
  later = asks.later;
  kept = asks.kept;
  stops = asks.stops;
  done = tt;
  failed = λ h. asks.failed (ap Err (from (same_error h)));
  other = λ apart. asks.other (λ h. apart (to h));
  cause = λ h. asks.cause (ap Err (from (same_error h)));
  never = λ sound h. asks.never sound (ap Err (from (same_error h)));
}
