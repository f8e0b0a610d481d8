-- Calls that a keeper met.
use Rattle.std.proofs.Common.{◌≡◌, ℕ, zero, suc, ◌≤◌, ◌<◌, List, [], ◌∷◌, Bool, true, false, length, set, get_or, refl, ap, sym, ◌∙◌, subst, arith}
use Rattle.std.specs.Prelude.{Option, Some, None, Result, Ok, Err, slice_get, IfOk, OnErr, bytes_eq}
use Rattle.std.proofs.lemmas.List.{set-get_or}
use Rattle.std.proofs.lemmas.List.Quantifiers.{position-Some}
use Rattle.melon_outside.specs.Asking.{IsDone, HoldsAsBefore, done_of}
use Rattle.melon_outside.specs.Keeping.{Stores, AreSame}
use Rattle.melon_outside.specs.SeenKeeper.{SeenKeeper, Answered, Later}
use Rattle.melon_outside.specs.declared.kept.KeptBatch.{KeptBatch}
use Rattle.melon_outside.proofs.SeenKeepers.{answered_none, holds_refl, later_refl}
use Rattle.melon_script.specs.declared.item.Item.{Item}
use Rattle.melon_machine.specs.Calls.{Calls, Done, Load, Commit, asks, with_end, failures, after_batch, Begins, Follows, Meets, Interrupts}
use Rattle.melon_machine.specs.Refusals.{is_of_keeper, app_refusal}
use Rattle.melon_machine.specs.State.{KeptApp, as_kept}
use Rattle.melon_machine.specs.Apps.{Told, told, put_back, on_app, on_place, on_found, place_of}
use Rattle.melon_machine.specs.Outcomes.{Stepped, stepped}
use Rattle.melon_machine.proofs.Followed.{changes_same, rose_none, begins_with}
use Rattle.melon_world.specs.Handled.{IsHandled}

pub slice_get_or : {X : Type 0} (xs : List X) (i : ℕ) (d : X) → i < length xs → slice_get xs i ≡ Some (get_or xs i d)
slice_get_or [] i d h = absurd (omega (arith, h))
slice_get_or (x ∷ xs) zero d h = refl
slice_get_or (x ∷ xs) (suc i) d h = slice_get_or xs i d (omega (arith, h))

-- a batch that was done, where there is one
pub asks_done : {X : Type 0} (name : List ℕ) (batch : Option KeptBatch) (done failed : X) (was m : Stores) → IsDone batch name was m
    → Follows (asks name batch done failed) was (done_of batch) done m × (failures (done_of batch) ≡ 0)
asks_done name None done failed was m h = ((refl, refl, h), refl)
asks_done name (Some batch) done failed was m h = ((refl, refl, changes_same name batch was m h), refl)

-- a batch that the keeper failed to do
pub asks_failed : {X : Type 0} (name : List ℕ) (batch : KeptBatch) (done failed : X) (was m : Stores) → AreSame m was → Follows (asks name (Some batch) done failed) was (false ∷ []) failed m
asks_failed name batch done failed was m h = (refl, refl, h)

-- calls with another value at their end
follows_at_end : {X Y : Type 0} (f : X → Y) (calls : Calls X) (was : Stores) (used : List Bool) (x : X) (m : Stores) → Follows calls was used x m → Follows (with_end f calls) was used (f x) m
follows_at_end f (Done y) was used x m h = (h.0, ap f h.1, h.2)
follows_at_end f (Load name does) was [] x m h = absurd h
follows_at_end f (Load name does) was (true ∷ used) x m h = (h.0, follows_at_end f (does (Some (was name))) was used x m h.1)
follows_at_end f (Load name does) was (false ∷ used) x m h = follows_at_end f (does None) was used x m h
follows_at_end f (Commit name batch does) was [] x m h = absurd h
follows_at_end f (Commit name batch does) was (true ∷ used) x m h = follows_at_end f (does true) (after_batch name batch was) used x m h
follows_at_end f (Commit name batch does) was (false ∷ used) x m h = follows_at_end f (does false) was used x m h

module _ (before now : SeenKeeper) where
  -- nothing was asked
  pub met_quietly : {X : Type 0} (x : X) → HoldsAsBefore before now → Later before now → Answered [] before now → Meets (Done x) before now x
  met_quietly x held later none m told = (let h = held m told in (h.0, h.1, [], (refl, refl, h.2), rose_none before.faults now.faults later.count, none))

  -- nothing was answered
  pub unasked : {X : Type 0} (calls : Calls X) → HoldsAsBefore before now → Later before now → Answered [] before now → Interrupts calls before now
  unasked calls held later none m told = (let h = held m told in (h.0, h.1, h.2, [], tt, rose_none before.faults now.faults later.count, none))

  pub met_at_end : {X Y : Type 0} (f : X → Y) (calls : Calls X) (x : X) → Meets calls before now x → Meets (with_end f calls) before now (f x)
  met_at_end f calls x h m told = (let k = h m told in (k.0, k.1, k.2, follows_at_end f calls k.0 k.2 x m k.3, k.4, k.5))

  pub interrupted_at_end : {X Y : Type 0} (f : X → Y) (calls : Calls X) → Interrupts calls before now → Interrupts (with_end f calls) before now
  interrupted_at_end f calls h m told = (let k = h m told in (k.0, k.1, k.2, k.3, begins_with f k.3 calls k.0 k.4, k.5, k.6))

-- ---- an open app

-- the app that stands at the place of a name
pub app_found : (apps : List KeptApp) (name : List ℕ) (does : KeptApp → Calls (Told KeptApp)) (place : ℕ) (store : KeptApp) → Some place ≡ place_of as_kept name apps → store ≡ get_or apps place store
    → on_app as_kept apps name does ≡ with_end (put_back apps place) (does store)
app_found apps name does place store at here =
    ap (on_place as_kept apps name does) (sym at)
    ∙ ap (on_found as_kept apps name does place) (slice_get_or apps place store (position-Some (λ (s : KeptApp). bytes_eq s.store.name name) apps place store (sym at)).0 ∙ ap Some (sym here))

pub app_missing : (apps : List KeptApp) (name : List ℕ) (does : KeptApp → Calls (Told KeptApp)) → None ≡ place_of as_kept name apps → on_app as_kept apps name does ≡ Done (stepped apps (app_refusal 2 name))
app_missing apps name does at = ap (on_place as_kept apps name does) (sym at)

pub put_same : (apps : List KeptApp) (place : ℕ) (store left : KeptApp) → store ≡ get_or apps place store → left ≡ store → set apps place left ≡ apps
put_same apps place store left here same = ap (set apps place) (same ∙ here) ∙ set-get_or apps place store

module _ (before now : SeenKeeper) where
  pub on_app_handled : {E : Type 0} (apps : List KeptApp) (name : List ℕ) (does : KeptApp → Calls (Told KeptApp)) (place : ℕ) (store left : KeptApp) (result : Result Item E)
      → Some place ≡ place_of as_kept name apps → store ≡ get_or apps place store
      → IsHandled (does store) (told left) is_of_keeper before now store left result
      → IsHandled (on_app as_kept apps name does) (stepped (set apps place left)) is_of_keeper before now apps (set apps place left) result
  on_app_handled apps name does place store left (Ok item) at here h = record {
    met = subst (λ (calls : Calls (Stepped (List KeptApp))). Meets calls before now (stepped (set apps place left) item))
        (sym (app_found apps name does place store at here))
        (met_at_end before now (put_back apps place) (does store) (told left item) h.met);
    same = tt;
    held = tt;
    interrupted = tt;
    later = h.later;
    cause = h.cause;
  }
  on_app_handled apps name does place store left (Err e) at here h = record {
    met = tt;
    same = put_same apps place store left here h.same;
    held = h.held;
    interrupted = subst (λ (calls : Calls (Stepped (List KeptApp))). Interrupts calls before now)
        (sym (app_found apps name does place store at here))
        (interrupted_at_end before now (put_back apps place) (does store) h.interrupted);
    later = h.later;
    cause = tt;
  }

-- a handler that asks nothing of the keeper
pub handled_unasked : {X T R E : Type 0} (k : SeenKeeper) (calls : Calls X) (end : R → X) (tells : R → Bool) (was left : T) (result : Result R E)
    → IfOk result (λ answer. calls ≡ Done (end answer)) → IfOk result (λ answer. tells answer ≡ false) → OnErr result (left ≡ was)
    → IsHandled calls end tells k k was left result
handled_unasked {X} k calls end tells was left (Ok answer) is quiet same = record {
  met = subst (λ (c : Calls X). Meets c k k (end answer)) (sym is) (met_quietly k k (end answer) (holds_refl k) (later_refl k) (answered_none k));
  same = tt;
  held = tt;
  interrupted = tt;
  later = later_refl k;
  cause = λ told. absurd (grind (arith, quiet, told));
}
handled_unasked k calls end tells was left (Err e) is quiet same = record {
  met = tt;
  same = same;
  held = holds_refl k;
  interrupted = unasked k k calls (holds_refl k) (later_refl k) (answered_none k);
  later = later_refl k;
  cause = tt;
}

-- the same of a handler of a line of an app
pub handled_quietly : {E : Type 0} (k : SeenKeeper) (calls : Calls (Stepped (List KeptApp))) (apps left : List KeptApp) (result : Result Item E)
    → IfOk result (λ item. calls ≡ Done (stepped left item)) → IfOk result (λ item. is_of_keeper item ≡ false) → OnErr result (left ≡ apps)
    → IsHandled calls (stepped left) is_of_keeper k k apps left result
handled_quietly k calls apps left result is quiet same = handled_unasked k calls (stepped left) is_of_keeper apps left result is quiet same

-- a handler on an open app that asks nothing of the keeper
pub app_told : (apps : List KeptApp) (name : List ℕ) (does : KeptApp → Told KeptApp) (place : ℕ) (app left : KeptApp) (item : Item) → Some place ≡ place_of as_kept name apps → app ≡ get_or apps place app
    → told left item ≡ does app → on_app as_kept apps name (λ a. Done (does a)) ≡ Done (stepped (set apps place left) item)
app_told apps name does place app left item at here is = app_found apps name (λ a. Done (does a)) place app at here ∙ (λ i. Done (put_back apps place (sym is i)))
