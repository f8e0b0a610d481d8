-- Calls of what is sound.
use Rattle.std.proofs.Common.{◌≡◌, ℕ, Bool, true, false, List, [], ◌∷◌, All, Result, Ok, Err, OnErr, is_err, refl, sym, subst, ◌∙◌, ap, length}
use Rattle.std.proofs.lemmas.List.Elements.{All-tail}
use Rattle.std.proofs.lemmas.Bool.{true≢false}
use Rattle.melon_outside.specs.Causes.{next_count}
use Rattle.melon_outside.specs.Memory.{Plan, fails_later, fails_next, faults_after, read_fails, after_read}
use Rattle.melon_outside.proofs.Keepers.{none_now, none_then}

-- no read of this source is to fail
abbrev pub IsSoundPlan : Plan → Type 0
IsSoundPlan p = fails_later p.fails p.calls ≡ false

pub sound_then : (p q : Plan) (room : ℕ) → q ≡ after_read p room → IsSoundPlan p → IsSoundPlan q
sound_then p q room moved h = subst IsSoundPlan (sym moved) (none_then p.fails p.calls h)

pub sound_count : (p q : Plan) (room : ℕ) → q ≡ after_read p room → IsSoundPlan p → q.faults ≡ p.faults
sound_count p q room moved h = ap (λ (s : Plan). s.faults) moved ∙ ap (λ failed. faults_after failed p.faults) (none_now p.fails p.calls h)

pub never_failed : {T E : Type 0} → (r : Result T E) → is_err r ≡ false → OnErr r ⊥
never_failed (Ok x) h = tt
never_failed (Err e) h = absurd (true≢false h)

pub sound_never : {T E : Type 0} → (p : Plan) (r : Result T E) → is_err r ≡ read_fails p → IsSoundPlan p → OnErr r ⊥
sound_never p r planned h = never_failed r (planned ∙ none_now p.fails p.calls h)

pub rest_all : {A : Type 0} → (P : A → Type 0) (x : A) (all rest : List A) → all ≡ x ∷ rest → All P all → All P rest
rest_all P x all rest is h = All-tail P x rest (subst (All P) is h)
