-- The outcomes of a keeper in memory, counted from its list of failing calls.
use Rattle.std.proofs.Common.{◌≡◌, ℕ, ◌+◌, ◌-◌, ◌<◌, ◌≤◌, List, [], ◌∷◌, ◌++◌, length, Bool, true, false, refl, sym, ap, subst, ◌∙◌, append_assoc, length-append, arith}
use Rattle.std.specs.Prelude.{suc, zero, not, nat_eq, if◌then◌else◌}
use Rattle.std.specs.List.{list_any}
use Rattle.std.proofs.lemmas.Grind.{common_steps}
use Rattle.melon_outside.specs.Keeping.{Shelves}
use Rattle.melon_outside.specs.SeenKeeper.{Answered, Later, planned_to}
use Rattle.melon_outside.specs.SeenMemory.{seen_memory, planned-length}
use Rattle.melon_machine.specs.Calls.{failures}
use Rattle.melon_cli.specs.Fixed.{FixesOutcomes, NoneFails}

-- behind those of the calls before it, the outcomes are those that the list plans
pub fixed : FixesOutcomes
fixed old new outcomes answered later within =
    let same : old.fails ≡ new.fails = later.plan old.fails refl in
    let a = answered (planned_to new.fails new.calls) (within, refl) in
    let whole : planned_to new.fails new.calls ≡ planned_to old.fails old.calls ++ outcomes = a.2 ∙ ap (λ xs. xs ++ outcomes) a.1.1 in
    let many : new.calls ≡ old.calls + length outcomes =
    sym (planned-length new.fails new.calls) ∙ ap (λ (xs : List Bool). length xs) whole ∙ length-append (planned_to old.fails old.calls) outcomes ∙ ap (λ n. n + length outcomes) (planned-length old.fails old.calls) in
    sym whole ∙ ap (λ fails. planned_to fails new.calls) (sym same) ∙ ap (planned_to old.fails) many

-- ---- where the list is empty

failures_more : (a b : List Bool) → failures (a ++ b) ≡ failures a + failures b
failures_more [] b = omega arith
failures_more (o ∷ a) b = grind (arith, common_steps, failures_more a b)

none_planned : (n : ℕ) → failures (planned_to [] n) ≡ 0
none_planned zero = refl
none_planned (suc n) = failures_more (planned_to [] n) (true ∷ []) ∙ ap (λ m. m + 0) (none_planned n)

pub none_fails : NoneFails
none_fails old new outcomes answered later within none =
    let is = fixed old new outcomes answered later within in
    let all : failures (planned_to old.fails old.calls ++ outcomes) ≡ 0 = ap failures is ∙ subst (λ fails. failures (planned_to fails (old.calls + length outcomes)) ≡ 0) (sym none) (none_planned (old.calls + length outcomes)) in
    omega (arith, failures_more (planned_to old.fails old.calls) outcomes, all)
