-- When choices of the joined tables may be left out of the product.
use Rattle.std.proofs.Common.{◌≡◌, ℕ, true, List, [], ◌∷◌, Option, ◌⊎◌}
use Rattle.std.specs.List.{AllByRecursion, flat_map}
use Rattle.melon_raw.specs.declared.raw.Raw.{Raw}
use Rattle.melon_query.specs.declared.query.Joined.{Joined}
use Rattle.melon_query.specs.Tuples.{Member, with_each}
use Rattle.melon_query.specs.Meaning.{every_of}
use Rattle.melon_eval.specs.Asking.{Asked}

-- the product of what is chosen of each table
abbrev pub product : (Joined → List (Option Raw)) → List Joined → List (List Member)
product choose [] = [] ∷ []
product choose (j ∷ js) = flat_map (with_each j (product choose js)) (choose j)

-- each `on` of this table that is true of the first is true of the second
abbrev pub IsBelow : List Asked → ℕ → Option Raw → Option Raw → Type 0
IsBelow asks table row other = AllByRecursion (λ a. a.table ≡ table → every_of a.parts row ≡ true → every_of a.parts other ≡ true) asks

abbrev pub SomeByRecursion : {X : Type 0} → (X → Type 0) → List X → Type 0
SomeByRecursion P [] = ⊥
SomeByRecursion P (x ∷ xs) = P x ⊎ SomeByRecursion P xs

-- each choice is below a kept one
abbrev pub IsCovered : List Asked → (Joined → List (Option Raw)) → (Joined → List (Option Raw)) → Joined → Type 0
IsCovered asks choose keep j = AllByRecursion (λ row. SomeByRecursion (λ other. IsBelow asks j.table row other) (keep j)) (choose j)
