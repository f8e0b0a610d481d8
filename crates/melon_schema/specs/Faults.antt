-- Refusals by name: a form gives a value, or the first fault in its order.
-- A reader whose faults are of a type E writes its form as a do-block over these words, which computes to `Result X E`,
-- and has the one clause `Gives E.Memory result form`.
use Rattle.std.specs.Prelude.{◌≡◌, Bool, true, false, List, [], ◌∷◌, ◌++◌, Result, Ok, Err, Option, Some, None, ⊤}

infixl 10 ◌>>=◌
abbrev pub ◌>>=◌ : {A B E : Type 0} → Result A E → (A → Result B E) → Result B E
(Ok x) >>= f = f x
(Err e) >>= f = Err e

-- this fault, unless the test holds
abbrev pub unless : {E : Type 0} → Bool → E → Result ⊤ E
unless true fault = Ok tt
unless false fault = Err fault

-- the value, or this fault where there is none
abbrev pub or_fault : {X E : Type 0} → Option X → E → Result X E
or_fault (Some x) fault = Ok x
or_fault None fault = Err fault

-- one item after the other, each added to what those before it made; the first fault ends it
abbrev pub in_turn : {X Y E : Type 0} → (Y → X → Result Y E) → Y → List X → Result Y E
in_turn add made [] = Ok made
in_turn add made (x ∷ xs) = add made x >>= λ more. in_turn add more xs

-- each item read, from the first to the last; the first fault ends it
abbrev pub each_read : {X Y E : Type 0} → (X → Result Y E) → List X → Result (List Y) E
each_read read xs = in_turn (λ made x. read x >>= λ y. Ok (made ++ y ∷ [])) [] xs

-- every fault but want of memory is the one that the form gives
abbrev pub Fails : {X E : Type 0} → E → E → Result X E → Type 0
Fails memory fault form = (fault ≡ memory → ⊥) → form ≡ Err fault

-- What the form gives, the first fault included, unless memory runs out.
abbrev pub Gives : {X E : Type 0} → E → Result X E → Result X E → Type 0
Gives memory (Ok x) form = form ≡ Ok x
Gives memory (Err fault) form = Fails memory fault form
