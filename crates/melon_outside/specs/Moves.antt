-- What a call moves: bytes out of a source and into a sink, where the object tells them.
use Rattle.std.specs.Prelude.{◌≡◌, ℕ, ◌≤◌, ◌<◌, List, [], ◌∷◌, ◌++◌, length, take, Result, MatchResult}
use Rattle.std.specs.declared.option.Option.{Option}
use Rattle.std.specs.Prelude.{Some, None}

-- the bytes that were left begin with these, and lose them
abbrev pub Takes : Option (List ℕ) → Option (List ℕ) → List ℕ → Type 0
Takes None None bytes = Unit {0}
Takes None (Some new) bytes = ⊥
Takes (Some old) None bytes = ⊥
Takes (Some old) (Some new) bytes = old ≡ bytes ++ new

-- at most so many bytes were taken
abbrev pub TakesUpTo : Option (List ℕ) → Option (List ℕ) → ℕ → Type 0
TakesUpTo old new most = (bytes : List ℕ) × (length bytes ≤ most) × Takes old new bytes

-- so many bytes were taken
abbrev pub TakesCount : Option (List ℕ) → Option (List ℕ) → ℕ → Type 0
TakesCount old new count = (bytes : List ℕ) × (length bytes ≡ count) × Takes old new bytes

-- nothing is left
abbrev pub IsAtEnd : Option (List ℕ) → Type 0
IsAtEnd None = Unit {0}
IsAtEnd (Some left) = left ≡ []

-- these are all the bytes that were left, and not too many
pub record IsWhole (old new : Option (List ℕ)) (most : ℕ) (bytes : List ℕ) : Type 0 where
  pub taken : Takes old new bytes
  pub ended : IsAtEnd new
  pub within : length bytes ≤ most

-- the bytes that were written grow by these
abbrev pub Grows : Option (List ℕ) → Option (List ℕ) → List ℕ → Type 0
Grows None None bytes = Unit {0}
Grows None (Some new) bytes = ⊥
Grows (Some old) None bytes = ⊥
Grows (Some old) (Some new) bytes = new ≡ old ++ bytes

-- a front of the piece was written
abbrev pub GrowsByFront : Option (List ℕ) → Option (List ℕ) → List ℕ → Type 0
GrowsByFront old new piece = (n : ℕ) × (n ≤ length piece) × Grows old new (take n piece)

-- a read puts the next bytes at the front of its buffer; it gives none only at the end, or for no room
abbrev pub Reads : {E : Type 0} → Option (List ℕ) → Option (List ℕ) → List ℕ → Result ℕ E → Type 0
Reads old new into result = MatchResult result
    (λ n. (n ≤ length into) × Takes old new (take n into) × (n ≡ 0 → 0 < length into → IsAtEnd old))
    (λ _. new ≡ old)

-- a write takes the first bytes of a piece, at least one of a piece that has any
abbrev pub Writes : {E : Type 0} → Option (List ℕ) → Option (List ℕ) → List ℕ → Result ℕ E → Type 0
Writes old new piece result = MatchResult result
    (λ n. (n ≤ length piece) × Grows old new (take n piece) × (0 < length piece → 0 < n))
    (λ _. new ≡ old)
