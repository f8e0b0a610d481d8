-- How a pattern is met piece by piece. A piece is a part of a pattern without `%`.
use Rattle.std.specs.Prelude.{◌≡◌, ℕ, List, [], ◌∷◌, ◌++◌, Bool, false, Option, Some, None, if◌then◌else◌, ◌==◌}
use Rattle.std.specs.List.{list_any}
use Rattle.std.specs.Borrow.{Bor}
use Rattle.std.specs.Str.{chars}
use Rattle.melon_query.specs.Like.{stands_for}

-- what is left of the text after its front, where that meets the piece
unfoldable pub after_piece : List ℕ → List ℕ → Option (List ℕ)
after_piece [] text = Some text
after_piece (p ∷ ps) [] = None
after_piece (p ∷ ps) (c ∷ cs) = if stands_for p c then after_piece ps cs else None

abbrev pub or_else : Option (List ℕ) → Option (List ℕ) → Option (List ℕ)
or_else None other = other
or_else (Some text) other = Some text

-- what is left after the first place where the piece is met
unfoldable pub after_first : List ℕ → List ℕ → Option (List ℕ)
after_first piece [] = after_piece piece []
after_first piece (c ∷ cs) = or_else (after_piece piece (c ∷ cs)) (after_first piece cs)

abbrev pub is_left : (List ℕ → Bool) → Option (List ℕ) → Bool
is_left test None = false
is_left test (Some rest) = test rest

abbrev pub has_any : List ℕ → Bool
has_any cs = list_any (λ c. c == 37) cs

-- the first character and those after it, unless there is none
abbrev pub IsFirst : Option (ℕ × Bor (List ℕ)) → List ℕ → Type 0
IsFirst None cs = cs ≡ []
IsFirst (Some p) cs = cs ≡ p.0 ∷ chars p.1.now

-- what stands before the first `%` and after it, unless there is none
abbrev pub IsCut : Option (Bor (List ℕ) × Bor (List ℕ)) → List ℕ → Type 0
IsCut None cs = has_any cs ≡ false
IsCut (Some p) cs = (cs ≡ chars p.0.now ++ 37 ∷ chars p.1.now) × (has_any (chars p.0.now) ≡ false)

abbrev pub chars_of : Bor (List ℕ) → List ℕ
chars_of text = chars text.now
