-- Bytes that are no text.
use Rattle.std.proofs.Common.{◌≡◌, ℕ, List, Bool, true, false, refl}
use Rattle.std.specs.Str.{IsUtf8, is_utf8}
use Rattle.std.proofs.lemmas.Str.{IsUtf8-from_is_utf8}

-- what is no text fails the test
pub not_utf8 : (bs : List ℕ) → (IsUtf8 bs → ⊥) → is_utf8 bs ≡ false
not_utf8 bs not = by_test (is_utf8 bs) refl
  where
    by_test : (b : Bool) → is_utf8 bs ≡ b → b ≡ false
    by_test true e = absurd (not (IsUtf8-from_is_utf8 bs e))
    by_test false e = refl
