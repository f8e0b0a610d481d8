-- Where no table has a name.
use Rattle.std.proofs.Common.{◌≡◌, ℕ, zero, suc, ◌+◌, ◌<◌, ◌≤◌, List, [], ◌∷◌, length, get_or, position, Bool, true, false, not, cond, None, refl, arith}
use Rattle.std.specs.List.{position_or_len}
use Rattle.std.proofs.lemmas.Grind.{common_steps}
use Rattle.melon_schema.specs.declared.schema.TableSchema.{TableSchema}
use Rattle.melon_raw.specs.Rows.{no_table}

pub past_all : (p : TableSchema → Bool) (xs : List TableSchema) → position p xs ≡ None → length xs ≤ position_or_len p xs
past_all p xs h = grind (arith, common_steps)

pub none_all : (p : TableSchema → Bool) (xs : List TableSchema) → length xs ≤ position_or_len p xs → (j : ℕ) → j < length xs → p (get_or xs j no_table) ≡ false
none_all p [] h j l = absurd (omega (arith, l))
none_all p (x ∷ xs) h j l = go (p x) refl h (none_all p xs) j l
  where
    go : (b : Bool) → p x ≡ b → length (x ∷ xs) ≤ cond (not b) (1 + position_or_len p xs) 0 → (length xs ≤ position_or_len p xs → (k : ℕ) → k < length xs → p (get_or xs k no_table) ≡ false)
        → (k : ℕ) → k < length (x ∷ xs) → p (get_or (x ∷ xs) k no_table) ≡ false
    go true is late later k l = absurd (omega (arith, late))
    go false is late later zero l = is
    go false is late later (suc k) l = later (omega (arith, late)) k (omega (arith, l))
