-- Ids and names go by their bytes.
use Rattle.std.specs.Prelude.{ℕ, List, Bool}
use Rattle.std.specs.Ordering.{nat_cmp, is_lt}
use Rattle.std.specs.Cmp.Lexicographic.{slice_cmp}
use Rattle.std.specs.declared.cmp.Ordering.{Ordering}

abbrev pub id_cmp : List ℕ → List ℕ → Ordering
id_cmp a b = slice_cmp nat_cmp a b

abbrev pub is_below : List ℕ → List ℕ → Bool
is_below a b = is_lt (id_cmp a b)
