-- The rows of a joined table by the key that they hold.
use Rattle.std.specs.Prelude.{ℕ, List, [], ◌∷◌, Option, Some, None, Bool, ◌&&◌}
use Rattle.std.specs.Borrow.{Bor}
use Rattle.std.specs.HashMap.{HashMap, get_by}
use Rattle.std.specs.Str.{bytes_eq}
use Rattle.melon_raw.specs.declared.raw.Raw.{Raw}
use Rattle.melon_raw.specs.Rows.{is_visible}
use Rattle.melon_query.specs.declared.query.Col.TheVariants.{Cell}
use Rattle.melon_query.specs.Tuples.{names}
use Rattle.melon_query.specs.Values.{value_at}
use Rattle.melon_eval.specs.Seen.{rows_at}
use Rattle.melon_eval.specs.declared.groups.Group.{Group}

abbrev pub group_rows : Group → List Raw
group_rows g = g.first.now ∷ rows_at g.others.items

abbrev pub rows_under : Option Group → List Raw
rows_under None = []
rows_under (Some g) = group_rows g

-- the rows that stand under a key
abbrev pub group_of : {S : Type 0} → HashMap (Bor (List ℕ)) Group S → List ℕ → List Raw
group_of groups id = rows_under (get_by (λ k. bytes_eq id k.now) groups)

-- a visible row whose key names the id
abbrev pub is_keyed : ℕ → List ℕ → Raw → Bool
is_keyed place id row = is_visible row.status && names (value_at (Cell place) row) id
