-- The members that were chosen so far.
use Rattle.std.specs.Prelude.{ℕ, List, [], ◌∷◌, ◌++◌, map, Option}
use Rattle.std.specs.Option.{option_copied}
use Rattle.melon_raw.specs.declared.raw.Raw.{Raw}
use Rattle.melon_query.specs.Tuples as tuples
use Rattle.melon_query.specs.Tuples.{Tuple}
use Rattle.melon_eval.specs.declared.matching.Member.{Member}

abbrev pub seen_member : Member → tuples.Member
seen_member m = record { table = m.table; row = option_copied m.row }

abbrev pub seen_members : List Member → List tuples.Member
seen_members ms = map seen_member ms

abbrev pub tuple_of : Raw → List Member → Tuple
tuple_of main members = record { main = main; members = seen_members members }

abbrev pub with_choice : List tuples.Member → ℕ → Option Raw → List tuples.Member
with_choice chosen table row = chosen ++ record { table = table; row = row } ∷ []
