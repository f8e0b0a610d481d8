-- When a condition is true of a tuple.
use Rattle.std.specs.Prelude.{Bool, true, false, ◌&&◌, ◌||◌, List, [], ◌∷◌, ◌++◌, Option, Some, None}
use Rattle.melon_raw.specs.declared.raw.Raw.{Raw}
use Rattle.melon_query.specs.declared.query.Cond.{Cond, fold-Cond}
use Rattle.melon_query.specs.declared.query.Cond.TheOpen.{Cond-F}
use Rattle.melon_query.specs.declared.query.Joined.{Joined}
use Rattle.melon_query.specs.Tuples.{Tuple, alone, member_of}
use Rattle.melon_query.specs.Truth.{compares}

-- every one, or one, is true of the tuple
abbrev pub every : List (Tuple → Bool) → Tuple → Bool
every [] tuple = true
every (p ∷ ps) tuple = p tuple && every ps tuple

abbrev pub some_one : List (Tuple → Bool) → Tuple → Bool
some_one [] tuple = false
some_one (p ∷ ps) tuple = p tuple || some_one ps tuple

-- the row isn't absent, and every one is true of it
abbrev pub every_of : List (Tuple → Bool) → Option Raw → Bool
every_of ps None = false
every_of ps (Some row) = every ps (alone row)

abbrev pub holds_step : Cond-F (Tuple → Bool) → Tuple → Bool
holds_step (Cond-F.Compare by) tuple = compares by tuple.main
holds_step (Cond-F.All parts) tuple = every parts tuple
holds_step (Cond-F.Any parts) tuple = some_one parts tuple
holds_step (Cond-F.On table join parts) tuple = every_of parts (member_of table tuple.members)

abbrev pub holds : Cond → Tuple → Bool
holds = fold-Cond (Tuple → Bool) holds_step

abbrev pub all_hold : List Cond → Tuple → Bool
all_hold [] tuple = true
all_hold (c ∷ cs) tuple = holds c tuple && all_hold cs tuple

abbrev pub some_holds : List Cond → Tuple → Bool
some_holds [] tuple = false
some_holds (c ∷ cs) tuple = holds c tuple || some_holds cs tuple

abbrev pub all_hold_of : List Cond → Option Raw → Bool
all_hold_of cs None = false
all_hold_of cs (Some row) = all_hold cs (alone row)

-- the tables of the `on`s that a condition has, in their order
abbrev pub ons_of_each : List (List Joined) → List Joined
ons_of_each [] = []
ons_of_each (js ∷ jss) = js ++ ons_of_each jss

abbrev pub ons_step : Cond-F (List Joined) → List Joined
ons_step (Cond-F.Compare by) = []
ons_step (Cond-F.All parts) = ons_of_each parts
ons_step (Cond-F.Any parts) = ons_of_each parts
ons_step (Cond-F.On table join parts) = record { table = table; join = join } ∷ []

abbrev pub ons : Cond → List Joined
ons = fold-Cond (List Joined) ons_step
