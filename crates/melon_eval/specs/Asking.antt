-- What the `on`s of conditions ask of the rows of their tables.
use Rattle.std.specs.Prelude.{ℕ, Bool, List, [], ◌∷◌, ◌++◌, length, ◌==◌, not, ◌||◌, ◌&&◌, true, false, Option, if◌then◌else◌}
use Rattle.melon_query.specs.declared.query.Cond.{Cond, fold-Cond}
use Rattle.melon_query.specs.declared.query.Cond.TheOpen.{Cond-F}
use Rattle.melon_query.specs.Tuples.{Tuple, member_of}
use Rattle.melon_query.specs.Meaning.{every_of, holds_step}
use Rattle.melon_raw.specs.declared.raw.Raw.{Raw}

-- an `on`: its table, and its parts, which are to hold of a row
pub record Asked : Type 0 where
  pub table : ℕ
  pub parts : List (Tuple → Bool)

-- the truth of a condition, with what its `on`s ask
pub record Read : Type 0 where
  pub truth : Tuple → Bool
  pub asks : List Asked

abbrev pub truths : List Read → List (Tuple → Bool)
truths [] = []
truths (r ∷ rs) = r.truth ∷ truths rs

abbrev pub all_asks : List Read → List Asked
all_asks [] = []
all_asks (r ∷ rs) = r.asks ++ all_asks rs

abbrev pub read_step : Cond-F Read → Read
read_step (Cond-F.Compare by) = record { truth = holds_step (Cond-F.Compare by); asks = [] }
read_step (Cond-F.All parts) = record { truth = holds_step (Cond-F.All (truths parts)); asks = all_asks parts }
read_step (Cond-F.Any parts) = record { truth = holds_step (Cond-F.Any (truths parts)); asks = all_asks parts }
read_step (Cond-F.On table join parts) = record { truth = holds_step (Cond-F.On table join (truths parts)); asks = record { table = table; parts = truths parts } ∷ [] }

abbrev pub read : Cond → Read
read = fold-Cond Read read_step

abbrev pub asks_of : List Cond → List Asked
asks_of [] = []
asks_of (c ∷ cs) = (read c).asks ++ asks_of cs

-- no `on` stands in it
abbrev pub asks_nothing : Cond → Bool
asks_nothing c = length (read c).asks == 0

abbrev pub asks_something : Cond → Bool
asks_something c = not (asks_nothing c)

abbrev pub is_met : Asked → Tuple → Bool
is_met asked tuple = every_of asked.parts (member_of asked.table tuple.members)

-- an `on` of the table is true of the row
abbrev pub meets_any : List Asked → ℕ → Option Raw → Bool
meets_any [] table row = false
meets_any (a ∷ rest) table row = if a.table == table then every_of a.parts row || meets_any rest table row else meets_any rest table row

-- each `on` of the table that is true of the first row is true of the second
abbrev pub is_below : List Asked → ℕ → Option Raw → Option Raw → Bool
is_below [] table row other = true
is_below (a ∷ rest) table row other = if a.table == table then (every_of a.parts other || not (every_of a.parts row)) && is_below rest table row other else is_below rest table row other
