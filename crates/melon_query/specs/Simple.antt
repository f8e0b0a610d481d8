-- Simple queries, and the tables that a query reads.
use Rattle.std.specs.Prelude.{ℕ, ◌==◌, List, [], ◌∷◌, ◌++◌, length, filter, Bool, true, false, not, ◌&&◌, ◌||◌, nat_lt, is_none}
use Rattle.std.specs.List.{list_any}
use Rattle.melon_query.specs.declared.query.Cond.{Cond, fold-Cond}
use Rattle.melon_query.specs.declared.query.Cond.TheOpen.{Cond-F}
use Rattle.melon_query.specs.declared.query.Joined.{Joined}
use Rattle.melon_query.specs.declared.query.Query.{Query}
use Rattle.melon_query.specs.Fresh.{all_ons}

abbrev pub one_true : List Bool → Bool
one_true [] = false
one_true (b ∷ bs) = b || one_true bs

abbrev pub has_on_step : Cond-F Bool → Bool
has_on_step (Cond-F.Compare by) = false
has_on_step (Cond-F.All parts) = one_true parts
has_on_step (Cond-F.Any parts) = one_true parts
has_on_step (Cond-F.On table join parts) = true

-- an `on` stands in it
abbrev pub has_on : Cond → Bool
has_on = fold-Cond Bool has_on_step

abbrev pub one_has_on : List Cond → Bool
one_has_on [] = false
one_has_on (c ∷ cs) = has_on c || one_has_on cs

-- without `on`, sort, take and skip
unfoldable pub is_simple : Query → Bool
is_simple q = not (one_has_on q.conds) && ((length q.sort == 0) && (is_none q.take && (q.skip == 0)))

-- the place among ascending ones, once
abbrev pub with_place : List ℕ → ℕ → List ℕ
with_place places place = filter (λ p. nat_lt p place) places ++ place ∷ filter (λ p. nat_lt place p) places

abbrev pub with_places : List ℕ → List Joined → List ℕ
with_places places [] = places
with_places places (j ∷ js) = with_places (with_place places j.table) js

-- the main table and the tables of the `on`s, ascending, each once
abbrev pub tables_of : Query → List ℕ
tables_of q = with_places (q.table ∷ []) (all_ons q.conds)
