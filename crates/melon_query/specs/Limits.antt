-- How large a query may be.
use Rattle.std.specs.Prelude.{ℕ, ◌+◌, ◌-◌, List, [], ◌∷◌, ◌++◌, length, Bool, true, ◌&&◌, nat_lt, nat_le, Option, Some, None, map, bytes_eq, if◌then◌else◌}
use Rattle.std.specs.List.{list_all, list_any}
use Rattle.melon_query.specs.declared.cond_form.RightForm.{RightForm}
use Rattle.melon_query.specs.declared.cond_form.RightForm.TheVariants.{One, Many, Other}
use Rattle.melon_query.specs.declared.cond_form.CondForm.{CondForm, fold-CondForm}
use Rattle.melon_query.specs.declared.cond_form.CondForm.TheOpen.{CondForm-F}
use Rattle.melon_query.specs.declared.query_form.QueryForm.{QueryForm}

-- ---- depth

-- the parts of an `and`, an `or` or an `on`, each with one more above it
abbrev pub parts_have_room : List (ℕ → Bool) → ℕ → Bool
parts_have_room [] left = true
parts_have_room (p ∷ ps) left = nat_lt 0 left && (p (left - 1) && parts_have_room ps left)

abbrev pub room_step : CondForm-F (ℕ → Bool) → ℕ → Bool
room_step (CondForm-F.Compare by) left = true
room_step (CondForm-F.All parts) left = parts_have_room parts left
room_step (CondForm-F.Any parts) left = parts_have_room parts left
room_step (CondForm-F.On table parts) left = parts_have_room parts left

-- each condition in it has at most as many of `and`, `or` and `on` above it, counted from here
abbrev pub has_room : CondForm → ℕ → Bool
has_room = fold-CondForm (ℕ → Bool) room_step

abbrev pub all_have_room : List CondForm → ℕ → Bool
all_have_room [] left = true
all_have_room (c ∷ cs) left = nat_lt 0 left && (has_room c (left - 1) && all_have_room cs left)

-- ---- numbers

-- what is counted of one condition: the values of its list, and the table that it joins
pub record Node : Type 0 where
  pub values : ℕ
  pub table : Option (List ℕ)

abbrev pub values_in : RightForm → ℕ
values_in (One value) = 0
values_in (Many values) = length values
values_in (Other column) = 0

abbrev pub joined : List (List Node) → List Node
joined [] = []
joined (ns ∷ nss) = ns ++ joined nss

abbrev pub node_step : CondForm-F (List Node) → List Node
node_step (CondForm-F.Compare by) = record { values = values_in by.right; table = None } ∷ []
node_step (CondForm-F.All parts) = record { values = 0; table = None } ∷ joined parts
node_step (CondForm-F.Any parts) = record { values = 0; table = None } ∷ joined parts
node_step (CondForm-F.On table parts) = record { values = 0; table = Some table } ∷ joined parts

-- each condition in it, itself the first
abbrev pub nodes : CondForm → List Node
nodes = fold-CondForm (List Node) node_step

abbrev pub all_nodes : List CondForm → List Node
all_nodes [] = []
all_nodes (c ∷ cs) = nodes c ++ all_nodes cs

-- a condition that joins this table or none, and each in its parts
abbrev pub node_above : Option (List ℕ) → List CondForm → List Node
node_above table parts = record { values = 0; table = table } ∷ all_nodes parts

abbrev pub is_named : List ℕ → List (List ℕ) → Bool
is_named name names = list_any (λ n. bytes_eq n name) names

-- one more name, unless it is there
abbrev pub with_name : List (List ℕ) → Option (List ℕ) → List (List ℕ)
with_name names None = names
with_name names (Some name) = if is_named name names then names else names ++ name ∷ []

-- the different tables that are joined
abbrev pub tables_in : List (List ℕ) → List Node → List (List ℕ)
tables_in names [] = names
tables_in names (n ∷ ns) = tables_in (with_name names n.table) ns

-- at most 256 conditions, 1000 values in one list and 8 joined tables
unfoldable pub are_few : List Node → Bool
are_few ns = nat_le (length ns) 256 && (list_all (λ n. nat_le n.values 1000) ns && nat_le (length (tables_in [] ns)) 8)

-- and at most 16 of `and`, `or` and `on` above each condition
abbrev pub is_within_limits : QueryForm → Bool
is_within_limits form = list_all (λ c. has_room c 16) form.conds && are_few (all_nodes form.conds)
