-- The answer of a query, evaluated afresh.
use Rattle.std.specs.Prelude.{ℕ, List, [], ◌∷◌, ◌++◌, map, filter, take, drop, Bool, ◌&&◌, Option, Some, None, if◌then◌else◌, ◌==◌}
use Rattle.std.specs.List.{list_any}
use Rattle.melon_raw.specs.declared.raw.Raw.{Raw}
use Rattle.melon_raw.specs.Rows.{is_visible}
use Rattle.melon_query.specs.declared.query.Cond.{Cond}
use Rattle.melon_query.specs.declared.query.Query.{Query}
use Rattle.melon_query.specs.declared.query.Joined.{Joined}
use Rattle.melon_query.specs.Tuples.{Member, members_over, rows_of}
use Rattle.melon_query.specs.Meaning.{all_hold, ons}
use Rattle.melon_query.specs.Order.{in_order, comes_before}

-- the `on`s of all conditions
abbrev pub all_ons : List Cond → List Joined
all_ons [] = []
all_ons (c ∷ cs) = ons c ++ all_ons cs

-- one more table, unless it is there
abbrev pub with_table : List Joined → Joined → List Joined
with_table joined j = if list_any (λ k. k.table == j.table) joined then joined else joined ++ j ∷ []

abbrev pub with_tables : List Joined → List Joined → List Joined
with_tables joined [] = joined
with_tables joined (j ∷ js) = with_tables (with_table joined j) js

-- each table that an `on` names, once
unfoldable pub joined_tables : List Cond → List Joined
joined_tables conds = with_tables [] (all_ons conds)

-- some members, these first, make all conditions true
unfoldable pub some_members : List Cond → List (List Raw) → Raw → List Member → List Joined → Bool
some_members conds tables main chosen joined = list_any (λ ms. all_hold conds (record { main = main; members = chosen ++ ms })) (members_over tables main joined)

-- it is visible, and one of its tuples makes all conditions true
abbrev pub is_chosen : List Cond → List (List Raw) → Raw → Bool
is_chosen conds tables main = is_visible main.status && some_members conds tables main [] (joined_tables conds)

abbrev pub at_most : {X : Type 0} → Option ℕ → List X → List X
at_most None xs = xs
at_most (Some n) xs = take n xs

-- the ids of the chosen rows in order, without those skipped, and at most those taken
unfoldable pub fresh : Query → List (List Raw) → List (List ℕ)
fresh q tables = map (λ row. row.id) (at_most q.take (drop q.skip (in_order (comes_before q.sort) (filter (is_chosen q.conds tables) (rows_of q.table tables)))))
