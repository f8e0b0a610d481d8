-- The rows of a joined table that are tried for a main row. One is left out where another meets each `on` that it meets.
use Rattle.std.specs.Prelude.{ℕ, Bool, List, [], ◌∷◌, ◌++◌, map, filter, Option, Some, ◌&&◌, if◌then◌else◌}
use Rattle.std.specs.List.{list_any, flat_map}
use Rattle.melon_raw.specs.declared.raw.Raw.{Raw}
use Rattle.melon_raw.specs.Rows.{is_visible}
use Rattle.melon_query.specs.declared.query.Cond.{Cond}
use Rattle.melon_query.specs.declared.query.Joined.{Joined}
use Rattle.melon_query.specs.Tuples.{Member, alone, is_choice, or_absent, rows_of}
use Rattle.melon_query.specs.Meaning.{all_hold}
use Rattle.melon_eval.specs.Asking.{Asked, meets_any, is_below}

-- one row more, unless one that is kept meets each `on` that it meets
abbrev pub with_kept : List Asked → ℕ → List Raw → Raw → List Raw
with_kept asks table kept row = if list_any (λ other. is_below asks table (Some row) (Some other)) kept then kept else kept ++ row ∷ []

-- and unless it meets none
abbrev pub with_row : List Asked → ℕ → List Raw → Raw → List Raw
with_row asks table kept row = if meets_any asks table (Some row) then with_kept asks table kept row else kept

-- what is kept of rows, after those that are kept already
unfoldable pub kept_rows : List Asked → ℕ → List Raw → List Raw → List Raw
kept_rows asks table kept [] = kept
kept_rows asks table kept (row ∷ rows) = kept_rows asks table (with_row asks table kept row) rows

-- of a joined table the rows that are tried, or the absent row
pub record Offer : Type 0 where
  pub table : ℕ
  pub rows : List (Option Raw)

-- what a joined table offers a main row
abbrev pub offer_at : List Asked → List (List Raw) → Raw → Joined → Offer
offer_at asks tables main j = record { table = j.table; rows = or_absent (kept_rows asks j.table [] (filter (is_choice j.join main) (rows_of j.table tables))) }

abbrev pub with_member : ℕ → List (List Member) → Option Raw → List (List Member)
with_member table later row = map (λ ms. record { table = table; row = row } ∷ ms) later

-- the product of what is offered
abbrev pub members_of : List Offer → List (List Member)
members_of [] = [] ∷ []
members_of (o ∷ os) = flat_map (with_member o.table (members_of os)) o.rows

-- some members of these offers, the chosen ones first, make all conditions true
unfoldable pub some_offered : List Cond → Raw → List Member → List Offer → Bool
some_offered conds main chosen offers = list_any (λ ms. all_hold conds (record { main = main; members = chosen ++ ms })) (members_of offers)

-- it is visible, the conditions without `on` hold of it alone, and the others with some members of these offers
abbrev pub is_chosen_by : List Cond → List Cond → Raw → List Offer → Bool
is_chosen_by plain joining main offers = is_visible main.status && (all_hold plain (alone main) && some_offered joining main [] offers)
