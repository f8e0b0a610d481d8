-- The parent of a row.
use Rattle.std.specs.Prelude.{ℕ, List, [], ◌∷◌, Option, Some, None}
use Rattle.melon_raw.specs.declared.datum.Datum.{Datum}
use Rattle.melon_raw.specs.declared.datum.Datum.TheVariants.{Null, Words, Whole, Truth}
use Rattle.melon_raw.specs.declared.raw.Raw.{Raw}
use Rattle.melon_raw.specs.Rows.{Key, Rows, at, cell}
use Rattle.melon_change.specs.Changes.{key}
use Rattle.melon_change.specs.Batch.{visible}
use Rattle.melon_views.specs.declared.parent.Parent.{Parent}
use Rattle.melon_views.specs.declared.parent.Parent.TheVariants.{Nothing, Missing, Row}

-- the row that a key names, or that it is missing
abbrev pub named_row : Option Raw → Parent
named_row None = Missing
named_row (Some row) = Row row

-- by what the key column keeps: null and the empty text name nothing
abbrev pub parent_by : ℕ → Rows → Datum → Parent
parent_by to rows Null = Nothing
parent_by to rows (Words []) = Nothing
parent_by to rows (Words (b ∷ bs)) = named_row (visible (at rows (key to (b ∷ bs))))
parent_by to rows (Whole z) = Nothing
parent_by to rows (Truth b) = Nothing

abbrev pub parent_from : ℕ → ℕ → Rows → Option Raw → Parent
parent_from to column rows None = Nothing
parent_from to column rows (Some own) = parent_by to rows (cell own column)

-- the visible row in the table `to` that the column of a visible row names
abbrev pub parent_of : ℕ → ℕ → Key → Rows → Parent
parent_of to column own rows = parent_from to column rows (visible (at rows own))
