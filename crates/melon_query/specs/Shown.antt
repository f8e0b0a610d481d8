-- Rows as they are shown.
use Rattle.std.specs.Prelude.{ℕ, List, map}
use Rattle.melon_raw.specs.declared.datum.Datum.{Datum}
use Rattle.melon_raw.specs.declared.raw.Raw.{Raw}
use Rattle.melon_raw.specs.Rows.{cell}
use Rattle.melon_query.specs.declared.shown.Shown.{Shown}

-- the cells of these columns; a column past the last is null
abbrev pub cells_at : List ℕ → Raw → List Datum
cells_at columns row = map (λ c. cell row c) columns

-- a row as it is shown with these columns
abbrev pub shown_row : List ℕ → Raw → Shown
shown_row columns row = record { id = row.id; cells = cells_at columns row }
