-- What is shown of rows, and what a history shows after so many of its entries.
use Rattle.std.specs.Prelude.{ℕ, List, map, Option, Some, None}
use Rattle.melon_raw.specs.declared.datum.Datum.{Datum}
use Rattle.melon_raw.specs.declared.datum.Datum.TheVariants.{Null}
use Rattle.melon_raw.specs.declared.raw.Raw.{Raw}
use Rattle.melon_raw.specs.Rows.{Rows, at_id, cell}
use Rattle.melon_query.specs.declared.query.Query.{Query}
use Rattle.melon_query.specs.Tuples.{rows_of}
use Rattle.melon_query.specs.Fresh.{fresh}
use Rattle.melon_change.specs.History.{History, replay_to}
use Rattle.melon_views.specs.declared.emission.Shape.{Shape}
use Rattle.melon_views.specs.declared.emission.Shape.TheVariants as shape
use Rattle.melon_query.specs.declared.shown.Shown.{Shown}
use Rattle.melon_views.specs.declared.emission.Emission.{Emission}
use Rattle.melon_views.specs.declared.emission.Emission.TheVariants as emission

-- the cell of a row; that of no row is null
abbrev pub cell_of : Option Raw → ℕ → Datum
cell_of None column = Null
cell_of (Some row) column = cell row column

-- an id, with the cells of these columns of its row
abbrev pub shown_at : List ℕ → List Raw → List ℕ → Shown
shown_at columns rows id = record { id = id; cells = map (cell_of (at_id id rows)) columns }

-- the ids that a query answers, in its order, with the cells of these columns
abbrev pub shown_rows : Query → List ℕ → Rows → List Shown
shown_rows q columns rows = map (shown_at columns (rows_of q.table rows)) (fresh q rows)

-- the answer evaluated afresh, or its ids with the cells that are named
abbrev pub shown : Query → Shape → Rows → Emission
shown q shape.Ids rows = emission.Ids (fresh q rows)
shown q (shape.Columns columns) rows = emission.Rows (shown_rows q columns rows)

-- what is shown after the first n entries
abbrev pub view : Query → Shape → History → ℕ → Emission
view q s h n = shown q s (replay_to h n)
