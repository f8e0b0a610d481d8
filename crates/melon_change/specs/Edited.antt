-- What new values do to a row: its cells, the columns that differ, its marks and its status.
use Rattle.std.specs.Prelude.{ℕ, ◌==◌, ◌+◌, List, [], ◌∷◌, ◌++◌, length, get_or, filter, find, Bool, true, false, not, Option, Some, None, if◌then◌else◌}
use Rattle.std.specs.List.{range_with_len}
use Rattle.melon_schema.specs.declared.schema.ColumnSchema.{ColumnSchema}
use Rattle.melon_raw.specs.declared.datum.Datum.{Datum}
use Rattle.melon_raw.specs.declared.datum.Datum.TheVariants.{Null}
use Rattle.melon_raw.specs.declared.raw.Status.{Status}
use Rattle.melon_raw.specs.declared.raw.Status.TheVariants.{Created, Updated, Deleted, Synced}
use Rattle.melon_raw.specs.declared.raw.Raw.{Raw}
use Rattle.melon_raw.specs.Datum.{fit, datum_eq}
use Rattle.melon_raw.specs.Order.{is_below}
use Rattle.melon_raw.specs.Rows.{has, column_at}

-- ---- cells

-- a given value as its column keeps it, or the old cell
abbrev pub new_cell : Datum → ColumnSchema → Option (ℕ × Datum) → Datum
new_cell old column None = old
new_cell old column (Some field) = fit column field.1

-- of each cell the value that is given for its column, from the column at place c on
abbrev pub cells_with : List (ℕ × Datum) → ℕ → List ColumnSchema → List Datum → List Datum
cells_with fields c [] cells = cells
cells_with fields c (column ∷ columns) [] = []
cells_with fields c (column ∷ columns) (d ∷ ds) = new_cell d column (find (λ field. field.0 == c) fields) ∷ cells_with fields (c + 1) columns ds

-- ---- the columns that differ, ascending by name

abbrev pub name_at : List ColumnSchema → ℕ → List ℕ
name_at columns c = (column_at columns c).name

abbrev pub put_column : List ColumnSchema → ℕ → List ℕ → List ℕ
put_column columns c [] = c ∷ []
put_column columns c (d ∷ ds) = if is_below (name_at columns d) (name_at columns c) then d ∷ put_column columns c ds else c ∷ d ∷ ds

abbrev pub by_name : List ColumnSchema → List ℕ → List ℕ
by_name columns [] = []
by_name columns (c ∷ cs) = put_column columns c (by_name columns cs)

abbrev pub differs : List Datum → List Datum → ℕ → Bool
differs before after c = not (datum_eq (get_or before c Null) (get_or after c Null))

-- the places of the columns whose cells differ, ascending by the columns' names
abbrev pub differing : List ColumnSchema → List Datum → List Datum → List ℕ
differing columns before after = by_name columns (filter (differs before after) (range_with_len 0 (length columns)))

-- ---- marks and status

-- the marks, and behind them those of the columns that weren't there
abbrev pub appended : List ℕ → List ℕ → List ℕ
appended marks columns = marks ++ filter (λ c. not (has c marks)) columns

-- a synced row with a differing cell becomes updated
abbrev pub status_after : Status → List ℕ → Status
status_after Created columns = Created
status_after Updated columns = Updated
status_after Deleted columns = Deleted
status_after Synced [] = Synced
status_after Synced (c ∷ cs) = Updated

abbrev pub row_with : List ColumnSchema → List Datum → Raw → Raw
row_with columns cells row = record {
  id = row.id;
  status = status_after row.status (differing columns row.cells cells);
  marks = appended row.marks (differing columns row.cells cells);
  cells = cells;
}

-- The row with the given values: the columns whose cells differ are marked, ascending by name.
abbrev pub row_updated : List ColumnSchema → List (ℕ × Datum) → Raw → Raw
row_updated columns fields row = row_with columns (cells_with fields 0 columns row.cells) row
