-- How the row of a record is made and changed by its own app.
use Rattle.std.specs.Prelude.{ℕ, ◌==◌, List, [], ◌∷◌, ◌+◌, ◌++◌, find, set, Option, Some, None, if◌then◌else◌}
use Rattle.melon_schema.specs.declared.schema.ColumnSchema.{ColumnSchema}
use Rattle.melon_raw.specs.declared.datum.Datum.{Datum}
use Rattle.melon_raw.specs.declared.datum.Datum.TheVariants.{Null}
use Rattle.melon_raw.specs.declared.raw.Status.{Status}
use Rattle.melon_raw.specs.declared.raw.Status.TheVariants.{Created, Updated, Deleted, Synced}
use Rattle.melon_raw.specs.declared.raw.Raw.{Raw}
use Rattle.melon_raw.specs.Datum.{fit, datum_eq}
use Rattle.melon_raw.specs.Rows.{cell, column_at, has}

-- ---- made

-- the value that is given for the column at a place; a missing one counts as null
abbrev pub given_in : Option (ℕ × Datum) → Datum
given_in None = Null
given_in (Some field) = field.1

abbrev pub value_at : List (ℕ × Datum) → ℕ → Datum
value_at fields c = given_in (find (λ field. field.0 == c) fields)

-- of each column what it keeps of its value, from the column at place c on
abbrev pub cells_from : List (ℕ × Datum) → ℕ → List ColumnSchema → List Datum
cells_from fields c [] = []
cells_from fields c (column ∷ columns) = fit column (value_at fields c) ∷ cells_from fields (c + 1) columns

-- the new row of an app: created, without marks
abbrev pub row_created : List ColumnSchema → List ℕ → List (ℕ × Datum) → Raw
row_created columns id fields = record { id = id; status = Created; marks = []; cells = cells_from fields 0 columns }

-- ---- edited

-- an edit marks at least one column: every status but created becomes updated
abbrev pub edited_status : Status → Status
edited_status Created = Created
edited_status Updated = Updated
edited_status Deleted = Updated
edited_status Synced = Updated

abbrev pub marked : ℕ → List ℕ → List ℕ
marked c marks = if has c marks then marks else marks ++ c ∷ []

abbrev pub with_cell : ℕ → Datum → Raw → Raw
with_cell c value row = record { id = row.id; status = edited_status row.status; marks = marked c row.marks; cells = set row.cells c value }

abbrev pub edited_to : ℕ → Datum → Raw → Raw
edited_to c value row = if datum_eq (cell row c) value then row else with_cell c value row

-- One column takes a value. An equal value marks nothing and changes no status.
abbrev pub row_edited : List ColumnSchema → ℕ → Datum → Raw → Raw
row_edited columns c value row = edited_to c (fit (column_at columns c) value) row

-- ---- marked as deleted, and synced

abbrev pub row_deleted : Raw → Raw
row_deleted row = record row { status = Deleted }

abbrev pub row_synced : Raw → Raw
row_synced row = record row { status = Synced; marks = [] }
