-- When a backend stands for a log.
use Rattle.std.specs.Prelude.{◌≡◌, ℕ, [], length, get_or, true, Option, Some, None}
use Rattle.std.specs.List.{AllByRecursion}
use Rattle.melon_log.specs.declared.server_row.ServerRow.{ServerRow}
use Rattle.melon_log.specs.ServerRows.{do_ascend}
use Rattle.melon_log.specs.Log.{Log, revision, server_rows}
use Rattle.melon_log.specs.Laws.{NamesApart}
use Rattle.melon_backend.specs.Backends.{SeenBackend}

-- The backend has the log's schema, its revision, and its rows now.
pub record Stands (g : Log) (b : SeenBackend) : Type 0 where
  pub schema : g.schema ≡ b.schema.tables
  pub apart : NamesApart g.schema
  pub revision : revision g ≡ b.revision
  pub rows : server_rows g ≡ b.rows

-- The log of a backend that was opened: its rows and its revision then, and no pushes.
abbrev pub opened_log : SeenBackend → Log
opened_log b = record { schema = b.schema.tables; opening = b.rows; first = b.revision; pushes = [] }

-- a deleted row has no cells
abbrev pub bare_if : Option ℕ → ServerRow → Type 0
bare_if None row = Unit {0}
bare_if (Some r) row = row.cells ≡ []

abbrev pub IsBareIfDeleted : ServerRow → Type 0
IsBareIfDeleted row = bare_if row.deleted row

-- There is a list of rows for each declared table, and each ascends by id. Deleted rows have no cells.
pub record IsWellKept (b : SeenBackend) : Type 0 where
  pub long : length b.rows ≡ length b.schema.tables
  pub ascending : (i : ℕ) → do_ascend (get_or b.rows i []) ≡ true
  pub bare : (i : ℕ) → AllByRecursion IsBareIfDeleted (get_or b.rows i [])
