-- A store as it is opened over what is kept.
use Rattle.std.specs.Prelude.{◌≡◌, ℕ, ◌==◌, List, [], ◌∷◌, ◌++◌, map, get_or, set, find, Bool, true, false, Option, Some, None, option_map, unwrap_or, option_and_then, Result, Ok, Err, ⊤, bytes_eq, if◌then◌else◌}
use Rattle.melon_schema.specs.Faults.{◌>>=◌, unless, or_fault, in_turn}
use Rattle.melon_schema.specs.Seen.{SeenSchema}
use Rattle.melon_schema.specs.Places.{table_named}
use Rattle.melon_schema.specs.declared.schema.TableSchema.{TableSchema}
use Rattle.melon_raw.specs.declared.raw.Raw.{Raw}
use Rattle.melon_raw.specs.Rows.{Rows, table_at, put_row}
use Rattle.melon_raw.specs.Decoding.{kept_row}
use Rattle.melon_outside.specs.declared.kept.Kept.{Kept}
use Rattle.melon_outside.specs.declared.kept.KeptRow.{KeptRow}
use Rattle.melon_outside.specs.declared.kept.KeptValue.{KeptValue}
use Rattle.melon_outside.specs.declared.kept.KeptBatch.{KeptBatch}
use Rattle.melon_outside.specs.declared.kept.OpenFault.{OpenFault}
use Rattle.melon_outside.specs.declared.kept.OpenFault.TheVariants.{BadRow, Version}
use Rattle.melon_board.specs.Stores.{SeenStore}
use Rattle.melon_board.specs.Batches.{value, values_batch, last_name, version_name}
use Rattle.melon_board.specs.Plans.{Plan}

-- ---- rows

-- a row that is kept under its own id
abbrev pub with_id : List ℕ → Raw → Option Raw
with_id id row = if bytes_eq row.id id then Some row else None

abbrev pub row_in_table : List TableSchema → KeptRow → ℕ → Option (ℕ × Raw)
row_in_table schema kept t = option_map (λ row. (t, row)) (option_and_then (with_id kept.id) (kept_row (table_at schema t) kept.body))

-- the table's place and the row whose encoding is kept so, under its id; none where there is no such row
abbrev pub row_kept : List TableSchema → KeptRow → Option (ℕ × Raw)
row_kept schema kept = option_and_then (row_in_table schema kept) (table_named kept.table schema)

abbrev pub with_row : Rows → ℕ × Raw → Rows
with_row rows found = set rows found.0 (put_row found.1 (get_or rows found.0 []))

-- one kept row more
abbrev pub row_opened : List TableSchema → Rows → KeptRow → Result Rows OpenFault
row_opened schema rows kept = or_fault (row_kept schema kept) (BadRow kept.table kept.id) >>= λ found. Ok (with_row rows found)

abbrev pub no_rows : List TableSchema → Rows
no_rows schema = map (λ _. []) schema

-- the rows that are kept, or the first that is none of its table
abbrev pub rows_opened : List TableSchema → List KeptRow → Result Rows OpenFault
rows_opened schema kept = in_turn (row_opened schema) (no_rows schema) kept

-- ---- values

abbrev pub number_of : KeptValue → ℕ
number_of v = v.number

-- the value that is kept under a name
abbrev pub value_in : List ℕ → List KeptValue → Option ℕ
value_in name values = option_map number_of (find (λ v. bytes_eq v.name name) values)

-- the version that is kept is this one, where one is kept
abbrev pub same_version : Option ℕ → ℕ → Result ⊤ OpenFault
same_version None version = Ok tt
same_version (Some stored) version = unless (stored == version) (Version stored)

abbrev pub unless_kept : List ℕ → ℕ → Option ℕ → List KeptValue
unless_kept name number None = value name number ∷ []
unless_kept name number (Some kept) = []

-- the values that have no value yet, by name
abbrev pub missing_values : ℕ → List KeptValue → List KeptValue
missing_values version values =
    unless_kept last_name 0 (value_in last_name values) ++ unless_kept version_name version (value_in version_name values)

abbrev pub batch_if_any : List KeptValue → Option KeptBatch
batch_if_any [] = None
batch_if_any (v ∷ vs) = Some (values_batch (v ∷ vs))

-- ---- the opening

-- The store over what is kept under its name: first its rows are read, and then its version is compared.
unfoldable pub open_plan : List ℕ → SeenSchema → Kept → Result Plan OpenFault
open_plan name schema kept = do
  rows ← rows_opened schema.tables kept.rows
  same ← same_version (value_in version_name kept.values) schema.version
  Ok (record {
    batch = batch_if_any (missing_values schema.version kept.values);
    after = record { name = name; schema = schema; rows = rows; entries = []; last = unwrap_or (value_in last_name kept.values) 0 };
  })

-- The opened store, or why it isn't.
abbrev pub opened : List ℕ → SeenSchema → Kept → Result SeenStore OpenFault
opened name schema kept = open_plan name schema kept >>= λ plan. Ok plan.after
