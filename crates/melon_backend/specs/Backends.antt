-- What contracts see of a backend, what a call is to commit, and the backend after it.
use Rattle.std.specs.Prelude.{ℕ, List, [], ◌∷◌, ◌++◌, map, codes, false, Option, Some, None, option_map, unwrap_or, option_and_then, Result, Ok, Err, ⊤, ◌==◌, find, bytes_eq, if◌then◌else◌}
use Rattle.melon_schema.specs.Faults.{◌>>=◌, unless, or_fault, in_turn}
use Rattle.melon_schema.specs.Seen.{SeenSchema}
use Rattle.melon_schema.specs.Places.{table_named}
use Rattle.melon_schema.specs.declared.schema.TableSchema.{TableSchema}
use Rattle.melon_raw.specs.Rows.{table_at}
use Rattle.melon_outside.specs.declared.kept.Kept.{Kept}
use Rattle.melon_outside.specs.declared.kept.KeptRow.{KeptRow}
use Rattle.melon_outside.specs.declared.kept.KeptValue.{KeptValue}
use Rattle.melon_outside.specs.declared.kept.KeptBatch.{KeptBatch}
use Rattle.melon_outside.specs.declared.kept.OpenFault.{OpenFault}
use Rattle.melon_outside.specs.declared.kept.OpenFault.TheVariants.{BadRow, Version}
use Rattle.melon_log.specs.declared.server_row.ServerRow.{ServerRow}
use Rattle.melon_log.specs.ServerRows.{ServerRows}
use Rattle.melon_backend.specs.Bodies.{kept_row}
use Rattle.melon_backend.specs.declared.put.Put.{Put}
use Rattle.melon_backend.specs.Rows.{with_put}

-- a name, a schema, the rows now and the revision
pub record SeenBackend : Type 0 where
  pub name : List ℕ
  pub schema : SeenSchema
  pub rows : ServerRows
  pub revision : ℕ

-- the batch that the keeper is asked to do, where it is asked at all, and the backend once that is done
pub record Plan : Type 0 where
  pub batch : Option KeptBatch
  pub after : SeenBackend

-- what a plan asks of the keeper
abbrev pub asked : {E : Type 0} → Result Plan E → Option KeptBatch
asked (Ok plan) = plan.batch
asked (Err e) = None

-- ---- values

abbrev pub value : List ℕ → ℕ → KeptValue
value name number = record { name = name; number = number }

abbrev pub revision_name : List ℕ
revision_name = codes "revision"

abbrev pub version_name : List ℕ
version_name = codes "schema_version"

abbrev pub number_of : KeptValue → ℕ
number_of v = v.number

-- the value that is kept under a name
abbrev pub value_in : List ℕ → List KeptValue → Option ℕ
value_in name values = option_map number_of (find (λ v. bytes_eq v.name name) values)

-- the version that is kept is this one, where one is kept
abbrev pub same_version : Option ℕ → ℕ → Result ⊤ OpenFault
same_version None version = Ok tt
same_version (Some stored) version = unless (stored == version) (Version stored)

abbrev pub unless_kept : List ℕ → ℕ → Option ℕ → List KeptValue
unless_kept name number None = value name number ∷ []
unless_kept name number (Some kept) = []

-- the values that have no value yet, by name
abbrev pub missing_values : ℕ → List KeptValue → List KeptValue
missing_values version values =
    unless_kept revision_name 1 (value_in revision_name values) ++ unless_kept version_name version (value_in version_name values)

-- values alone
abbrev pub values_batch : List KeptValue → KeptBatch
values_batch values = record { clear = false; removes = []; puts = []; values = values }

abbrev pub batch_if_any : List KeptValue → Option KeptBatch
batch_if_any [] = None
batch_if_any (v ∷ vs) = Some (values_batch (v ∷ vs))

-- ---- rows

-- a row that is kept under its own id
abbrev pub with_id : List ℕ → ServerRow → Option ServerRow
with_id id row = if bytes_eq row.id id then Some row else None

abbrev pub put_at : ℕ → ServerRow → Put
put_at table row = record { table = table; row = row }

abbrev pub row_in_table : List TableSchema → KeptRow → ℕ → Option Put
row_in_table schema kept t = option_map (put_at t) (option_and_then (with_id kept.id) (kept_row (table_at schema t) kept.body))

-- the row whose body is kept so, under its id, and its table's place; none where there is no such row
abbrev pub row_kept : List TableSchema → KeptRow → Option Put
row_kept schema kept = option_and_then (row_in_table schema kept) (table_named kept.table schema)

-- one kept row more
abbrev pub row_opened : List TableSchema → ServerRows → KeptRow → Result ServerRows OpenFault
row_opened schema rows kept = or_fault (row_kept schema kept) (BadRow kept.table kept.id) >>= λ p. Ok (with_put rows p)

abbrev pub no_rows : List TableSchema → ServerRows
no_rows schema = map (λ _. []) schema

-- the rows that are kept, or the first that is none of its table
abbrev pub rows_opened : List TableSchema → List KeptRow → Result ServerRows OpenFault
rows_opened schema kept = in_turn (row_opened schema) (no_rows schema) kept

-- ---- the opening

-- The backend over what is kept under its name: first its rows are read, and then its version is compared.
unfoldable pub open_plan : List ℕ → SeenSchema → Kept → Result Plan OpenFault
open_plan name schema kept = do
  rows ← rows_opened schema.tables kept.rows
  same ← same_version (value_in version_name kept.values) schema.version
  Ok (record {
    batch = batch_if_any (missing_values schema.version kept.values);
    after = record { name = name; schema = schema; rows = rows; revision = unwrap_or (value_in revision_name kept.values) 1 };
  })
