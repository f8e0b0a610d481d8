-- When what is kept is what a backend has, or what a log amounts to.
use Rattle.std.specs.Prelude.{◌≡◌, ℕ, List, true, Option, Some, None, option_map, option_and_then, Result, Ok, Err, find, bytes_eq, ◌&&◌}
use Rattle.melon_schema.specs.Places.{table_named}
use Rattle.melon_schema.specs.declared.schema.TableSchema.{TableSchema}
use Rattle.melon_raw.specs.Rows.{Key, table_at}
use Rattle.melon_outside.specs.declared.kept.Kept.{Kept}
use Rattle.melon_outside.specs.declared.kept.KeptRow.{KeptRow}
use Rattle.melon_outside.specs.declared.kept.KeptBatch.{KeptBatch}
use Rattle.melon_outside.specs.Kept.{batched, is_in_order}
use Rattle.melon_outside.specs.Keeping.{Stores}
use Rattle.melon_wire.specs.declared.changes.Changes.{Changes}
use Rattle.melon_wire.specs.Keys.{key_at}
use Rattle.melon_log.specs.declared.server_row.ServerRow.{ServerRow}
use Rattle.melon_log.specs.ServerRows.{at}
use Rattle.melon_log.specs.Log.{Log, revision, row_now, after_push}
use Rattle.melon_backend.specs.Bodies.{body}
use Rattle.melon_backend.specs.Backends.{SeenBackend, value_in, revision_name, version_name}

-- the body that is kept of a record
abbrev pub body_of : KeptRow → List ℕ
body_of row = row.body

abbrev pub body_in : List ℕ → List ℕ → List KeptRow → Option (List ℕ)
body_in table id rows = option_map body_of (find (λ r. bytes_eq r.table table && bytes_eq r.id id) rows)

-- the body of the row of a record, where it has one
abbrev pub body_at : List TableSchema → (Key → Option ServerRow) → List ℕ → ℕ → Option (List ℕ)
body_at schema row id t = option_map (body (table_at schema t)) (row (key_at t id))

abbrev pub body_under : List TableSchema → (Key → Option ServerRow) → List ℕ → List ℕ → Option (List ℕ)
body_under schema row table id = option_and_then (body_at schema row id) (table_named table schema)

-- Kept are the bodies of these rows of records and nothing else, and the two values.
pub record KeepsRows (schema : List TableSchema) (row : Key → Option ServerRow) (now version : ℕ) (kept : Kept) : Type 0 where
  pub ordered : is_in_order kept ≡ true
  pub rows : (table id : List ℕ) → body_in table id kept.rows ≡ body_under schema row table id
  pub revision_is : value_in revision_name kept.values ≡ Some now
  pub version_is : value_in version_name kept.values ≡ Some version

-- Kept are the bodies of the backend's rows, and its revision.
abbrev pub Keeps : SeenBackend → Kept → Type 0
Keeps b kept = KeepsRows b.schema.tables (at b.rows) b.revision b.schema.version kept

-- Kept are the bodies of the log's rows now, and its revision.
abbrev pub KeepsLog : Log → ℕ → Kept → Type 0
KeepsLog g version kept = KeepsRows g.schema (row_now g) (revision g) version kept

-- what is kept once the batch is done, where there is one
abbrev pub kept_after : Option KeptBatch → Kept → Kept
kept_after None kept = kept
kept_after (Some batch) kept = batched batch kept

-- the log after the answer to a push: after a refusal it is as it was
abbrev pub log_after : {T E : Type 0} → Log → Changes → Result T E → Log
log_after g c (Ok answer) = after_push g c
log_after g c (Err fault) = g

-- Where one log's rows were kept under the name, the other's are now, and the other stores are as they were.
pub record KeepsOn (name : List ℕ) (version : ℕ) (old new : Log) (was now : Stores) : Type 0 where
  pub own : KeepsLog old version (was name) → KeepsLog new version (now name)
  pub others : (other : List ℕ) → (name ≡ other → ⊥) → now other ≡ was other
