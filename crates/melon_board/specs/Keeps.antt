-- When what is kept is what a store has.
use Rattle.std.specs.Prelude.{◌≡◌, ℕ, List, Bool, true, Option, Some, None, option_map, option_and_then, find, bytes_eq, ◌&&◌}
use Rattle.melon_schema.specs.Places.{table_named}
use Rattle.melon_schema.specs.declared.schema.TableSchema.{TableSchema}
use Rattle.melon_raw.specs.Rows.{Rows, at, table_at}
use Rattle.melon_raw.specs.Encoding.{encoding}
use Rattle.melon_outside.specs.declared.kept.Kept.{Kept}
use Rattle.melon_outside.specs.declared.kept.KeptRow.{KeptRow}
use Rattle.melon_outside.specs.Kept.{is_in_order}
use Rattle.melon_change.specs.Changes.{key}
use Rattle.melon_board.specs.Stores.{SeenStore}
use Rattle.melon_board.specs.Batches.{last_name, version_name}
use Rattle.melon_board.specs.Opening.{value_in}

-- the body that is kept of a record
abbrev pub body_of : KeptRow → List ℕ
body_of row = row.body

abbrev pub body_in : List ℕ → List ℕ → List KeptRow → Option (List ℕ)
body_in table id rows = option_map body_of (find (λ r. bytes_eq r.table table && bytes_eq r.id id) rows)

-- the encoding of the row of a record, where it has one
abbrev pub encoding_at : List TableSchema → Rows → List ℕ → ℕ → Option (List ℕ)
encoding_at schema rows id t = option_map (encoding (table_at schema t)) (at rows (key t id))

abbrev pub encoding_under : List TableSchema → Rows → List ℕ → List ℕ → Option (List ℕ)
encoding_under schema rows table id = option_and_then (encoding_at schema rows id) (table_named table schema)

-- Kept are the encodings of the store's rows and nothing else, and the two values are the store's.
pub record Keeps (store : SeenStore) (kept : Kept) : Type 0 where
  pub ordered : is_in_order kept ≡ true
  pub rows : (table id : List ℕ) → body_in table id kept.rows ≡ encoding_under store.schema.tables store.rows table id
  pub last : value_in last_name kept.values ≡ Some store.last
  pub version : value_in version_name kept.values ≡ Some store.schema.version
