-- A deleted row that is read has no cells.
use Rattle.std.proofs.Common.{◌≡◌, ℕ, List, [], codes, Option, Some, None, bytes_eq, refl, sym, subst}
use Rattle.serde_json.specs.Data.{Data}
use Rattle.serde_json.specs.Find.{get}
use Rattle.melon_schema.specs.Json.{◌>>=◌, text_at}
use Rattle.melon_schema.specs.Bytes.{json_of}
use Rattle.melon_schema.specs.declared.schema.ColumnSchema.{ColumnSchema}
use Rattle.melon_schema.specs.declared.schema.TableSchema.{TableSchema}
use Rattle.melon_raw.specs.declared.datum.Datum.{Datum}
use Rattle.melon_raw.specs.Decoding.{id_in}
use Rattle.melon_wire.proofs.KeyOrder.{split}
use Rattle.melon_log.specs.declared.server_row.ServerRow.{ServerRow}
use Rattle.melon_log.proofs.ById.{some_same, none_some}
use Rattle.melon_backend.specs.Bodies.{body, row_in, revision_at, deletion_at, cells_in, if_body, kept_row}
use Rattle.melon_backend.specs.Standing.{IsBareIfDeleted}

some_then : {X Y : Type 0} (o : Option X) (f : X → Option Y) (y : Y) → (o >>= f) ≡ Some y → (x : X) × (o ≡ Some x) × (f x ≡ Some y)
some_then None f y h = cc
some_then (Some x) f y h = (x, refl, h)

bare_cells : (columns : List ColumnSchema) (d : Option ℕ) (inner : Data) (id : List ℕ) (created changed : ℕ) (cells : List Datum) → cells_in columns d inner ≡ Some cells
    → IsBareIfDeleted (record { id = id; created = created; changed = changed; deleted = d; cells = cells })
bare_cells columns None inner id created changed cells h = tt
bare_cells columns (Some r) inner id created changed cells h = sym (some_same [] cells h)

row_in-bare : (columns : List ColumnSchema) (d : Data) (row : ServerRow) → row_in columns d ≡ Some row → IsBareIfDeleted row
unfolding row_in
row_in-bare columns d row h =
    let changed = some_then (revision_at (codes "changed") d) _ row h in
    let created = some_then (revision_at (codes "created") d) _ row changed.2 in
    let deleted = some_then (deletion_at (codes "deleted") d) _ row created.2 in
    let inner = some_then (get (codes "row") d) _ row deleted.2 in
    let text = some_then (text_at (codes "id") inner.0) _ row inner.2 in
    let id = some_then (id_in text.0) _ row text.2 in
    let cells = some_then (cells_in columns deleted.0 inner.0) _ row id.2 in
    subst IsBareIfDeleted (some_same (record { id = id.0; created = created.0; changed = changed.0; deleted = deleted.0; cells = cells.0 }) row cells.2)
    (bare_cells columns deleted.0 inner.0 id.0 created.0 changed.0 cells.0 cells.1)

if_body-same : (table : TableSchema) (bytes : List ℕ) (made row : ServerRow) → if_body table bytes made ≡ Some row → made ≡ row
if_body-same table bytes made row h = split (bytes_eq (body table made) bytes) (λ e. some_same made row (rw e at h)) (λ e. absurd (none_some row (rw e at h)))

pub kept_row-bare : (table : TableSchema) (bytes : List ℕ) (row : ServerRow) → kept_row table bytes ≡ Some row → IsBareIfDeleted row
unfolding kept_row
kept_row-bare table bytes row h =
    let d = some_then (json_of bytes) _ row h in
    let made = some_then (row_in table.columns d.0) (if_body table bytes) row d.2 in
    subst IsBareIfDeleted (if_body-same table bytes made.0 row made.2) (row_in-bare table.columns d.0 made.0 made.1)
