-- What is read is written so.
use Rattle.std.proofs.Common.{◌≡◌, ℕ, List, [], ◌∷◌, false, codes, Option, Some, None, bytes_eq, refl, sym, ap, ◌∙◌}
use Rattle.serde_json.specs.Data.{Data, string, no_members, put}
use Rattle.serde_json.specs.Written.{has_float}
use Rattle.melon_schema.specs.Bytes.{json_of}
use Rattle.melon_schema.specs.Json.{◌>>=◌}
use Rattle.melon_schema.specs.declared.schema.TableSchema.{TableSchema}
use Rattle.melon_schema.specs.declared.schema.ColumnSchema.{ColumnSchema}
use Rattle.melon_raw.proofs.Encoded.{no_float-put, no_float-with_cells}
use Rattle.melon_wire.proofs.KeyOrder.{split, same_bytes}
use Rattle.melon_log.specs.declared.server_row.ServerRow.{ServerRow}
use Rattle.melon_log.proofs.ById.{some_same, none_some}
use Rattle.melon_backend.specs.Bodies.{body, row_in, if_body, kept_row, revision_data, deletion_data, row_data, body_data, rows_data}

module _ (table : TableSchema) (bytes : List ℕ) (row : ServerRow) where
  if-is : (r : ServerRow) → if_body table bytes r ≡ Some row → body table row ≡ bytes
  if-is r h = split (bytes_eq (body table r) bytes)
      (λ e. ap (body table) (sym (some_same r row (rw e at h))) ∙ same_bytes (body table r) bytes e)
      (λ e. absurd (none_some row (rw e at h)))

  read-is : (o : Option ServerRow) → (o >>= if_body table bytes) ≡ Some row → body table row ≡ bytes
  read-is None h = cc
  read-is (Some r) h = if-is r h

  json-is : (o : Option Data) → (o >>= λ d. row_in table.columns d >>= if_body table bytes) ≡ Some row → body table row ≡ bytes
  json-is None h = cc
  json-is (Some d) h = read-is (row_in table.columns d) h

  pub kept_row-is : kept_row table bytes ≡ Some row → body table row ≡ bytes
  unfolding kept_row
  kept_row-is h = json-is (json_of bytes) h

-- ---- no number of a body has a point

deletion_float : (d : Option ℕ) → has_float (deletion_data d) ≡ false
deletion_float None = refl
deletion_float (Some r) = refl

row_float : (columns : List ColumnSchema) (row : ServerRow) → has_float (row_data columns row) ≡ false
row_float columns row = no_float-with_cells columns row.cells (put (codes "id") (string row.id) no_members) (no_float-put (codes "id") (string row.id) no_members refl refl)

pub body_float : (columns : List ColumnSchema) (row : ServerRow) → has_float (body_data columns row) ≡ false
body_float columns row =
    let changed = put (codes "changed") (revision_data row.changed) no_members in
    let created = put (codes "created") (revision_data row.created) changed in
    let deleted = put (codes "deleted") (deletion_data row.deleted) created in
    no_float-put (codes "row") (row_data columns row) deleted (row_float columns row)
    (no_float-put (codes "deleted") (deletion_data row.deleted) created (deletion_float row.deleted)
    (no_float-put (codes "created") (revision_data row.created) changed refl (no_float-put (codes "changed") (revision_data row.changed) no_members refl refl)))

pub rows_float : (columns : List ColumnSchema) (rows : List ServerRow) → has_float (rows_data columns rows) ≡ false
rows_float columns [] = refl
rows_float columns (r ∷ rs) = let ih : has_float (rows_data columns rs) ≡ false = rows_float columns rs in rw (body_float columns r) ih
