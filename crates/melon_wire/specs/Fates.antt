-- What a changes object makes of each record.
use Rattle.std.specs.Prelude.{ℕ, List, Option, Some, None, if◌then◌else◌}
use Rattle.melon_schema.specs.declared.schema.ColumnSchema.{ColumnSchema}
use Rattle.melon_schema.specs.declared.schema.TableSchema.{TableSchema}
use Rattle.melon_raw.specs.declared.raw.Raw.{Raw}
use Rattle.melon_raw.specs.Rows.{Key, Rows, at, is_visible, table_at}
use Rattle.melon_wire.specs.declared.changes.Changes.{Changes}
use Rattle.melon_wire.specs.Resolution.{row_resolved, row_born}
use Rattle.melon_wire.specs.Standing.{Standing, as_created, as_updated, as_deleted, in_no_list, standing}

-- The row of a record, by the list it stands in and by the row it meets: none, a visible one, or one marked as deleted.
abbrev pub fate : List ColumnSchema → List ℕ → Option Raw → Standing → Option Raw
fate columns id None (as_created fields) = Some (row_born columns id fields)
fate columns id (Some row) (as_created fields) = if is_visible row.status then Some (row_resolved columns row fields) else Some (row_born columns id fields)
fate columns id None (as_updated fields) = Some (row_born columns id fields)
fate columns id (Some row) (as_updated fields) = if is_visible row.status then Some (row_resolved columns row fields) else Some row
fate columns id None as_deleted = None
fate columns id (Some row) as_deleted = None
fate columns id None in_no_list = None
fate columns id (Some row) in_no_list = Some row

abbrev pub fate_of : List TableSchema → Rows → Changes → Key → Option Raw
fate_of schema rows changes x = fate (table_at schema x.table).columns x.id (at rows x) (standing schema changes x)
