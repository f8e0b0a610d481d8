-- What contracts see of a table: its columns, its rows by ascending id, and for how many more rows there is room.
use Rattle.std.specs.Prelude.{ℕ, List, map}
use Rattle.melon_schema.specs.declared.schema.ColumnSchema.{ColumnSchema}
use Rattle.melon_schema.specs.declared.schema.TableSchema.{TableSchema}
use Rattle.melon_raw.specs.declared.raw.Raw.{Raw}
use Rattle.melon_raw.specs.Rows.{Rows}

pub record SeenTable : Type 0 where
  pub columns : List ColumnSchema
  pub rows : List Raw
  pub spare : ℕ

-- What contracts see of a shelf: its rows by place, and for how many more there is room.
pub record SeenShelf : Type 0 where
  pub rows : List Raw
  pub spare : ℕ

-- of each table its rows
abbrev pub rows_of : List SeenTable → Rows
rows_of tables = map (λ t. t.rows) tables

-- of each table its columns
abbrev pub columns_of : List SeenTable → List (List ColumnSchema)
columns_of tables = map (λ t. t.columns) tables

-- of each declared table its columns
abbrev pub declared_columns : List TableSchema → List (List ColumnSchema)
declared_columns schema = map (λ t. t.columns) schema
