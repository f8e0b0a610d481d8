-- Where a name stands among the declared ones: at the first of that name, if there is one.
use Rattle.std.specs.Prelude.{ℕ, List, Option, position, find, bytes_eq}
use Rattle.melon_schema.specs.declared.schema.ColumnSchema.{ColumnSchema}
use Rattle.melon_schema.specs.declared.schema.TableSchema.{TableSchema}

abbrev pub table_named : List ℕ → List TableSchema → Option ℕ
table_named name tables = position (λ t. bytes_eq name t.name) tables

abbrev pub column_named : List ℕ → List ColumnSchema → Option ℕ
column_named name columns = position (λ c. bytes_eq c.name name) columns

-- the table of that name
abbrev pub declared_table : List ℕ → List TableSchema → Option TableSchema
declared_table name tables = find (λ t. bytes_eq name t.name) tables
