-- Tables as a schema declares them.
use Rattle.std.specs.Prelude.{◌≡◌, List, Bool, true, not, ◌&&◌}
use Rattle.std.specs.List.{list_all, AllByRecursion}
use Rattle.melon_schema.specs.Names.{is_name, is_reserved_column, are_distinct}
use Rattle.melon_schema.specs.Seen.{SeenSchema}
use Rattle.melon_schema.specs.declared.schema.ColumnSchema.{ColumnSchema}
use Rattle.melon_schema.specs.declared.schema.TableSchema.{TableSchema}

abbrev pub is_well_named : ColumnSchema → Bool
is_well_named column = is_name column.name && not (is_reserved_column column.name)

-- The columns have names after the rule for names, none of them reserved and none twice.
pub record AreSound (columns : List ColumnSchema) : Type 0 where
  pub named : list_all is_well_named columns ≡ true
  pub distinct : are_distinct (λ c. c.name) columns ≡ true

-- no two tables have one name
abbrev pub have_different_names : List TableSchema → Bool
have_different_names tables = are_distinct (λ t. t.name) tables

abbrev pub HasSoundColumns : TableSchema → Type 0
HasSoundColumns table = AreSound table.columns

-- The tables have different names, and each has sound columns.
pub record IsSoundSchema (schema : SeenSchema) : Type 0 where
  pub names : have_different_names schema.tables ≡ true
  pub columns : AllByRecursion HasSoundColumns schema.tables
