-- What every table keeps.
use Rattle.std.specs.Prelude.{◌≡◌, List, true}
use Rattle.std.specs.List.{AllByRecursion}
use Rattle.melon_schema.specs.declared.schema.ColumnSchema.{ColumnSchema}
use Rattle.melon_raw.specs.declared.raw.Raw.{Raw}
use Rattle.melon_raw.specs.Rows.{Fits, is_ascending}

-- each row is one of a table with these columns
abbrev pub AllFit : List ColumnSchema → List Raw → Type 0
AllFit columns rows = AllByRecursion (Fits columns) rows

-- The ids ascend, each once, and each row fits the columns.
pub record IsKept (columns : List ColumnSchema) (rows : List Raw) : Type 0 where
  pub ascending : is_ascending rows ≡ true
  pub fitting : AllFit columns rows
