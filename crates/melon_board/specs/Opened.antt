-- How far the kept rows are read.
use Rattle.std.specs.Prelude.{◌≡◌, ℕ, List}
use Rattle.melon_schema.specs.declared.schema.TableSchema.{TableSchema}
use Rattle.melon_raw.specs.declared.raw.Raw.{Raw}
use Rattle.melon_raw.specs.Rows.{table_at}
use Rattle.melon_raw.specs.Decoding.{IsRowOf}
use Rattle.melon_table.specs.Seen.{rows_of, columns_of, declared_columns}
use Rattle.melon_outside.specs.declared.kept.KeptRow.{KeptRow}
use Rattle.melon_outside.specs.declared.kept.OpenFault.{OpenFault}
use Rattle.melon_outside.specs.declared.kept.OpenFault.TheVariants.{BadRow, Version, Full, KeeperFault, Memory}
use Rattle.melon_board.specs.declared.opening.Opened.{Opened}
use Rattle.melon_board.specs.Boards.{AreKept}
use Rattle.melon_board.specs.Sizes.{stored_bytes}

-- the tables are those of the schema, their rows are kept in order, and the bytes are those of the rows
pub record IsLaidOut (schema : List TableSchema) (o : Opened) : Type 0 where
  pub columns : columns_of o.tables ≡ declared_columns schema
  pub kept : AreKept schema (rows_of o.tables)
  pub stored : o.stored ≡ stored_bytes schema (rows_of o.tables)

-- what was found is a row of its table, and is kept so
abbrev pub row_is : List TableSchema → KeptRow → ℕ × Raw → Type 0
row_is schema kept found = IsRowOf (table_at schema found.0) kept.body found.1

-- any fault but the keeper's
abbrev pub IsOfKept : OpenFault → Type 0
IsOfKept (BadRow table id) = Unit {0}
IsOfKept (Version stored) = Unit {0}
IsOfKept (Full bytes) = Unit {0}
IsOfKept KeeperFault = ⊥
IsOfKept Memory = Unit {0}
