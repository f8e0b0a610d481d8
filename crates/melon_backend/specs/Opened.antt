-- How far the kept rows are read, and what stands in a backend's fields.
use Rattle.std.specs.Prelude.{◌≡◌, ℕ, List, length}
use Rattle.melon_schema.specs.declared.schema.TableSchema.{TableSchema}
use Rattle.melon_outside.specs.declared.kept.KeptRow.{KeptRow}
use Rattle.melon_outside.specs.declared.kept.OpenFault.{OpenFault}
use Rattle.melon_outside.specs.declared.kept.OpenFault.TheVariants.{BadRow, Version, Full, KeeperFault, Memory}
use Rattle.melon_backend.specs.declared.put.Put.{Put}
use Rattle.melon_backend.specs.declared.table.ServerTable.{ServerTable}
use Rattle.melon_backend.specs.declared.opening.Opened.{Opened}
use Rattle.melon_backend.specs.Rows.{stored_bytes, live_rows, bytes_in}
use Rattle.melon_backend.specs.Inside.{tables_rows, AreKept}

-- a table for each declared one, each as it is kept, and the bytes of their rows and the number of the live ones
pub record IsLaidOut (schema : List TableSchema) (tables : List ServerTable) (stored live : ℕ) : Type 0 where
  pub kept : AreKept tables
  pub long : length tables ≡ length schema
  pub stored_is : stored ≡ stored_bytes schema (tables_rows tables)
  pub live_is : live ≡ live_rows (tables_rows tables)

abbrev pub IsOpenedSoFar : List TableSchema → Opened → Type 0
IsOpenedSoFar schema o = IsLaidOut schema o.tables.items o.stored o.live

-- the body has the bytes of the row
abbrev pub HasBytes : List TableSchema → KeptRow → Put → Type 0
HasBytes schema kept p = bytes_in schema p.table p.row ≡ length kept.body

-- any fault but the keeper's
abbrev pub IsOfKept : OpenFault → Type 0
IsOfKept (BadRow table id) = Unit {0}
IsOfKept (Version stored) = Unit {0}
IsOfKept (Full bytes) = Unit {0}
IsOfKept KeeperFault = ⊥
IsOfKept Memory = Unit {0}
