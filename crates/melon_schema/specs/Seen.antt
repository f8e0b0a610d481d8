-- What contracts see of a schema: its version, and its tables in the order in which they are declared.
use Rattle.std.specs.Prelude.{ℕ, List}
use Rattle.melon_schema.specs.declared.schema.TableSchema.{TableSchema}

pub record SeenSchema : Type 0 where
  pub version : ℕ
  pub tables : List TableSchema
