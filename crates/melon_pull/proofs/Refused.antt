-- A value that isn't long for texts is long for no column.
use Rattle.std.proofs.Common.{◌≡◌, List, Option, Some, None, false, refl}
use Rattle.std.specs.Option.{option_map_or}
use Rattle.melon_schema.specs.declared.schema.Kind.{Kind}
use Rattle.melon_schema.specs.declared.schema.Kind.TheVariants as kinds
use Rattle.melon_schema.specs.declared.schema.ColumnSchema.{ColumnSchema}
use Rattle.melon_raw.specs.declared.datum.Datum.{Datum}
use Rattle.melon_raw.specs.declared.datum.OpField.{OpField}
use Rattle.melon_change.specs.Batch.{is_long}
use Rattle.melon_pull.specs.Incoming.{declared_column, is_long_field}

pub never_long : (columns : List ColumnSchema) (field : OpField) → is_long kinds.Words field.value ≡ false → is_long_field columns field ≡ false
never_long columns field h = by (declared_column columns field.column)
  where
    of : (kind : Kind) → is_long kind field.value ≡ false
    of kinds.Words = h
    of kinds.Whole = refl
    of kinds.Truth = refl

    by : (column : Option ColumnSchema) → option_map_or (λ c. is_long c.kind field.value) column false ≡ false
    by None = refl
    by (Some c) = of c.kind
