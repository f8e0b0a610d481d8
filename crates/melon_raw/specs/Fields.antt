-- A value for a column, as the member of an object.
use Rattle.std.specs.Prelude.{ℕ, List, Option, option_map}
use Rattle.serde_json.specs.Data.{Data}
use Rattle.melon_raw.specs.declared.datum.OpField.{OpField}
use Rattle.melon_raw.specs.Datum.{datum_of}

abbrev pub field_given : List ℕ → Data → Option OpField
field_given column d = option_map (λ value. record { column = column; value = value }) (datum_of d)
