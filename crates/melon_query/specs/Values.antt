-- The value of a column, and how values compare.
use Rattle.std.specs.Ordering.{int_cmp, bool_cmp}
use Rattle.std.specs.declared.cmp.Ordering.{Ordering}
use Rattle.std.specs.declared.cmp.Ordering.TheVariants.{Less, Equal, Greater}
use Rattle.melon_raw.specs.declared.datum.Datum.{Datum}
use Rattle.melon_raw.specs.declared.datum.Datum.TheVariants.{Null, Words, Whole, Truth}
use Rattle.melon_raw.specs.declared.raw.Raw.{Raw}
use Rattle.melon_raw.specs.Rows.{cell}
use Rattle.melon_raw.specs.Order.{id_cmp}
use Rattle.melon_query.specs.declared.query.Col.{Col}
use Rattle.melon_query.specs.declared.query.Col.TheVariants.{Id, Cell}

abbrev pub value_at : Col → Raw → Datum
value_at Id row = Words row.id
value_at (Cell place) row = cell row place

-- null first, numbers by value, texts by their bytes, false before true; a column has values of one kind
abbrev pub value_cmp : Datum → Datum → Ordering
value_cmp Null Null = Equal
value_cmp Null b = Less
value_cmp (Words a) Null = Greater
value_cmp (Words a) (Words b) = id_cmp a b
value_cmp (Words a) b = Less
value_cmp (Whole a) (Whole b) = int_cmp a b
value_cmp (Whole a) (Truth b) = Less
value_cmp (Whole a) b = Greater
value_cmp (Truth a) (Truth b) = bool_cmp a b
value_cmp (Truth a) b = Greater
