-- What a table's fields stand for.
use Rattle.melon_table.specs.declared.table.Table.TheInside.{Inside}
use Rattle.melon_table.specs.Seen.{SeenTable}
use Rattle.melon_table.specs.Kept.{IsKept}

abbrev pub seen_in : Inside → SeenTable
seen_in t = record { columns = t.columns; rows = t.rows.rows; spare = t.rows.spare }

abbrev pub KeepsRows : Inside → Type 0
KeepsRows t = IsKept t.columns t.rows.rows
