-- What the tables end as, where a `&mut` to one of them is returned.
use Rattle.std.specs.Prelude.{ℕ, List, slice_set}
use Rattle.std.specs.Borrow.{Lends, Fml, MutBor}
use Rattle.melon_table.specs.Seen.{SeenTable}
use Rattle.melon_table.specs.contracts.table.Table as table
use Rattle.melon_table.specs.contracts.tables.Tables as tables

-- once the borrow r ends, the place has the table that was left behind r
abbrev pub lends_table : MutBor (List SeenTable) → ℕ → MutBor SeenTable → Fml
lends_table ts at r = Lends tables.the_row table.the_row ts r (slice_set ts.now at)
