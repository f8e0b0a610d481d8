use Rattle.std.proofs.Common.{◌≡◌, length}
use Rattle.melon_table.proofs.Empty.{Made}
use Rattle.melon_table.proofs.tables.Tables.new.Given as goal

abbrev pub invariant-loop-place : goal.invariant-loop-place
invariant-loop-place l = Made l.schema.tables l.tables l.place × (l.place-end ≡ length l.schema.tables)
