use Rattle.std.proofs.Common.{◌≡◌, ◌++◌, ◌-◌, length}
use Rattle.std.specs.List.{flat_map, range_with_len}
use Rattle.melon_pull.specs.Listing.{tellings_seen, told_of, tellings}
use Rattle.melon_pull.proofs.listed.listed_by_table.Given as goal

abbrev pub invariant-loop-table : goal.invariant-loop-table
invariant-loop-table l = tellings_seen l.listed.items ++ flat_map (told_of l.schema.tables l.changes) (range_with_len l.table (length l.schema.tables - l.table)) ≡ tellings l.schema.tables l.changes
