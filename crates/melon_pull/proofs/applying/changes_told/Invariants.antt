use Rattle.std.proofs.Common.{◌≡◌, ◌++◌, drop}
use Rattle.std.specs.List.{filter_map}
use Rattle.melon_table.specs.Seen.{rows_of}
use Rattle.melon_pull.specs.Listing.{tellings_seen, change_told, BeforesFit}
use Rattle.melon_pull.proofs.applying.changes_told.Given as goal

abbrev pub invariant-loop-one : goal.invariant-loop-one
invariant-loop-one l =
    (l.set ++ filter_map (change_told l.schema.tables (rows_of l.tables)) (tellings_seen (drop l.one-index l.listed)) ≡ filter_map (change_told l.schema.tables (rows_of l.tables)) (tellings_seen l.listed))
    × BeforesFit l.schema.tables l.set
