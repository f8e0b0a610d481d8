use Rattle.std.proofs.Common.{◌≡◌, ◌++◌, drop}
use Rattle.std.specs.List.{filter_map}
use Rattle.melon_table.specs.Seen.{rows_of, columns_of}
use Rattle.melon_push.specs.Fetching.{all_seen, change_seen, BeforesFit}
use Rattle.melon_push.proofs.settling.changes_of.Given as goal

abbrev pub invariant-loop-one : goal.invariant-loop-one
invariant-loop-one l =
    (l.set ++ filter_map (change_seen (rows_of l.tables)) (all_seen (drop l.one-index l.all)) ≡ filter_map (change_seen (rows_of l.tables)) (all_seen l.all))
    × BeforesFit (columns_of l.tables) l.set
