use Rattle.std.proofs.Common.{◌≡◌, ◌+◌, ◌≤◌, take}
use Rattle.melon_table.specs.Seen.{rows_of}
use Rattle.melon_wire.specs.Collected.{fetched_count}
use Rattle.melon_push.specs.Fetching.{collected_of, AreKept}
use Rattle.melon_push.proofs.collecting.collect.Given as goal

abbrev pub invariant-loop-table : goal.invariant-loop-table
invariant-loop-table g l =
    (l.fetch ≡ collected_of (rows_of l.tables) l.table)
    × (l.steps ≤ l.fn.steps + fetched_count (collected_of (rows_of l.tables) l.table))
    × AreKept (take l.table l.tables)
