use Rattle.std.proofs.Common.{◌≡◌, ◌+◌, ◌≤◌, length, take}
use Rattle.melon_table.specs.Dirty.{dirty_rows}
use Rattle.melon_push.specs.Fetching.{collected_at, with_more}
use Rattle.melon_push.proofs.collecting.collect_table.Given as goal

abbrev pub invariant-loop-i : goal.invariant-loop-i
invariant-loop-i g l =
    (l.fetch ≡ with_more l.fn.fetch (collected_at l.table (take l.i (dirty_rows l.rows.rows))))
    × (l.steps ≡ l.fn.steps + l.i)
    × (l.i ≤ length (dirty_rows l.rows.rows))
