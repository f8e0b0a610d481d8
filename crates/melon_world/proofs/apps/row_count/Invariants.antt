use Rattle.std.proofs.Common.{◌≡◌, ◌+◌, ◌-◌, ◌^◌, ◌≤◌, min, drop, length}
use Rattle.std.specs.Prelude.{sum_by}
use Rattle.melon_table.specs.Seen.{rows_of}
use Rattle.melon_machine.specs.Apps.{row_count}
use Rattle.melon_world.proofs.apps.row_count.Given as goal

abbrev pub invariant-loop-place : goal.invariant-loop-place
invariant-loop-place l = (min (l.count + sum_by length (drop l.place (rows_of l.tables))) (2 ^ 64 - 1) ≡ row_count (rows_of l.tables)) × (l.count ≤ 2 ^ 64 - 1)
