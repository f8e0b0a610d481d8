use Rattle.std.proofs.Common.{◌≡◌, ◌+◌, length, take}
use Rattle.melon_table.specs.Late.{joined}
use Rattle.melon_table.proofs.keys.settle.Given as goal

abbrev pub invariant-loop-place : goal.invariant-loop-place
invariant-loop-place l =
    (l.scratch.items ≡ take l.place (joined 0 l.settled.items l.late.items))
    × (l.scratch.len ≡ l.place)
    × (l.scratch.cap ≡ l.initial.scratch.cap)
    × (l.place-end ≡ length l.settled.items + length l.late.items)
