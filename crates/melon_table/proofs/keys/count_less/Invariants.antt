use Rattle.std.proofs.Common.{◌≡◌, ◌++◌, ◌-◌, ◌≤◌, length, take, drop, map}
use Rattle.melon_table.specs.Late.{less}
use Rattle.melon_table.proofs.keys.count_less.Given as goal

abbrev pub invariant-loop-place : goal.invariant-loop-place
invariant-loop-place l =
    (l.late.items ≡ take l.from l.initial.late.items ++ (map less (take (l.place - l.from) (drop l.from l.initial.late.items)) ++ drop (l.place - l.from) (drop l.from l.initial.late.items)))
    × (l.late.cap ≡ l.initial.late.cap)
    × (l.late.len ≡ l.initial.late.len)
    × (l.place-end ≡ length l.initial.late.items)
    × (l.from ≤ l.place)
