use Rattle.std.proofs.Common.{◌≡◌, ◌-◌, length, filter}
use Rattle.std.specs.List.{range_with_len}
use Rattle.melon_change.specs.Edited.{by_name, differs}
use Rattle.melon_change.proofs.edit.differing.Given as goal

abbrev pub invariant-loop-c : goal.invariant-loop-c
invariant-loop-c l = l.places.items ≡ by_name l.columns (filter (differs l.before l.after) (range_with_len l.c (length l.columns - l.c)))
