use Rattle.std.proofs.Common.{◌≡◌, ◌++◌, take, filter, not}
use Rattle.melon_raw.specs.Rows.{has}
use Rattle.melon_change.proofs.edit.appended.Given as goal

abbrev pub invariant-loop-c : goal.invariant-loop-c
invariant-loop-c l = l.all ≡ l.marks ++ filter (λ c. not (has c l.marks)) (take l.c-index l.columns)
