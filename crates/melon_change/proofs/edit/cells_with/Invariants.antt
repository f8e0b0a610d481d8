use Rattle.std.proofs.Common.{◌≡◌, List, ℕ, ◌++◌}
use Rattle.melon_raw.specs.declared.datum.Datum.{Datum}
use Rattle.melon_change.specs.Edited.{cells_with}
use Rattle.melon_change.proofs.edit.cells_with.Given as goal

-- the fields that were put in are a tail of all
abbrev pub invariant-loop-place : goal.invariant-loop-place
invariant-loop-place l = (done : List (ℕ × Datum)) × (l.fn.fields ≡ l.left.items ++ done) × (l.cells.items ≡ cells_with done 0 l.columns l.fn.old)

abbrev pub decreases-loop-place : goal.decreases-loop-place
decreases-loop-place l = goal.left-loop-place l
