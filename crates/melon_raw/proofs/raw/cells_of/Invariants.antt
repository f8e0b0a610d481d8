use Rattle.std.proofs.Common.{◌≡◌, List, ℕ, ◌++◌}
use Rattle.melon_raw.specs.declared.datum.Datum.{Datum}
use Rattle.melon_raw.specs.Edits.{cells_from}
use Rattle.melon_raw.proofs.raw.cells_of.Given as goal

-- the fields that were put in are a tail of all
abbrev pub invariant-loop-place : goal.invariant-loop-place
invariant-loop-place l = (done : List (ℕ × Datum)) × (l.fn.fields.items ≡ l.left.items ++ done) × (l.cells.items ≡ cells_from done 0 l.columns)

abbrev pub decreases-loop-place : goal.decreases-loop-place
decreases-loop-place l = goal.left-loop-place l
