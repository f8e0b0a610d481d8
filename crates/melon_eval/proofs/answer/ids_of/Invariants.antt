use Rattle.std.proofs.Common.{◌≡◌, map, take}
use Rattle.melon_eval.specs.Seen.{rows_at}
use Rattle.melon_eval.proofs.answer.ids_of.Given as goal

abbrev pub invariant-loop-row : goal.invariant-loop-row
invariant-loop-row l = l.ids ≡ map (λ row. row.id) (rows_at (take l.row-index l.rows))
