use Rattle.std.proofs.Common.{◌≡◌, drop, find, bytes_eq}
use Rattle.melon_backend.proofs.refusal.column_of.Given as goal

abbrev pub invariant-loop-column : goal.invariant-loop-column
invariant-loop-column l = find (λ column. bytes_eq column.name l.name) (drop l.column-index l.columns) ≡ find (λ column. bytes_eq column.name l.name) l.columns
