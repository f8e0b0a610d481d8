use Rattle.std.proofs.Common.{◌≡◌, drop, find, bytes_eq}
use Rattle.melon_pull.proofs.listed.told_of.Given as goal

abbrev pub invariant-loop-told : goal.invariant-loop-told
invariant-loop-told l = find (λ t. bytes_eq t.table l.name) (drop l.told-index l.changes.tables) ≡ find (λ t. bytes_eq t.table l.name) l.changes.tables
