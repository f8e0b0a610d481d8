use Rattle.std.proofs.Common.{◌≡◌, ◌<◌, ◌++◌, [], length, get_or, map}
use Rattle.std.specs.List.{AllByRecursion}
use Rattle.melon_raw.specs.Rows.{table_at}
use Rattle.melon_log.specs.Pulled.{table_told}
use Rattle.melon_backend.specs.Inside.{tables_rows}
use Rattle.melon_backend.proofs.pull.tables_told.Given as goal

abbrev pub invariant-loop-i : goal.invariant-loop-i
invariant-loop-i l = record {
  within : AllByRecursion (λ i. i < length l.schema.tables) l.left;
  told : l.told ++ map (λ i. table_told l.t (table_at l.schema.tables i) (get_or (tables_rows l.tables) i [])) l.left ≡ map (λ i. table_told l.t (table_at l.schema.tables i) (get_or (tables_rows l.tables) i [])) l.order;
}

abbrev pub decreases-loop-i : goal.decreases-loop-i
decreases-loop-i l = length l.left
