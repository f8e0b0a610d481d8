use Rattle.std.proofs.Common.{ℕ, ◌<◌, List, length, sym, subst, ◌∙◌, arith}
use Rattle.std.specs.List.{AllByRecursion, range_with_len}
use Rattle.melon_raw.specs.Rows.{table_at}
use Rattle.melon_log.proofs.Told.{range_within}
use Rattle.melon_backend.proofs.ByName.{each_by_name}
use Rattle.melon_backend.proofs.pull.changes_told.Goals as goal

pub tables_told-requires-clause-within : goal.tables_told-requires-clause-within
tables_told-requires-clause-within c =
    let n = length c.args.schema.now.tables in
    subst (λ (order : List ℕ). AllByRecursion (λ i. i < n) order) (sym (c.as_slice.ensures.value ∙ c.in_ok-order.ensures))
    (each_by_name (λ (i : ℕ). (table_at c.args.schema.now.tables i).name) (λ i. i < n) (range_with_len 0 n) (range_within n 0 n (omega arith)))
