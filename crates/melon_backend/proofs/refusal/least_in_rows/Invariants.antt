use Rattle.std.proofs.Common.{◌≡◌, drop, map, filter, fold}
use Rattle.std.specs.List.{flat_map}
use Rattle.std.specs.Option.{option_copied}
use Rattle.melon_log.specs.Verdict.{lesser, is_unknown}
use Rattle.melon_backend.proofs.refusal.least_in_rows.Given as goal

abbrev pub invariant-loop-row : goal.invariant-loop-row
invariant-loop-row l = fold lesser (option_copied l.found) (filter (is_unknown l.table.columns) (flat_map (λ row. map (λ f. f.column) row.fields) (drop l.row-index l.rows))) ≡ fold lesser (option_copied l.least) (filter (is_unknown l.table.columns) (flat_map (λ row. map (λ f. f.column) row.fields) l.rows))
