use Rattle.std.proofs.Common.{◌≡◌, drop, map, filter, fold}
use Rattle.std.specs.Option.{option_copied}
use Rattle.melon_log.specs.Verdict.{lesser, is_unknown}
use Rattle.melon_backend.proofs.refusal.least_in_fields.Given as goal

abbrev pub invariant-loop-field : goal.invariant-loop-field
invariant-loop-field l = fold lesser (option_copied l.found) (filter (is_unknown l.table.columns) (map (λ f. f.column) (drop l.field-index l.fields))) ≡ fold lesser (option_copied l.least) (filter (is_unknown l.table.columns) (map (λ f. f.column) l.fields))
