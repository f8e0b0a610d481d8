use Rattle.std.proofs.Common.{◌≡◌, fold, drop, map, filter}
use Rattle.melon_change.specs.Batch.{first_name, is_long_field, long_column}
use Rattle.melon_change.specs.Edited.{name_at}
use Rattle.melon_change.proofs.fields.are_short.Given as goal

abbrev pub invariant-loop-field : goal.invariant-loop-field
invariant-loop-field l = fold first_name l.long (map (λ field. name_at l.columns field.0) (filter (is_long_field l.columns) (drop l.field-index l.fields))) ≡ long_column l.columns l.fields
