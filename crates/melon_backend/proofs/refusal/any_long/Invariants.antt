use Rattle.std.proofs.Common.{◌≡◌, drop}
use Rattle.std.specs.List.{list_any}
use Rattle.melon_log.specs.Verdict.{is_long_field}
use Rattle.melon_backend.proofs.refusal.any_long.Given as goal

abbrev pub invariant-loop-field : goal.invariant-loop-field
invariant-loop-field l = list_any (is_long_field l.columns) (drop l.field-index l.fields) ≡ list_any (is_long_field l.columns) l.fields
