use Rattle.std.proofs.Common.{◌≡◌, drop, find}
use Rattle.melon_pull.specs.Incoming.{is_long_field}
use Rattle.melon_pull.proofs.refusal.long_field.Given as goal

abbrev pub invariant-loop-field : goal.invariant-loop-field
invariant-loop-field l = find (is_long_field l.columns) (drop l.field-index l.fields) ≡ find (is_long_field l.columns) l.fields
