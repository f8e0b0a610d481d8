use Rattle.std.proofs.Common.{◌≡◌, drop}
use Rattle.serde_json.specs.View.{members_view}
use Rattle.melon_wire.specs.Writing.{with_fields}
use Rattle.melon_wire.proofs.writing.put_fields.Given as goal

abbrev pub invariant-loop-field : goal.invariant-loop-field
invariant-loop-field l = with_fields (drop l.field-index l.fields) (members_view l.members.entries) ≡ with_fields l.fields (members_view l.initial.members.entries)
