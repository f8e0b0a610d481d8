use Rattle.std.proofs.Common.{◌≡◌, drop}
use Rattle.serde_json.specs.View.{members_view}
use Rattle.melon_wire.specs.Writing.{with_tables}
use Rattle.melon_wire.proofs.writing.put_tables.Given as goal

abbrev pub invariant-loop-table : goal.invariant-loop-table
invariant-loop-table l = with_tables (drop l.table-index l.tables) (members_view l.members.entries) ≡ with_tables l.tables (members_view l.initial.members.entries)
