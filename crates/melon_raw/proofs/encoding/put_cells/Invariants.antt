use Rattle.std.proofs.Common.{◌≡◌}
use Rattle.serde_json.specs.View.{members_view}
use Rattle.melon_raw.specs.Encoding.{with_cells}
use Rattle.melon_raw.proofs.encoding.put_cells.Given as goal

-- the cells that are left complete the members
abbrev pub invariant-loop-column : goal.invariant-loop-column
invariant-loop-column l = with_cells l.column-iterator.a.rest.now l.column-iterator.b.rest.now (members_view l.members.entries) ≡ with_cells l.columns l.cells (members_view l.initial.members.entries)
