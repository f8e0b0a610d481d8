use Rattle.std.proofs.Common.{◌∙◌, inl, inr}
use Rattle.serde_json.specs.View.{members_view}
use Rattle.melon_raw.proofs.Encoded.{with_cells-no_column, with_cells-no_cell}
use Rattle.melon_raw.proofs.encoding.put_cells.Goals as goal

pub returns : goal.returns
returns c = elim c.in-None.ensures.steps [
  | inl ended ↦ with_cells-no_column c.loop-column.column-iterator.a.rest.now c.loop-column.column-iterator.b.rest.now (members_view c.loop-column.members.entries) ended.1.0 ∙ c.loop-column.invariant
  | inr ended ↦ with_cells-no_cell c.loop-column.column-iterator.a.rest.now c.loop-column.column-iterator.b.rest.now (members_view c.loop-column.members.entries) ended.1.0 ∙ c.loop-column.invariant
]
