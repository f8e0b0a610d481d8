use Rattle.melon_backend.proofs.ReadInOrder.{tables_ascend}
use Rattle.melon_backend.proofs.laws.read_changes_can_be_pushed.Goals as goal

pub returns : goal.returns
returns c = tables_ascend
