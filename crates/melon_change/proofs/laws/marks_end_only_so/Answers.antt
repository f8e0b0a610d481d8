use Rattle.melon_change.proofs.Carry.{marks_end}
use Rattle.melon_change.proofs.laws.marks_end_only_so.Goals as goal

pub returns : goal.returns
returns c = marks_end
