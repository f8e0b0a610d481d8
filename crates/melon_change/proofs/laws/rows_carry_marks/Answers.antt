use Rattle.melon_change.proofs.Carry.{rows_carry}
use Rattle.melon_change.proofs.laws.rows_carry_marks.Goals as goal

pub returns : goal.returns
returns c = rows_carry
