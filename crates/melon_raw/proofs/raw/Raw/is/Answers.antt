use Rattle.melon_raw.proofs.Equals.{row_eq_tells}
use Rattle.melon_raw.proofs.raw.Raw.is.Goals as goal

pub returns : goal.returns
returns c = row_eq_tells c.args.self.now c.args.other.now c.same.result c.same.ensures
