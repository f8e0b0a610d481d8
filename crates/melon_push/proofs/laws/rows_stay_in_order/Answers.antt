use Rattle.melon_push.proofs.Collected.{stay_in_order}
use Rattle.melon_push.proofs.laws.rows_stay_in_order.Goals as goal

pub returns : goal.returns
returns c = stay_in_order
