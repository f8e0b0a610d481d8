use Rattle.std.proofs.Common.{◌∙◌, sym}
use Rattle.melon_query.specs.Tuples.{alone}
use Rattle.melon_eval.proofs.Askings.{every-map}
use Rattle.melon_eval.proofs.asks.is_met.Goals as goal

pub returns : goal.returns
returns c = c.all_hold.ensures ∙ sym (every-map c.args.ask.conds.now (alone c.args.row.now))
