use Rattle.std.proofs.Common.{◌∙◌, sym, is_some, not}
use Rattle.serde_json.specs.View.{view}
use Rattle.melon_change.specs.Forms.{op_of}
use Rattle.melon_change.proofs.Someness.{position-map}
use Rattle.melon_change.proofs.reading.first_none.Goals as goal

pub returns-clause-first : goal.returns-clause-first
returns-clause-first c = c.first_refused.ensures.first ∙ sym (position-map (λ d. not (is_some (op_of c.args.exact d))) view c.args.items.now)
