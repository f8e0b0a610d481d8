use Rattle.std.proofs.Common.{◌∙◌}
use Rattle.melon_eval.proofs.Texts.{used_up}
use Rattle.melon_eval.proofs.like.is_used_up.Goals as goal

pub returns : goal.returns
returns c = c.is_empty.ensures ∙ used_up c.args.text.now c.utf8.text
