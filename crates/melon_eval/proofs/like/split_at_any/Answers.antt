use Rattle.melon_eval.proofs.Texts.{cut_of}
use Rattle.melon_eval.proofs.like.split_at_any.Goals as goal

pub returns : goal.returns
returns c = cut_of c.args.pattern.now c.split_once.result c.utf8.pattern c.split_once.ensures.cases
