use Rattle.std.proofs.Common.{◌∙◌, Some, None}
use Rattle.std.specs.Str.{chars}
use Rattle.melon_eval.specs.Pieces.{chars_of}
use Rattle.melon_eval.proofs.Patterns.{whole_met}
use Rattle.melon_eval.proofs.like.meets_whole.Goals as goal

pub returns-in-Some : goal.returns-in-Some
returns-in-Some c = c.is_used_up.ensures ∙ whole_met (chars c.args.piece.now) (chars c.args.text.now) (Some (chars_of c.in-Some.rest)) c.requires c.in-Some.ensures

pub returns-in-None : goal.returns-in-None
returns-in-None c = whole_met (chars c.args.piece.now) (chars c.args.text.now) None c.requires c.in-None.ensures
