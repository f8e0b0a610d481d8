use Rattle.std.proofs.Common.{ap, sym, ◌∙◌, arith}
use Rattle.std.specs.Str.{chars}
use Rattle.melon_query.specs.Like.{meets}
use Rattle.melon_eval.proofs.Patterns.{too_short, at_its_length}
use Rattle.melon_eval.proofs.like.ends_in.Goals as goal

pub returns-in-Some : goal.returns-in-Some
returns-in-Some c =
    c.meets_whole.ensures ∙ ap (meets (chars c.args.piece.now)) c.without.ensures
    ∙ sym (at_its_length (chars c.args.piece.now) c.requires c.in-Some.before (chars c.args.text.now) (omega (arith, c.in-Some.ensures, c.count.ensures, c.count-2.ensures)))

pub returns-in-None : goal.returns-in-None
returns-in-None c = sym (too_short (chars c.args.piece.now) c.requires (chars c.args.text.now) (omega (arith, c.in-None.ensures, c.count.ensures, c.count-2.ensures)))
