use Rattle.std.proofs.Common.{◌∙◌, Some, None, rules}
use Rattle.std.specs.Str.{chars}
use Rattle.melon_eval.specs.Pieces.{chars_of}
use Rattle.melon_eval.proofs.Patterns.{cut_met, again_met}
use Rattle.melon_eval.proofs.like.is_like.Goals as goal

pub returns-in_default-after_piece : goal.returns-in_default-after_piece
returns-in_default-after_piece c =
    cut_met (chars c.args.pattern.now) (chars c.args.text.now) (chars c.in-Some.first.now) (chars c.in-Some.later.now) None c.in-Some.ensures.0 c.in-Some.ensures.1 c.in_default-after_piece.ensures

pub loop-piece-init : goal.loop-piece-init
loop-piece-init c = (
  search rules,
  search rules,
  cut_met (chars c.args.pattern.now) (chars c.args.text.now) (chars c.in-Some.first.now) (chars c.in-Some.later.now) (Some (chars_of c.in-Some-after_piece.rest)) c.in-Some.ensures.0 c.in-Some.ensures.1 c.in-Some-after_piece.ensures,
)

pub returns-in-None : goal.returns-in-None
returns-in-None c =
    again_met (chars c.loop-piece.left.now) (chars c.loop-piece.rest.now) (chars c.in-Some-split_at_any.piece.now) (chars c.in-Some-split_at_any.later.now) None c.in-Some-split_at_any.ensures.0 c.in-Some-split_at_any.ensures.1 c.in-None.ensures
    ∙ c.loop-piece.invariant.2

pub loop-piece-preserved : goal.loop-piece-preserved
loop-piece-preserved c = (
  search rules,
  search rules,
  again_met (chars c.loop-piece.left.now) (chars c.loop-piece.rest.now) (chars c.in-Some-split_at_any.piece.now) (chars c.in-Some-split_at_any.later.now) (Some (chars_of c.in-Some-after_first.after)) c.in-Some-split_at_any.ensures.0 c.in-Some-split_at_any.ensures.1 c.in-Some-after_first.ensures
      ∙ c.loop-piece.invariant.2,
)
