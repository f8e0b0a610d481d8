use Rattle.std.proofs.Common.{ap, sym, ◌∙◌, cond, None, rules}
use Rattle.std.specs.Str.{chars}
use Rattle.melon_eval.specs.Pieces.{after_piece}
use Rattle.melon_eval.proofs.Patterns.{piece_more}
use Rattle.melon_eval.proofs.like.after_piece.Goals as goal

pub returns-then-not-stands_for : goal.returns-then-not-stands_for
returns-then-not-stands_for c =
    sym (piece_more (chars c.loop-wanted.piece.now) (chars c.loop-wanted.text.now) c.in-Some.wanted (chars c.in-Some.later.now) c.in_ok-found.found (chars c.in_ok-found.rest.now) c.in-Some.ensures c.in_ok-found.ensures
    ∙ ap (λ b. cond b (after_piece (chars c.in-Some.later.now) (chars c.in_ok-found.rest.now)) None) (sym c.if-not-stands_for.ensures))
    ∙ c.loop-wanted.invariant.2

pub loop-wanted-preserved : goal.loop-wanted-preserved
loop-wanted-preserved c = (
  search rules,
  search rules,
  sym (piece_more (chars c.loop-wanted.piece.now) (chars c.loop-wanted.text.now) c.in-Some.wanted (chars c.in-Some.later.now) c.in_ok-found.found (chars c.in_ok-found.rest.now) c.in-Some.ensures c.in_ok-found.ensures
      ∙ ap (λ b. cond b (after_piece (chars c.in-Some.later.now) (chars c.in_ok-found.rest.now)) None) (sym c.if-not-stands_for.ensures))
      ∙ c.loop-wanted.invariant.2,
)
