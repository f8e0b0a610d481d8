use Rattle.std.proofs.Common.{ap, sym, ◌∙◌, rules}
use Rattle.std.specs.Str.{chars}
use Rattle.melon_eval.specs.Pieces.{after_first, or_else}
use Rattle.melon_eval.proofs.Patterns.{first_more}
use Rattle.melon_eval.proofs.like.after_first.Goals as goal

pub loop-rest-preserved : goal.loop-rest-preserved
loop-rest-preserved c = (
  search rules,
  sym (first_more (chars c.args.piece.now) (chars c.loop-rest.text.now) c.in_ok-later.field-0-0 (chars c.in_ok-later.later.now) c.in_ok-later.ensures
      ∙ ap (λ o. or_else o (after_first (chars c.args.piece.now) (chars c.in_ok-later.later.now))) (sym c.in_default.ensures))
      ∙ c.loop-rest.invariant.1,
)
