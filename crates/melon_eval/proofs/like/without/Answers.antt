use Rattle.std.proofs.Common.{sym, ◌∙◌, rules}
use Rattle.std.specs.Str.{chars}
use Rattle.melon_eval.proofs.Patterns.{drop_more}
use Rattle.melon_eval.proofs.like.without.Goals as goal

pub loop-preserved : goal.loop-preserved
loop-preserved c =
    (search rules, drop_more (chars c.args.text.now) c.loop.counter c.in-Some.field-0-0 (chars c.in-Some.later.now) (sym c.loop.invariant.1 ∙ c.in-Some.ensures))
