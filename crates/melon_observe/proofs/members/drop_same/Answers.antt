use Rattle.std.proofs.Common.{sym, ap, ◌∙◌}
use Rattle.std.specs.Ordering.{is_ne}
use Rattle.melon_observe.proofs.Gap.{keeps_other, drops_same}
use Rattle.melon_observe.proofs.members.drop_same.Goals as goal

pub returns-then-is_ne-clause-above : goal.returns-then-is_ne-clause-above
returns-then-is_ne-clause-above c =
    keeps_other c.args.id.now c.args.behind.now.items c.pop.new.self.items c.in-Some.member c.in-Some.ensures.items c.requires.ascending c.push_reserved.new.self.items c.push_reserved.ensures.items c.requires.not_below
    (sym (c.if-is_ne.ensures ∙ ap is_ne c.order.ensures))

pub returns-else-is_ne-clause-above : goal.returns-else-is_ne-clause-above
returns-else-is_ne-clause-above c =
    drops_same c.args.id.now c.args.behind.now.items c.pop.new.self.items c.in-Some.member c.in-Some.ensures.items c.requires.ascending (sym (c.if-is_ne.ensures ∙ ap is_ne c.order.ensures))
