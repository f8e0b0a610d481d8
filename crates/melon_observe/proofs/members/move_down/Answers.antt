use Rattle.std.proofs.Common.{sym, ap, ◌∙◌}
use Rattle.std.specs.Ordering.{is_lt}
use Rattle.melon_observe.specs.Members.{is_ascending}
use Rattle.melon_observe.proofs.Gap.{down_to_last}
use Rattle.melon_observe.proofs.members.move_down.Goals as goal

pub returns-then-is_lt-clause-below : goal.returns-then-is_lt-clause-below
returns-then-is_lt-clause-below c =
    let l = c.loop-member in
    down_to_last c.args.id.now l.before.items c.pop.new.self.items c.push_reserved.new.self.items l.behind.items c.in-Some.member c.in-Some.ensures.items c.push_reserved.ensures.items
    (ap is_ascending l.invariant.0 ∙ c.requires.ascending) (sym (c.if-is_lt.ensures ∙ ap is_lt c.order.ensures))
