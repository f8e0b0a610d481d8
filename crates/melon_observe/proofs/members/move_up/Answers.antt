use Rattle.std.proofs.Common.{sym, ap, ◌∙◌}
use Rattle.std.specs.Ordering.{is_lt}
use Rattle.melon_observe.specs.Members.{is_ascending}
use Rattle.melon_observe.proofs.Gap.{up_to_last}
use Rattle.melon_observe.proofs.members.move_up.Goals as goal

pub returns-then-not-is_lt-clause-not_below : goal.returns-then-not-is_lt-clause-not_below
returns-then-not-is_lt-clause-not_below c =
    let l = c.loop-member in
    up_to_last c.args.id.now l.behind.items c.pop.new.self.items c.push_reserved.new.self.items l.before.items c.in-Some.member c.in-Some.ensures.items c.push_reserved.ensures.items
    (ap is_ascending l.invariant.0 ∙ c.requires.ascending) (sym (c.if-not-is_lt.ensures ∙ ap is_lt c.order.ensures))
