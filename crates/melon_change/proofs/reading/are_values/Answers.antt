use Rattle.std.proofs.Common.{◌≡◌, [], ◌∷◌, ◌∙◌, sym, is_some}
use Rattle.melon_change.proofs.Someness.{values_named, value_refused, value_ended}
use Rattle.melon_change.proofs.reading.are_values.Goals as goal

pub returns-then-not-is_value : goal.returns-then-not-is_value
returns-then-not-is_value c =
    let es = c.args.members.now.entries in
    sym (values_named c.args.exact es ∙ (sym c.loop-key.invariant.2 ∙ value_refused c.args.exact c.loop-key._key-iterator c.next.new.self (c.in-Some._key.now, c.in-Some.value.now) c.in-Some.ensures.steps (sym c.is_value.ensures ∙ c.if-not-is_value.true)))

pub returns : goal.returns
returns c =
    let es = c.args.members.now.entries in
    sym (values_named c.args.exact es ∙ (sym c.loop-key.invariant.2 ∙ value_ended c.args.exact c.loop-key._key-iterator c.in-None.ensures.steps.0))
