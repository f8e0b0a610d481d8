use Rattle.std.proofs.Common.{◌≡◌, List, false, sym, ap, ◌∙◌}
use Rattle.melon_change.specs.declared.change.Change.{Change}
use Rattle.melon_views.specs.Members.{matters}
use Rattle.melon_observe.proofs.Between.{look_more, look_found}
use Rattle.melon_observe.proofs.finding.first_on.Goals as goal

pub returns-then-matters-clause-cost : goal.returns-then-matters-clause-cost
returns-then-matters-clause-cost g c =
    look_found c.args.query.now c.args.shape.now c.args.board.now.entries c.args.at c.loop-place.place c.args.steps.now c.loop-place.steps c.entry-entry.new.steps c.entry-entry.result.now
    c.loop-place.auto.place c.entry-entry.ensures.entry c.entry-entry.ensures.cost c.loop-place.invariant

pub loop-place-preserved : goal.loop-place-preserved
loop-place-preserved g c =
    let q = c.args.query.now in
    let s = c.args.shape.now in
    let e = c.entry-entry.result.now in
    let miss : matters q s e.set ≡ false = sym (c.if-matters.ensures ∙ ap (λ (set : List Change). matters q s set) c.as_slice.ensures) in
    look_more q s c.args.board.now.entries c.args.at c.loop-place.place c.args.steps.now c.loop-place.steps c.entry-entry.new.steps e
    c.loop-place.auto.place c.entry-entry.ensures.entry miss c.entry-entry.ensures.cost c.loop-place.invariant
