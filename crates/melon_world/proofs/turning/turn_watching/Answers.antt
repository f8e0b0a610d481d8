use Rattle.std.proofs.Common.{ap, sym, subst, ◌∙◌, ◌≤◌, length}
use Rattle.melon_board.specs.Stores.{SeenStore}
use Rattle.melon_machine.specs.State.{history_of}
use Rattle.melon_world.specs.Inside.{watch_in}
use Rattle.melon_world.proofs.Turns.{if_both, stood, watched, answer_stands, owner_stands, answer_turned, owner_turned}
use Rattle.melon_world.proofs.turning.turn_watching.Goals as goal

pub returns-in-Answer-clause-turned : goal.returns-in-Answer-clause-turned
returns-in-Answer-clause-turned g c = λ a watch at same legal within is.
    let old = c.in-Answer.answers in
    let new = c.turn_answer.new.observer in
    let was = is ∙ ap watch_in c.in-Answer.is in
    let end = ap (λ (s : SeenStore). length s.entries) (sym same) in
    if_both c.turn_answer.result _ _ _
    (λ items ends shown. answer_turned (history_of a) at watch within a.schema.tables c.args.app.now c.args.name.now items old new was (c.turn_answer.ensures.stands a same legal) c.turn_answer.ensures.query c.turn_answer.ensures.shape (ends ∙ end) (λ _. shown))
    c.turn_answer.ensures.end (c.turn_answer.ensures.turned a same legal (stood (history_of a) at watch old within was).0)

pub returns-in-Answer-clause-stands : goal.returns-in-Answer-clause-stands
returns-in-Answer-clause-stands g c = λ a watch at same legal within is.
    answer_stands (history_of a) at watch within c.in-Answer.answers c.turn_answer.new.observer (is ∙ ap watch_in c.in-Answer.is) (c.turn_answer.ensures.stands a same legal)
    (λ w. c.turn_answer.ensures.later (subst (λ (s : SeenStore). c.in-Answer.answers.at ≤ length s.entries) same w)) c.turn_answer.ensures.query c.turn_answer.ensures.shape

pub returns-in-Owner-clause-turned : goal.returns-in-Owner-clause-turned
returns-in-Owner-clause-turned g c = λ a watch at same legal within is.
    let old = c.in-Owner.owner in
    let new = c.turn_owner.new.owner in
    let was = is ∙ ap watch_in c.in-Owner.is in
    let end = ap (λ (s : SeenStore). length s.entries) (sym same) in
    if_both c.turn_owner.result _ _ _
    (λ items ends shown. owner_turned (history_of a) at watch within a.schema.tables c.args.app.now c.args.name.now items old new was (c.turn_owner.ensures.stands a same) c.turn_owner.ensures.relation (ends ∙ end) (λ _. shown))
    c.turn_owner.ensures.end (c.turn_owner.ensures.turned a same (watched (history_of a) at watch old within was).0)

pub returns-in-Owner-clause-stands : goal.returns-in-Owner-clause-stands
returns-in-Owner-clause-stands g c = λ a watch at same legal within is.
    owner_stands (history_of a) at watch within c.in-Owner.owner c.turn_owner.new.owner (is ∙ ap watch_in c.in-Owner.is) (c.turn_owner.ensures.stands a same)
    (λ w. c.turn_owner.ensures.later (subst (λ (s : SeenStore). c.in-Owner.owner.at ≤ length s.entries) same w)) c.turn_owner.ensures.relation
