use Rattle.std.proofs.Common.{List, rules, sym, ap, ◌∙◌, subst, arith}
use Rattle.melon_views.specs.declared.emission.Turn.{Turn}
use Rattle.melon_views.specs.Standing.{Observed, Stands}
use Rattle.melon_observe.specs.Journals.{history}
use Rattle.melon_observe.proofs.Going.{HasTurned, turn_is, turned_start, since_more, turned_more, turned_last, later_than, falls}
use Rattle.melon_observe.proofs.turning.turn_until_still.Goals as goal

pub loop-turns-init : goal.loop-turns-init
loop-turns-init g c = turned_start c.args.board.now c.args.observer.now _ c.args.steps.now (search rules)

pub returns-in_err-turn-clause-stands : goal.returns-in_err-turn-clause-stands
returns-in_err-turn-clause-stands g c = λ schema opening follows stood.
    subst (λ (o : Observed). Stands (history opening c.args.board.now.entries) o) (sym c.in_err-turn.ensures.err) (c.loop-turns.invariant.since.stands schema opening follows stood)

pub returns-in_err-turn-clause-query : goal.returns-in_err-turn-clause-query
returns-in_err-turn-clause-query g c = ap (λ (o : Observed). o.query) c.in_err-turn.ensures.err ∙ c.loop-turns.invariant.since.query

pub returns-in_err-turn-clause-shape : goal.returns-in_err-turn-clause-shape
returns-in_err-turn-clause-shape g c = ap (λ (o : Observed). o.shape) c.in_err-turn.ensures.err ∙ c.loop-turns.invariant.since.shape

pub returns-in_err-turn-clause-later : goal.returns-in_err-turn-clause-later
returns-in_err-turn-clause-later g c = λ within. let at = ap (λ (o : Observed). o.at) c.in_err-turn.ensures.err in omega (arith, at, c.loop-turns.invariant.later)

pub returns-in_err-push-clause-stands : goal.returns-in_err-push-clause-stands
returns-in_err-push-clause-stands g c =
    let was = c.args.observer.now in
    let board = c.args.board.now in
    let l = c.loop-turns in
    let t = c.in_ok-turn.turn in
    let next = c.turn.new.self in
    let later = c.turn.new.steps in
    let turn = turn_is board l.observer next t l.steps later c.in_ok-turn.ensures.turned c.in_ok-turn.ensures.moved c.in_ok-turn.ensures.ahead c.in_ok-turn.ensures.cost in
    (since_more board was l.observer next t l.steps later l.invariant.since turn).stands

pub returns-in_err-push-clause-later : goal.returns-in_err-push-clause-later
returns-in_err-push-clause-later g c = λ within.
    let was = c.args.observer.now in
    let board = c.args.board.now in
    let l = c.loop-turns in
    let t = c.in_ok-turn.turn in
    let next = c.turn.new.self in
    let later = c.turn.new.steps in
    let turn = turn_is board l.observer next t l.steps later c.in_ok-turn.ensures.turned c.in_ok-turn.ensures.moved c.in_ok-turn.ensures.ahead c.in_ok-turn.ensures.cost in
    later_than board was l.observer l.turns.items c.args.steps.now t next l.steps later l.invariant turn within

pub returns-in_err-push-clause-query : goal.returns-in_err-push-clause-query
returns-in_err-push-clause-query g c =
    let was = c.args.observer.now in
    let board = c.args.board.now in
    let l = c.loop-turns in
    let t = c.in_ok-turn.turn in
    let next = c.turn.new.self in
    let later = c.turn.new.steps in
    let turn = turn_is board l.observer next t l.steps later c.in_ok-turn.ensures.turned c.in_ok-turn.ensures.moved c.in_ok-turn.ensures.ahead c.in_ok-turn.ensures.cost in
    (since_more board was l.observer next t l.steps later l.invariant.since turn).query

pub returns-in_err-push-clause-shape : goal.returns-in_err-push-clause-shape
returns-in_err-push-clause-shape g c =
    let was = c.args.observer.now in
    let board = c.args.board.now in
    let l = c.loop-turns in
    let t = c.in_ok-turn.turn in
    let next = c.turn.new.self in
    let later = c.turn.new.steps in
    let turn = turn_is board l.observer next t l.steps later c.in_ok-turn.ensures.turned c.in_ok-turn.ensures.moved c.in_ok-turn.ensures.ahead c.in_ok-turn.ensures.cost in
    (since_more board was l.observer next t l.steps later l.invariant.since turn).shape

pub returns-then-still-clause-stands : goal.returns-then-still-clause-stands
returns-then-still-clause-stands g c =
    let was = c.args.observer.now in
    let board = c.args.board.now in
    let l = c.loop-turns in
    let t = c.in_ok-turn.turn in
    let next = c.turn.new.self in
    let later = c.turn.new.steps in
    let turn = turn_is board l.observer next t l.steps later c.in_ok-turn.ensures.turned c.in_ok-turn.ensures.moved c.in_ok-turn.ensures.ahead c.in_ok-turn.ensures.cost in
    (since_more board was l.observer next t l.steps later l.invariant.since turn).stands

pub returns-then-still-clause-later : goal.returns-then-still-clause-later
returns-then-still-clause-later g c = λ within.
    let was = c.args.observer.now in
    let board = c.args.board.now in
    let l = c.loop-turns in
    let t = c.in_ok-turn.turn in
    let next = c.turn.new.self in
    let later = c.turn.new.steps in
    let turn = turn_is board l.observer next t l.steps later c.in_ok-turn.ensures.turned c.in_ok-turn.ensures.moved c.in_ok-turn.ensures.ahead c.in_ok-turn.ensures.cost in
    later_than board was l.observer l.turns.items c.args.steps.now t next l.steps later l.invariant turn within

pub returns-then-still-clause-query : goal.returns-then-still-clause-query
returns-then-still-clause-query g c =
    let was = c.args.observer.now in
    let board = c.args.board.now in
    let l = c.loop-turns in
    let t = c.in_ok-turn.turn in
    let next = c.turn.new.self in
    let later = c.turn.new.steps in
    let turn = turn_is board l.observer next t l.steps later c.in_ok-turn.ensures.turned c.in_ok-turn.ensures.moved c.in_ok-turn.ensures.ahead c.in_ok-turn.ensures.cost in
    (since_more board was l.observer next t l.steps later l.invariant.since turn).query

pub returns-then-still-clause-shape : goal.returns-then-still-clause-shape
returns-then-still-clause-shape g c =
    let was = c.args.observer.now in
    let board = c.args.board.now in
    let l = c.loop-turns in
    let t = c.in_ok-turn.turn in
    let next = c.turn.new.self in
    let later = c.turn.new.steps in
    let turn = turn_is board l.observer next t l.steps later c.in_ok-turn.ensures.turned c.in_ok-turn.ensures.moved c.in_ok-turn.ensures.ahead c.in_ok-turn.ensures.cost in
    (since_more board was l.observer next t l.steps later l.invariant.since turn).shape

pub returns-then-still-clause-turned : goal.returns-then-still-clause-turned
returns-then-still-clause-turned g c = λ schema opening follows stood.
    let was = c.args.observer.now in
    let board = c.args.board.now in
    let l = c.loop-turns in
    let t = c.in_ok-turn.turn in
    let next = c.turn.new.self in
    let later = c.turn.new.steps in
    let turn = turn_is board l.observer next t l.steps later c.in_ok-turn.ensures.turned c.in_ok-turn.ensures.moved c.in_ok-turn.ensures.ahead c.in_ok-turn.ensures.cost in
    let ended = turned_last board was l.observer l.turns.items c.args.steps.now t next l.steps later (sym c.is_still-still.ensures ∙ c.if-still.true) l.invariant turn in
    c.in_ok-push.ensures.items ∙ ended.turned schema opening follows stood

pub returns-then-still-clause-end : goal.returns-then-still-clause-end
returns-then-still-clause-end g c =
    let was = c.args.observer.now in
    let board = c.args.board.now in
    let l = c.loop-turns in
    let t = c.in_ok-turn.turn in
    let next = c.turn.new.self in
    let later = c.turn.new.steps in
    let turn = turn_is board l.observer next t l.steps later c.in_ok-turn.ensures.turned c.in_ok-turn.ensures.moved c.in_ok-turn.ensures.ahead c.in_ok-turn.ensures.cost in
    (turned_last board was l.observer l.turns.items c.args.steps.now t next l.steps later (sym c.is_still-still.ensures ∙ c.if-still.true) l.invariant turn).end

pub returns-then-still-clause-cost : goal.returns-then-still-clause-cost
returns-then-still-clause-cost g c =
    let was = c.args.observer.now in
    let board = c.args.board.now in
    let l = c.loop-turns in
    let t = c.in_ok-turn.turn in
    let next = c.turn.new.self in
    let later = c.turn.new.steps in
    let turn = turn_is board l.observer next t l.steps later c.in_ok-turn.ensures.turned c.in_ok-turn.ensures.moved c.in_ok-turn.ensures.ahead c.in_ok-turn.ensures.cost in
    (turned_last board was l.observer l.turns.items c.args.steps.now t next l.steps later (sym c.is_still-still.ensures ∙ c.if-still.true) l.invariant turn).cost

pub loop-turns-smaller : goal.loop-turns-smaller
loop-turns-smaller g c =
    let was = c.args.observer.now in
    let board = c.args.board.now in
    let l = c.loop-turns in
    let t = c.in_ok-turn.turn in
    let next = c.turn.new.self in
    let later = c.turn.new.steps in
    let turn = turn_is board l.observer next t l.steps later c.in_ok-turn.ensures.turned c.in_ok-turn.ensures.moved c.in_ok-turn.ensures.ahead c.in_ok-turn.ensures.cost in
    let fell = falls board was l.observer l.turns.items c.args.steps.now t next l.steps later (sym c.is_still-still.ensures ∙ c.if-still.false) turn in
    omega (arith, fell.0, fell.1)

pub loop-turns-preserved : goal.loop-turns-preserved
loop-turns-preserved g c =
    let was = c.args.observer.now in
    let board = c.args.board.now in
    let l = c.loop-turns in
    let t = c.in_ok-turn.turn in
    let next = c.turn.new.self in
    let later = c.turn.new.steps in
    let turn = turn_is board l.observer next t l.steps later c.in_ok-turn.ensures.turned c.in_ok-turn.ensures.moved c.in_ok-turn.ensures.ahead c.in_ok-turn.ensures.cost in
    subst (λ (turns : List Turn). HasTurned board was next turns c.args.steps.now later) (sym c.in_ok-push.ensures.items)
    (turned_more board was l.observer l.turns.items c.args.steps.now t next l.steps later (sym c.is_still-still.ensures ∙ c.if-still.false) l.invariant turn)
