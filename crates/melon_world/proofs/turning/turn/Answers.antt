use Rattle.std.proofs.Common.{◌∷◌, [], ◌∙◌, ap, sym, subst}
use Rattle.std.proofs.lemmas.Result.{IfOk-weaker}
use Rattle.melon_script.specs.declared.item.Item.{Item}
use Rattle.melon_machine.specs.Calls.{Done}
use Rattle.melon_machine.specs.State.{as_kept}
use Rattle.melon_machine.specs.Apps.{place_of}
use Rattle.melon_machine.specs.Outcomes.{ends_with}
use Rattle.melon_world.specs.Handled.{IsBounded}
use Rattle.melon_world.proofs.Turned.{line_bound_is, app_found, found_legal, turn_called, apps_left, turn_missing}
use Rattle.melon_world.proofs.turning.turn.Goals as goal

pub returns-in-Some-clause-turned : goal.returns-in-Some-clause-turned
returns-in-Some-clause-turned g c = λ m h.
    let apps = c.args.apps.now.items in
    let at = c.in-Some.ensures ∙ (λ i. place_of as_kept (c.as_str.ensures i) (c.as_slice.ensures.value i)) in
    let k = c.index_mut.result.now in
    let here = c.index_mut.ensures.value in
    let f = app_found apps c.args.app.now c.in-Some.place k at here m h in
    IfOk-weaker c.turn_app.result _ _ (λ items is. turn_called apps c.args.app.now c.in-Some.place k at here m h c.args.observer.now c.turn_app.new.app items is)
    (c.turn_app.ensures.turned f.0 f.2 (found_legal apps c.args.app.now c.in-Some.place k at here m h))

pub returns-in-Some-clause-left : goal.returns-in-Some-clause-left
returns-in-Some-clause-left g c =
    let at = c.in-Some.ensures ∙ (λ i. place_of as_kept (c.as_str.ensures i) (c.as_slice.ensures.value i)) in
    apps_left c.args.apps.now.items c.args.app.now c.in-Some.place c.index_mut.result.now at c.index_mut.ensures.value c.args.observer.now c.turn_app.new.app c.turn_app.ensures.left

pub returns-in-Some-clause-cost : goal.returns-in-Some-clause-cost
returns-in-Some-clause-cost g c =
    let at = c.in-Some.ensures ∙ (λ i. place_of as_kept (c.as_str.ensures i) (c.as_slice.ensures.value i)) in
    IfOk-weaker c.turn_app.result _ _ (λ items b. subst (λ n. IsBounded n c.args.steps.now c.turn_app.new.steps) (sym (line_bound_is c.args.apps.now.items c.args.app.now c.in-Some.place c.index_mut.result.now at c.index_mut.ensures.value c.args.observer.now)) b) c.turn_app.ensures.cost

pub returns-in_ok-new-in-None-clause-turned : goal.returns-in_ok-new-in-None-clause-turned
returns-in_ok-new-in-None-clause-turned g c = λ m h.
    let none = c.in-None.ensures ∙ (λ i. place_of as_kept (c.as_str.ensures i) (c.as_slice.ensures.value i)) in
    let said = c.with_first.ensures ∙ ap (λ (item : Item). item ∷ []) c.in_ok-refusal-in-None.ensures in
    turn_missing c.args.apps.now.items c.args.app.now c.args.observer.now m h none ∙ (λ i. Done (ends_with c.args.apps.now.items (sym said i)))
