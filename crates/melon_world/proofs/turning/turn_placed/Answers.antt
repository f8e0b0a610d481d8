use Rattle.std.proofs.Common.{◌∷◌, [], ◌∙◌, set, map, ap, sym, subst, Some, inr}
use Rattle.std.proofs.lemmas.Result.{IfOk-weaker}
use Rattle.melon_script.specs.declared.item.Item.{Item}
use Rattle.melon_machine.specs.State.{KeptObserver, KeptApp, kept_app, as_kept}
use Rattle.melon_machine.specs.Apps.{place_in}
use Rattle.melon_world.specs.Handled.{app_bound, IsBounded, IsAppLeft}
use Rattle.melon_world.proofs.Turned.{none_told, bound_is, found, within, turns_told, left_turned}
use Rattle.melon_world.proofs.turning.turn_placed.Goals as goal

pub returns-in-Some-clause-turned : goal.returns-in-Some-clause-turned
returns-in-Some-clause-turned g c = λ a same legal.
    let app = kept_app c.app.inside.store c.app.inside.queue c.app.inside.observers.items in
    let at = c.in-Some.ensures ∙ (λ i. place_in (c.as_str.ensures i) (map (λ (o : KeptObserver). o.name) (c.as_slice.ensures.value i))) in
    let e = same ∙ sym c.app.view_is in
    let here = c.index_mut.ensures.value in
    let k = c.index_mut.result.now in
    let observer = c.args.observer.now in
    let f = found app observer c.in-Some.place k at here a e legal in
    IfOk-weaker c.turn_named.result _ _ (λ items both. turns_told app observer c.in-Some.place k at here a e legal c.args.name.now c.turn_named.new.observer items c.requires both.0 both.1)
    (c.turn_named.ensures.turned a f.0 (ap (λ (w : KeptApp). w.store) e) legal (within app observer c.in-Some.place k at here a e legal) f.2)

pub returns-in-Some-clause-left : goal.returns-in-Some-clause-left
returns-in-Some-clause-left g c =
    let app = kept_app c.app.inside.store c.app.inside.queue c.app.inside.observers.items in
    let at = c.in-Some.ensures ∙ (λ i. place_in (c.as_str.ensures i) (map (λ (o : KeptObserver). o.name) (c.as_slice.ensures.value i))) in
    let here = c.index_mut.ensures.value in
    let k = c.index_mut.result.now in
    let observer = c.args.observer.now in
    subst (λ (was : KeptApp). IsAppLeft observer was (kept_app c.app.inside.store c.app.inside.queue (set c.app.inside.observers.items c.in-Some.place c.turn_named.new.observer))) c.app.view_is
    (inr (λ a e legal.
    let f = found app observer c.in-Some.place k at here a e legal in
    left_turned app observer c.in-Some.place k at here a e legal c.turn_named.new.observer (c.turn_named.ensures.stands a f.0 (ap (λ (w : KeptApp). w.store) e) legal (within app observer c.in-Some.place k at here a e legal) f.2)))

pub returns-in-Some-clause-cost : goal.returns-in-Some-clause-cost
returns-in-Some-clause-cost g c =
    let app = kept_app c.app.inside.store c.app.inside.queue c.app.inside.observers.items in
    let at = c.in-Some.ensures ∙ (λ i. place_in (c.as_str.ensures i) (map (λ (o : KeptObserver). o.name) (c.as_slice.ensures.value i))) in
    let bound = ap (app_bound c.args.observer.now) (λ i. Some (sym c.app.view_is i)) ∙ bound_is app c.args.observer.now c.in-Some.place c.index_mut.result.now at c.index_mut.ensures.value in
    IfOk-weaker c.turn_named.result _ _ (λ items b. subst (λ n. IsBounded n c.args.steps.now c.turn_named.new.steps) (sym bound) b) c.turn_named.ensures.cost

pub returns-in_ok-new-in-None-clause-turned : goal.returns-in_ok-new-in-None-clause-turned
returns-in_ok-new-in-None-clause-turned g c = λ a same legal.
    let none = c.in-None.ensures ∙ (λ i. place_in (c.as_str.ensures i) (map (λ (o : KeptObserver). o.name) (c.as_slice.ensures.value i))) ∙ (λ i. place_in c.args.observer.now (as_kept.observers (c.app.view_is i))) in
    let said = c.with_first.ensures ∙ ap (λ (item : Item). item ∷ []) c.in_ok-refusal-in-None.ensures.item in
    none_told a c.args.app.now same c.args.observer.now c.args.name.now c.requires none ∙ (λ i. record { app = c.args.app.now; items = sym said i })
