use Rattle.std.proofs.Common.{◌∙◌, map, ap}
use Rattle.std.proofs.lemmas.Result.{IfOk-weaker}
use Rattle.serde_json.specs.View.{view}
use Rattle.melon_query.specs.Reading.{query_of}
use Rattle.melon_machine.specs.State.{KeptObserver, as_kept}
use Rattle.melon_machine.specs.Apps.{told, taken_fault, with_table, observes}
use Rattle.melon_world.proofs.Places.{refused_named, opened_named}
use Rattle.melon_world.proofs.observing.observe_named.Goals as goal

pub returns-in-Some-clause-item : goal.returns-in-Some-clause-item
returns-in-Some-clause-item c =
    let fault = c.in-Some.ensures ∙ (λ i. taken_fault (c.as_str.ensures i) (map (λ (o : KeptObserver). o.name) (c.as_slice.ensures.value i))) ∙ (λ i. taken_fault c.args.observer.now (as_kept.observers (c.app.view_is i))) in
    IfOk-weaker c.observer_refusal.result _ _ (λ item is. ap (told c.args.app.now) is ∙ refused_named c.args.observer.now c.args.app.now c.in-Some.number _ (with_table as_kept c.args.table.now c.args.app.now (λ t. observes as_kept c.args.name.now c.args.observer.now c.args.app.now t c.args.shape.now (query_of c.args.app.now.store.schema.tables c.args.table.now (view c.args.query.now)))) fault) c.observer_refusal.ensures.item

pub returns-in-None-clause-item : goal.returns-in-None-clause-item
returns-in-None-clause-item c =
    let fault = c.in-None.ensures ∙ (λ i. taken_fault (c.as_str.ensures i) (map (λ (o : KeptObserver). o.name) (c.as_slice.ensures.value i))) ∙ (λ i. taken_fault c.args.observer.now (as_kept.observers (c.app.view_is i))) in
    IfOk-weaker c.observe_table.result _ _ (λ item is. is ∙ (λ i. with_table as_kept c.args.table.now c.args.app.now (λ t. observes as_kept c.args.name.now (c.requires i) c.args.app.now t c.args.shape.now (query_of c.args.app.now.store.schema.tables c.args.table.now (view c.args.query.now)))) ∙ opened_named c.args.observer.now c.args.app.now _ (with_table as_kept c.args.table.now c.args.app.now (λ t. observes as_kept c.args.name.now c.args.observer.now c.args.app.now t c.args.shape.now (query_of c.args.app.now.store.schema.tables c.args.table.now (view c.args.query.now)))) fault) c.observe_table.ensures.item
