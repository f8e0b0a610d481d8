use Rattle.std.proofs.Common.{◌≡◌, ◌∙◌, [], ◌∷◌, ◌++◌, ap, length, subst}
use Rattle.melon_relation.specs.Relations.{related}
use Rattle.melon_script.specs.declared.item.Item.TheVariants as items
use Rattle.melon_machine.specs.State.{KeptApp, kept_app, kept_observer, Owns, as_kept}
use Rattle.melon_machine.specs.Apps.{told, watches_by}
use Rattle.melon_world.proofs.Watched.{watch_told}
use Rattle.melon_world.proofs.observing.watch_now.Goals as goal

pub returns-in-Ok-clause-item : goal.returns-in-Ok-clause-item
returns-in-Ok-clause-item c =
    let app = c.app.inside in
    let at = c.len-at.ensures ∙ ap length c.board.ensures.entries in
    subst (λ (was : KeptApp). told (kept_app app.store app.queue c.push_reserved.new.self.items) (items.Emit c.in_ok-app_name.app_name c.in_ok-said.said c.len-at.result c.in-Ok.given)
    ≡ watches_by as_kept c.args.name.now c.args.observer was (related was.store.schema.tables was.store.rows c.args.table c.args.id.now c.args.to)) c.app.view_is
    ((λ i. told (kept_app app.store app.queue (c.push_reserved.ensures.items i)) (items.Emit (c.in_ok-app_name.ensures i) (c.in_ok-said.ensures i) (at i) c.in-Ok.given))
    ∙ (λ i. told (kept_app app.store app.queue (c.in_ok-reserve.ensures.items i ++ kept_observer c.args.observer (Owns c.in-Ok.opened) ∷ [])) (items.Emit c.args.name.now c.args.observer (length app.store.entries) c.in-Ok.given))
    ∙ watch_told c.args.name.now c.args.observer (kept_app app.store app.queue app.observers.items) c.args.table c.args.id.now c.args.to c.in-Ok.opened c.in-Ok.given c.in-Ok.ensures)
