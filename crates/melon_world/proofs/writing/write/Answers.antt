use Rattle.std.proofs.Common.{◌∙◌}
use Rattle.serde_json.specs.View.{view}
use Rattle.melon_machine.specs.State.{as_kept}
use Rattle.melon_machine.specs.Apps.{write_app, place_of}
use Rattle.melon_world.proofs.Meeting.{on_app_handled}
use Rattle.melon_world.proofs.writing.write.Goals as goal

pub returns-in-Some : goal.returns-in-Some
returns-in-Some g c =
    on_app_handled (g.K.Keeper.seen c.args.keeper.now) (g.K.Keeper.seen c.write_app.new.keeper) c.args.apps.now.items c.args.app.now
    (write_app as_kept c.args.app.now (view c.args.ops.now) c.args.writer.now) c.in-Some.place c.index_mut.result.now c.write_app.new.app c.write_app.result
    (c.in-Some.ensures ∙ (λ i. place_of as_kept (c.as_str.ensures i) (c.as_slice.ensures.value i))) c.index_mut.ensures.value c.write_app.ensures
