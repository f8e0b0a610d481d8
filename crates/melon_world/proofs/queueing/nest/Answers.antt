use Rattle.std.proofs.Common.{◌∙◌}
use Rattle.std.proofs.lemmas.Result.{IfOk-weaker}
use Rattle.melon_machine.specs.State.{as_kept}
use Rattle.melon_machine.specs.Apps.{place_of, nest_app}
use Rattle.melon_world.proofs.Meeting.{app_told}
use Rattle.melon_world.proofs.queueing.nest.Goals as goal

pub returns-in-Some-clause-item : goal.returns-in-Some-clause-item
returns-in-Some-clause-item c =
    IfOk-weaker c.nest_app.result _ _ (λ item is. app_told c.args.apps.now.items c.args.app.now (nest_app as_kept c.args.app.now c.args.writer.now) c.in-Some.place c.index_mut.result.now c.nest_app.new.app item
    (c.in-Some.ensures ∙ (λ i. place_of as_kept (c.as_str.ensures i) (c.as_slice.ensures.value i))) c.index_mut.ensures.value is) c.nest_app.ensures.item
