use Rattle.std.proofs.Common.{sym, subst}
use Rattle.melon_script.specs.declared.line.Line.{Line}
use Rattle.melon_script.specs.Seen.{seen}
use Rattle.melon_machine.specs.Refusals.{is_of_keeper}
use Rattle.melon_machine.specs.Outcomes.{stepped}
use Rattle.melon_machine.specs.Apps.{plain_app_step}
use Rattle.melon_world.specs.Handled.{IsHandled}
use Rattle.melon_world.proofs.Meeting.{handled_quietly}
use Rattle.melon_world.proofs.world.take.Goals as goal

pub returns-in-Enter : goal.returns-in-Enter
unfolding plain_app_step
returns-in-Enter g c =
    let k = g.K.Keeper.seen c.args.keeper.now in let apps = c.args.apps.now.items in let left = c.enter.new.apps.items in
    subst (λ (line : Line). IsHandled (plain_app_step apps (seen line)) (stepped left) is_of_keeper k k apps left c.enter.result) (sym c.in-Enter.is)
    (handled_quietly k _ apps left c.enter.result c.enter.ensures.item c.enter.ensures.quiet c.enter.ensures.same)

pub returns-in-Nest : goal.returns-in-Nest
unfolding plain_app_step
returns-in-Nest g c =
    let k = g.K.Keeper.seen c.args.keeper.now in let apps = c.args.apps.now.items in let left = c.nest.new.apps.items in
    subst (λ (line : Line). IsHandled (plain_app_step apps (seen line)) (stepped left) is_of_keeper k k apps left c.nest.result) (sym c.in-Nest.is)
    (handled_quietly k _ apps left c.nest.result c.nest.ensures.item c.nest.ensures.quiet c.nest.ensures.same)

pub returns-in-Leave : goal.returns-in-Leave
unfolding plain_app_step
returns-in-Leave g c =
    let k = g.K.Keeper.seen c.args.keeper.now in let apps = c.args.apps.now.items in let left = c.leave.new.apps.items in
    subst (λ (line : Line). IsHandled (plain_app_step apps (seen line)) (stepped left) is_of_keeper k k apps left c.leave.result) (sym c.in-Leave.is)
    (handled_quietly k _ apps left c.leave.result c.leave.ensures.item c.leave.ensures.quiet c.leave.ensures.same)

pub returns-in-Observe : goal.returns-in-Observe
unfolding plain_app_step
returns-in-Observe g c =
    let k = g.K.Keeper.seen c.args.keeper.now in let apps = c.args.apps.now.items in let left = c.observe.new.apps.items in
    subst (λ (line : Line). IsHandled (plain_app_step apps (seen line)) (stepped left) is_of_keeper k k apps left c.observe.result) (sym c.in-Observe.is)
    (handled_quietly k _ apps left c.observe.result c.observe.ensures.item c.observe.ensures.quiet c.observe.ensures.same)

pub returns-in-Watch : goal.returns-in-Watch
unfolding plain_app_step
returns-in-Watch g c =
    let k = g.K.Keeper.seen c.args.keeper.now in let apps = c.args.apps.now.items in let left = c.watch.new.apps.items in
    subst (λ (line : Line). IsHandled (plain_app_step apps (seen line)) (stepped left) is_of_keeper k k apps left c.watch.result) (sym c.in-Watch.is)
    (handled_quietly k _ apps left c.watch.result c.watch.ensures.item c.watch.ensures.quiet c.watch.ensures.same)

pub returns-in-Drop : goal.returns-in-Drop
unfolding plain_app_step
returns-in-Drop g c =
    let k = g.K.Keeper.seen c.args.keeper.now in let apps = c.args.apps.now.items in let left = c.drop_observer.new.apps.items in
    subst (λ (line : Line). IsHandled (plain_app_step apps (seen line)) (stepped left) is_of_keeper k k apps left c.drop_observer.result) (sym c.in-Drop.is)
    (handled_quietly k _ apps left c.drop_observer.result c.drop_observer.ensures.item c.drop_observer.ensures.quiet c.drop_observer.ensures.same)
