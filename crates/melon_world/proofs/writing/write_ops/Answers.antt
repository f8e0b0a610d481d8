use Rattle.std.proofs.Common.{subst}
use Rattle.melon_board.specs.Plans.{write_plan}
use Rattle.melon_machine.specs.Refusals.{is_of_keeper}
use Rattle.melon_machine.specs.State.{KeptApp, kept_app, as_kept}
use Rattle.melon_machine.specs.Apps.{writes_by, told}
use Rattle.melon_world.specs.Handled.{IsHandled}
use Rattle.melon_world.proofs.Written.{handled}
use Rattle.melon_world.proofs.writing.write_ops.Goals as goal

pub returns : goal.returns
returns g c =
    let before = g.K.Keeper.seen c.args.keeper.now in let now = g.K.Keeper.seen c.write-done.new.keeper in
    let name = c.args.name.now in let ops = c.args.ops in let left = kept_app c.write-done.new.self c.app.inside.queue c.app.inside.observers.items in
    subst (λ (was : KeptApp). IsHandled (writes_by as_kept name was (write_plan was.store ops)) (told left) is_of_keeper before now was left c.written_item.result) c.app.view_is
    (handled before now name (kept_app c.app.inside.store c.app.inside.queue c.app.inside.observers.items) (write_plan c.app.inside.store ops) c.write-done.new.self c.in_ok-name.name c.write-done.result c.written_item.result
    c.in_ok-name.ensures c.write-done.ensures.written c.write-done.ensures.keeper c.written_item.ensures)
