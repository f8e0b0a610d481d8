use Rattle.std.proofs.Common.{refl}
use Rattle.std.specs.Prelude.{Some}
use Rattle.melon_world.proofs.Begun.{handled_ok, handled_err}
use Rattle.melon_world.proofs.serving.open_under.Goals as goal

pub returns-in-Ok : goal.returns-in-Ok
returns-in-Ok g c =
    handled_ok (g.K.Keeper.seen c.args.keeper.now) (g.K.Keeper.seen c.open.new.keeper) c.open.ensures.later c.args.schema
    c.args.server.now (Some c.in-Ok.backend) c.in-Ok.backend c.revision-revision.result c.in-Ok.ensures.opens refl c.revision-revision.ensures

pub returns-in-Err : goal.returns-in-Err
returns-in-Err g c =
    handled_err (g.K.Keeper.seen c.args.keeper.now) (g.K.Keeper.seen c.open.new.keeper) c.open.ensures.later c.args.schema
    c.args.server.now c.in-Err.fault c.open_refusal.result c.in-Err.ensures.opens c.in-Err.ensures.cause c.requires c.open_refusal.ensures.item c.open_refusal.ensures.memory
