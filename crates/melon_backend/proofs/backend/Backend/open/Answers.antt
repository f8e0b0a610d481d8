use Rattle.melon_backend.proofs.Logged.{opens_stands, opens_keeps}
use Rattle.melon_backend.proofs.backend.Backend.open.Goals as goal

pub returns-clause-stands : goal.returns-clause-stands
returns-clause-stands g c = λ apart. opens_stands (g.K.Keeper.seen c.args.keeper.now) (g.K.Keeper.seen c.open_kept.new.keeper) c.args.name.now c.args.schema apart c.open_kept.result c.open_kept.ensures.opens

pub returns-clause-keeps : goal.returns-clause-keeps
returns-clause-keeps g c = λ apart m held.
    opens_keeps (g.K.Keeper.seen c.args.keeper.now) (g.K.Keeper.seen c.open_kept.new.keeper) c.args.name.now c.args.schema apart m held c.open_kept.result c.open_kept.ensures.opens
