use Rattle.std.proofs.Common.{Some}
use Rattle.std.proofs.lemmas.Result.{err_from_is_err_and}
use Rattle.melon_outside.proofs.SeenKeepers.{not_asked}
use Rattle.melon_log.specs.declared.fault.PushFault.TheVariants.{KeeperFault, Memory}
use Rattle.melon_backend.proofs.commit.commit_puts.Goals as goal

pub returns-in_err-ready_all-clause-keeper : goal.returns-in_err-ready_all-clause-keeper
returns-in_err-ready_all-clause-keeper g c =
    let p = err_from_is_err_and c.from_residual.result c.from_residual.ensures.1 in
    rw (p.1, p.2) (not_asked (g.K.Keeper.seen c.args.keeper.now) (g.met.K.Keeper.between c.args.keeper.now) (Some c.args.batch.now) c.args.key.now KeeperFault Memory (λ e. cc))
