use Rattle.std.proofs.Common.{Some, string_bytes}
use Rattle.std.proofs.lemmas.Result.{err_from_is_err_and}
use Rattle.melon_outside.proofs.SeenKeepers.{not_asked}
use Rattle.melon_board.specs.declared.fault.WriteFault.TheVariants.{KeeperFault, Memory}
use Rattle.melon_board.proofs.store.commit_entry.Goals as goal

pub returns-in_err-room-clause-keeper : goal.returns-in_err-room-clause-keeper
returns-in_err-room-clause-keeper g c =
    let p = err_from_is_err_and c.from_residual.result c.from_residual.ensures.1 in
    rw (p.1, p.2) (not_asked (g.K.Keeper.seen c.args.keeper.now) (g.met.K.Keeper.between c.args.keeper.now) (Some c.args.planned.now.batch) (string_bytes c.args.planned.now.key) KeeperFault Memory (λ e. cc))
