use Rattle.std.proofs.lemmas.Result.{err_from_is_err_and}
use Rattle.melon_outside.proofs.SeenKeepers.{not_asked}
use Rattle.melon_board.specs.declared.fault.WriteFault.TheVariants.{KeeperFault}
use Rattle.melon_board.specs.Plans.{asked, write_plan}
use Rattle.melon_board.specs.Stores.{store_key}
use Rattle.melon_board.proofs.Written.{not_keepers}
use Rattle.melon_board.proofs.Summed.{legal_batch}
use Rattle.melon_board.proofs.store.Store.write.Goals as goal

pub install-requires : goal.install-requires
install-requires g c = legal_batch c.self.inside c.args.self.now c.self.view_is c.self.invariant c.args.ops c.in_ok-set.set c.tables.result.now c.tables.ensures c.in_ok-set.ensures.batch

pub returns-in_err-set-clause-keeper : goal.returns-in_err-set-clause-keeper
returns-in_err-set-clause-keeper g c =
    let p = err_from_is_err_and c.from_residual.result c.from_residual.ensures.1 in
    rw (p.1, p.2) (not_asked (g.K.Keeper.seen c.args.keeper.now) (g.met.K.Keeper.between c.args.keeper.now) (asked (write_plan c.args.self.now c.args.ops)) (store_key c.args.self.now.name) KeeperFault _ (not_keepers c.in_err-set.field-0.0))
