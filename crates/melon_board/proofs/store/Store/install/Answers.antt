use Rattle.std.proofs.Common.{◌≡◌, Option, Ok, length, sym, subst, arith}
use Rattle.std.proofs.lemmas.Grind.{common_steps}
use Rattle.melon_outside.specs.declared.kept.KeptBatch.{KeptBatch}
use Rattle.melon_outside.specs.Asking.{Asks}
use Rattle.melon_outside.proofs.SeenKeepers.{none_asked}
use Rattle.melon_board.specs.declared.fault.WriteFault.TheVariants.{KeeperFault}
use Rattle.melon_board.specs.Stores.{store_key}
use Rattle.melon_board.proofs.Written.{nothing_asked}
use Rattle.melon_board.proofs.store.Store.install.Goals as goal

pub returns-then-is_empty-clause-keeper : goal.returns-then-is_empty-clause-keeper
returns-then-is_empty-clause-keeper g c =
    let seen = g.K.Keeper.seen c.args.keeper.now in
    let empty : length c.args.set ≡ 0 = grind (arith, common_steps) in
    subst (λ (batch : Option KeptBatch). Asks batch (store_key c.args.self.now.name) KeeperFault (Ok c.len.result) seen seen) (sym (nothing_asked c.args.self.now c.args.origin c.args.set empty))
    (none_asked seen (g.met.K.Keeper.between c.args.keeper.now) (store_key c.args.self.now.name) KeeperFault c.len.result)
