use Rattle.std.proofs.Common.{Option, Ok, sym, subst}
use Rattle.melon_outside.specs.declared.kept.KeptBatch.{KeptBatch}
use Rattle.melon_outside.specs.declared.keeper.KeeperError.{KeeperError}
use Rattle.melon_outside.specs.declared.keeper.KeeperError.TheVariants.{Failed}
use Rattle.melon_outside.specs.Asking.{Asks}
use Rattle.melon_outside.proofs.SeenKeepers.{none_asked}
use Rattle.melon_board.proofs.store.commit_any.Goals as goal

pub returns-in-None-clause-keeper : goal.returns-in-None-clause-keeper
returns-in-None-clause-keeper g c =
    let seen = g.K.Keeper.seen c.args.keeper.now in
    subst (λ (batch : Option KeptBatch). Asks {T = Unit {0}} {E = KeeperError} batch c.args.key.now Failed (Ok tt) seen seen) (sym c.in-None.is) (none_asked seen (g.met.K.Keeper.between c.args.keeper.now) c.args.key.now Failed tt)
