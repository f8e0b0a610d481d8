use Rattle.std.proofs.Common.{Option, Result, Ok, ap, sym, subst}
use Rattle.melon_outside.specs.declared.kept.KeptBatch.{KeptBatch}
use Rattle.std.proofs.lemmas.Result.{err_from_is_err_and}
use Rattle.melon_outside.specs.Asking.{Asks}
use Rattle.melon_outside.proofs.SeenKeepers.{none_asked, not_asked}
use Rattle.melon_log.specs.declared.fault.PushFault.{PushFault}
use Rattle.melon_log.specs.declared.fault.PushFault.TheVariants.{KeeperFault}
use Rattle.melon_backend.specs.Pushed.{IsOfPush}
use Rattle.melon_backend.specs.Backends.{Plan, asked}
use Rattle.melon_backend.specs.declared.backend.Planned.{Planned}
use Rattle.melon_backend.specs.Pushing.{push_plan}
use Rattle.melon_backend.specs.Ready.{IsPlanOf}
use Rattle.melon_backend.proofs.Planning.{pushed_from, push_not_keepers}
use Rattle.melon_backend.proofs.backend.Backend.accept.Goals as goal

pub returns-in-Some-clause-pushed : goal.returns-in-Some-clause-pushed
returns-in-Some-clause-pushed g c =
    let b = c.args.self.now in
    let plan = push_plan b c.args.last c.args.changes.now in
    pushed_from b c.install.new.self plan c.in-Some.planned (subst (λ (o : Option Planned). IsPlanOf b plan o) c.in-Some.is c.in_ok-plan.ensures.plan) c.install.result c.install.ensures.ok c.install.ensures.after c.install.ensures.err c.install.ensures.fault

pub returns-in_err-plan-clause-keeper : goal.returns-in_err-plan-clause-keeper
returns-in_err-plan-clause-keeper g c =
    let p = err_from_is_err_and c.from_residual.result c.from_residual.ensures.1 in
    rw (p.1, p.2) (not_asked (g.K.Keeper.seen c.args.keeper.now) (g.met.K.Keeper.between c.args.keeper.now) (asked (push_plan c.args.self.now c.args.last c.args.changes.now)) c.args.self.now.name KeeperFault c.in_err-plan.field-0.0
    (push_not_keepers c.in_err-plan.field-0.0 c.in_err-plan.ensures.fault))

pub returns-in-None-clause-keeper : goal.returns-in-None-clause-keeper
returns-in-None-clause-keeper g c =
    let b = c.args.self.now in
    let plan = push_plan b c.args.last c.args.changes.now in
    let seen = g.K.Keeper.seen c.args.keeper.now in
    let is = subst (λ (o : Option Planned). IsPlanOf b plan o) c.in-None.is c.in_ok-plan.ensures.plan in
    subst (λ (batch : Option KeptBatch). Asks batch b.name KeeperFault (Ok c.self.inside.revision) seen seen) (sym (ap (λ (p : Result Plan PushFault). asked p) is)) (none_asked seen (g.met.K.Keeper.between c.args.keeper.now) b.name KeeperFault c.self.inside.revision)
