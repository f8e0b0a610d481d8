use Rattle.std.proofs.Common.{ℕ, List, Result, Err, Ok, ap, sym, subst, ◌∙◌}
use Rattle.std.proofs.lemmas.Result.{err_from_is_err_and}
use Rattle.melon_outside.specs.declared.keeper.KeeperError.{KeeperError}
use Rattle.melon_outside.specs.declared.keeper.KeeperError.TheVariants.{Failed}
use Rattle.melon_outside.specs.SeenKeeper.{Loads}
use Rattle.melon_outside.specs.Asking.{Asks}
use Rattle.melon_outside.specs.Keeping.{Leaves}
use Rattle.melon_board.specs.Stores.{store_key}
use Rattle.melon_board.specs.Opening.{open_plan}
use Rattle.melon_board.proofs.Opens.{opens_keeping, opens_ok}
use Rattle.melon_board.proofs.Stopped.{quiet_opened, loaded_opened, committed_opened}
use Rattle.melon_board.proofs.Holding.{holds_opened}
use Rattle.melon_board.proofs.store.Store.open.Goals as goal

pub returns-clause-opens : goal.returns-clause-opens
returns-clause-opens g c =
    let before = g.K.Keeper.seen c.args.keeper.now in let mid = g.K.Keeper.seen c.load.new.self in let now = g.K.Keeper.seen c.commit_any.new.keeper in
    let name = c.args.name.now in let kept = c.in_ok-kept.kept in
    let plan = ap (λ (n : List ℕ). open_plan n c.args.schema kept) (sym c.in_ok-name.ensures) ∙ c.in_ok-laid.ensures.plan in
    let loads = subst (λ (key : List ℕ). Loads key (Ok kept) before mid) (c.as_str.ensures.value ∙ c.in_ok-key.ensures) c.in_ok-kept.ensures.loads in
    let asks = subst (λ (key : List ℕ). Asks {T = Unit {0}} {E = KeeperError} c.in_ok-laid.laid.1 key Failed (Ok tt) mid now) (c.as_str-2.ensures.value ∙ c.in_ok-key.ensures) c.in_ok-commit_any.ensures.keeper in
    opens_ok before mid now name c.args.schema kept c.in_ok-laid.laid.1 c.in_ok-laid.laid.0 plan loads asks

pub returns-clause-keeps : goal.returns-clause-keeps
returns-clause-keeps g c =
    holds_opened (g.K.Keeper.seen c.args.keeper.now) (g.K.Keeper.seen c.commit_any.new.keeper) c.args.name.now c.args.schema c.in_ok-laid.laid.0 c.in_ok-laid.ensures.sound (returns-clause-opens g c)

pub returns-in_err-key-clause-stops : goal.returns-in_err-key-clause-stops
returns-in_err-key-clause-stops g c = quiet_opened (g.K.Keeper.seen c.args.keeper.now) (g.met.K.Keeper.between c.args.keeper.now) c.args.name.now c.args.schema

pub returns-in_err-name-clause-stops : goal.returns-in_err-name-clause-stops
returns-in_err-name-clause-stops g c = quiet_opened (g.K.Keeper.seen c.args.keeper.now) (g.met.K.Keeper.between c.args.keeper.now) c.args.name.now c.args.schema

pub returns-in_err-kept-clause-stops : goal.returns-in_err-kept-clause-stops
returns-in_err-kept-clause-stops g c = loaded_opened (g.K.Keeper.seen c.args.keeper.now) (g.K.Keeper.seen c.load.new.self) c.as_str.result.now c.args.name.now c.args.schema _ c.load.ensures.loads

pub returns-in_err-laid-clause-stops : goal.returns-in_err-laid-clause-stops
returns-in_err-laid-clause-stops g c = loaded_opened (g.K.Keeper.seen c.args.keeper.now) (g.K.Keeper.seen c.load.new.self) c.as_str.result.now c.args.name.now c.args.schema _ c.load.ensures.loads

pub returns-in_err-commit_any-clause-opens : goal.returns-in_err-commit_any-clause-opens
returns-in_err-commit_any-clause-opens g c =
    let before = g.K.Keeper.seen c.args.keeper.now in let mid = g.K.Keeper.seen c.load.new.self in let now = g.K.Keeper.seen c.commit_any.new.keeper in
    let name = c.args.name.now in let kept = c.in_ok-kept.kept in
    let plan = ap (λ (n : List ℕ). open_plan n c.args.schema kept) (sym c.in_ok-name.ensures) ∙ c.in_ok-laid.ensures.plan in
    let loads = subst (λ (key : List ℕ). Loads key (Ok kept) before mid) (c.as_str.ensures.value ∙ c.in_ok-key.ensures) c.in_ok-kept.ensures.loads in
    let e = c.in_err-commit_any.field-0.0 in
    let asks = subst (λ (key : List ℕ). Asks {T = Unit {0}} {E = KeeperError} c.in_ok-laid.laid.1 key Failed (Err e) mid now) (c.as_str-2.ensures.value ∙ c.in_ok-key.ensures) c.in_err-commit_any.ensures.keeper in
    let p = err_from_is_err_and c.from_residual-in_err-commit_any.result c.from_residual-in_err-commit_any.ensures.1 in
    rw (p.1, p.2) (opens_keeping before mid now name c.args.schema kept c.in_ok-laid.laid.1 c.in_ok-laid.laid.0 plan loads e asks)

pub returns-in_err-commit_any-clause-stops : goal.returns-in_err-commit_any-clause-stops
returns-in_err-commit_any-clause-stops g c =
    let before = g.K.Keeper.seen c.args.keeper.now in let mid = g.K.Keeper.seen c.load.new.self in let now = g.K.Keeper.seen c.commit_any.new.keeper in
    let name = c.args.name.now in let kept = c.in_ok-kept.kept in
    let plan = ap (λ (n : List ℕ). open_plan n c.args.schema kept) (sym c.in_ok-name.ensures) ∙ c.in_ok-laid.ensures.plan in
    let loads = subst (λ (key : List ℕ). Loads key (Ok kept) before mid) (c.as_str.ensures.value ∙ c.in_ok-key.ensures) c.in_ok-kept.ensures.loads in
    committed_opened before mid now name c.args.schema kept c.in_ok-laid.laid.1 c.in_ok-laid.laid.0 plan loads (g.met.K.Keeper.honestly c.commit_any.new.keeper) c.commit_any.ensures.was_honest
    (subst (λ (key : List ℕ). Leaves c.in_ok-laid.laid.1 key mid.holds now.may_leave) (c.as_str-2.ensures.value ∙ c.in_ok-key.ensures) c.commit_any.ensures.keeper.stops)

pub returns-clause-stops : goal.returns-clause-stops
returns-clause-stops g c =
    let before = g.K.Keeper.seen c.args.keeper.now in let mid = g.K.Keeper.seen c.load.new.self in let now = g.K.Keeper.seen c.commit_any.new.keeper in
    let name = c.args.name.now in let kept = c.in_ok-kept.kept in
    let plan = ap (λ (n : List ℕ). open_plan n c.args.schema kept) (sym c.in_ok-name.ensures) ∙ c.in_ok-laid.ensures.plan in
    let loads = subst (λ (key : List ℕ). Loads key (Ok kept) before mid) (c.as_str.ensures.value ∙ c.in_ok-key.ensures) c.in_ok-kept.ensures.loads in
    committed_opened before mid now name c.args.schema kept c.in_ok-laid.laid.1 c.in_ok-laid.laid.0 plan loads (g.met.K.Keeper.honestly c.commit_any.new.keeper) c.commit_any.ensures.was_honest
    (subst (λ (key : List ℕ). Leaves c.in_ok-laid.laid.1 key mid.holds now.may_leave) (c.as_str-2.ensures.value ∙ c.in_ok-key.ensures) c.commit_any.ensures.keeper.stops)
