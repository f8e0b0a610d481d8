use Rattle.std.proofs.Common.{ℕ, List, Result, Err, Ok, ap, sym, ◌∙◌}
use Rattle.std.proofs.lemmas.Result.{err_from_is_err_and}
use Rattle.melon_backend.specs.Backends.{open_plan}
use Rattle.melon_backend.proofs.Opens.{opens_keeping, opens_ok}
use Rattle.melon_backend.proofs.backend.Backend.open_kept.Goals as goal

pub returns-clause-opens : goal.returns-clause-opens
returns-clause-opens g c =
    let before = g.K.Keeper.seen c.args.keeper.now in let mid = g.K.Keeper.seen c.load.new.self in let now = g.K.Keeper.seen c.commit_any.new.keeper in
    let name = c.args.name.now in let kept = c.in_ok-kept.kept in
    let plan = ap (λ (n : List ℕ). open_plan n c.args.schema kept) (sym c.in_ok-copy.ensures) ∙ c.in_ok-laid.ensures.plan in
    opens_ok before mid now name c.args.schema kept c.in_ok-laid.laid.1 c.in_ok-laid.laid.0 plan c.in_ok-kept.ensures.loads c.in_ok-commit_any.ensures.keeper

pub returns-in_err-commit_any-clause-opens : goal.returns-in_err-commit_any-clause-opens
returns-in_err-commit_any-clause-opens g c =
    let before = g.K.Keeper.seen c.args.keeper.now in let mid = g.K.Keeper.seen c.load.new.self in let now = g.K.Keeper.seen c.commit_any.new.keeper in
    let name = c.args.name.now in let kept = c.in_ok-kept.kept in
    let plan = ap (λ (n : List ℕ). open_plan n c.args.schema kept) (sym c.in_ok-copy.ensures) ∙ c.in_ok-laid.ensures.plan in
    let p = err_from_is_err_and c.from_residual-in_err-commit_any.result c.from_residual-in_err-commit_any.ensures.1 in
    rw (p.1, p.2) (opens_keeping before mid now name c.args.schema kept c.in_ok-laid.laid.1 c.in_ok-laid.laid.0 plan c.in_ok-kept.ensures.loads c.in_err-commit_any.field-0.0 c.in_err-commit_any.ensures.keeper)
