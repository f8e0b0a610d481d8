use Rattle.std.proofs.Common.{ℕ, List, Some, Result, Ok, Err, refl, ap, sym, subst, ◌∙◌}
use Rattle.melon_outside.specs.declared.kept.Kept.{Kept}
use Rattle.melon_outside.specs.declared.kept.KeptBatch.{KeptBatch}
use Rattle.melon_outside.specs.declared.keeper.KeeperError.{KeeperError}
use Rattle.melon_outside.specs.declared.keeper.KeeperError.TheVariants.{Failed, Memory}
use Rattle.melon_outside.specs.SeenKeeper.{Commits}
use Rattle.melon_outside.proofs.SeenKeepers.{not_asked, commit_asks}
use Rattle.melon_board.specs.Batches.{last_batch}
use Rattle.melon_board.specs.Keeps.{Keeps}
use Rattle.melon_board.specs.Stores.{SeenStore, store_key, with_last}
use Rattle.melon_board.proofs.KeptOn.{saves}
use Rattle.melon_board.proofs.Holding.{formed, holds_ok, holds_err}
use Rattle.std.proofs.lemmas.Result.{err_from_is_err_and}
use Rattle.melon_outside.specs.Asking.{Asks, IsDone}
use Rattle.melon_outside.specs.Keeping.{Stores}
use Rattle.melon_board.specs.Carried.{HoldsStore}
use Rattle.melon_board.specs.Inside.{store_in}
use Rattle.melon_board.proofs.store.Store.save_last.Goals as goal

pub returns-in_err-batch-clause-keeper : goal.returns-in_err-batch-clause-keeper
returns-in_err-batch-clause-keeper g c =
    let p = err_from_is_err_and c.from_residual-in_err-batch.result c.from_residual-in_err-batch.ensures.1 in
    rw (p.1, p.2) (not_asked (g.K.Keeper.seen c.args.keeper.now) (g.met.K.Keeper.between c.args.keeper.now) (Some (last_batch c.args.at)) (store_key c.args.self.now.name) Failed Memory (λ e. cc))

pub returns-in_err-key-clause-keeper : goal.returns-in_err-key-clause-keeper
returns-in_err-key-clause-keeper g c =
    let p = err_from_is_err_and c.from_residual.result c.from_residual.ensures.1 in
    rw (p.1, p.2) (not_asked (g.K.Keeper.seen c.args.keeper.now) (g.met.K.Keeper.between c.args.keeper.now) (Some (last_batch c.args.at)) (store_key c.args.self.now.name) Failed Memory (λ e. cc))

pub returns-in_err-commit-clause-keeper : goal.returns-in_err-commit-clause-keeper
returns-in_err-commit-clause-keeper g c =
    let old = g.K.Keeper.seen c.args.keeper.now in let new = g.K.Keeper.seen c.commit.new.self in
    let e = c.in_err-commit.field-0.0 in
    let key = c.as_str-2.ensures.value ∙ c.in_ok-key.ensures ∙ ap store_key (c.as_str.ensures ∙ ap (λ (s : SeenStore). s.name) c.self.view_is) in
    let p = err_from_is_err_and c.from_residual-in_err-commit.result c.from_residual-in_err-commit.ensures.1 in
    rw (p.1, p.2)
    (subst (λ (k : List ℕ). Asks {T = Unit {0}} {E = KeeperError} (Some (last_batch c.args.at)) k Failed (Err e) old new) key
    (subst (λ (batch : KeptBatch). Asks {T = Unit {0}} {E = KeeperError} (Some batch) c.as_str-2.result.now Failed (Err e) old new) c.in_ok-batch.ensures (commit_asks c.in_ok-batch.batch c.as_str-2.result.now (Err e) old new c.in_err-commit.ensures.commits)))

pub returns-clause-keeper : goal.returns-clause-keeper
returns-clause-keeper g c =
    let old = g.K.Keeper.seen c.args.keeper.now in let new = g.K.Keeper.seen c.commit.new.self in
    let key = c.as_str-2.ensures.value ∙ c.in_ok-key.ensures ∙ ap store_key (c.as_str.ensures ∙ ap (λ (s : SeenStore). s.name) c.self.view_is) in
    subst (λ (k : List ℕ). Asks {T = Unit {0}} {E = KeeperError} (Some (last_batch c.args.at)) k Failed (Ok tt) old new) key
    (subst (λ (batch : KeptBatch). Asks {T = Unit {0}} {E = KeeperError} (Some batch) c.as_str-2.result.now Failed (Ok tt) old new) c.in_ok-batch.ensures (commit_asks c.in_ok-batch.batch c.as_str-2.result.now (Ok tt) old new c.in_ok-commit.ensures.commits))

pub returns-clause-keeps : goal.returns-clause-keeps
returns-clause-keeps g c = λ held.
    let old = g.K.Keeper.seen c.args.keeper.now in let new = g.K.Keeper.seen c.commit.new.self in
    let store = store_in c.self.inside in
    let well = formed c.self.inside store refl c.self.invariant in
    let done = subst (λ (n : List ℕ). (m : Stores) → new.holds m → (was : Stores) × old.holds was × IsDone (Some (last_batch c.args.at)) (store_key n) was m) (sym (ap (λ (s : SeenStore). s.name) c.self.view_is)) (returns-clause-keeper g c).kept in
    holds_ok old new store (with_last c.args.at store) (Some (last_batch c.args.at)) refl (λ kept keeps. (saves store kept c.args.at well keeps).keeps) done (subst (HoldsStore old) (sym c.self.view_is) held)
