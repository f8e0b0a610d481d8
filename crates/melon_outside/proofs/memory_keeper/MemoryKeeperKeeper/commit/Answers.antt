use Rattle.std.proofs.Common.{List, ap, sym, ◌∙◌, rules}
use Rattle.melon_outside.specs.declared.kept.KeptStore.{KeptStore}
use Rattle.melon_outside.specs.Kept.{batched}
use Rattle.melon_outside.specs.Keeping.{Shelves, find, with_store, are_in_order}
use Rattle.melon_outside.proofs.Keepers.{commits_nothing, commit_done, commit_left, at_err, at_ok}
use Rattle.melon_outside.proofs.memory_keeper.MemoryKeeperKeeper.commit.Goals as goal

pub returns-then-count_call-clause-commits : goal.returns-then-count_call-clause-commits
returns-then-count_call-clause-commits c = commits_nothing c.args.batch.now c.args.store.now _ _ _ (λ h. h) (search rules)

pub returns-then-is_err-clause-commits : goal.returns-then-is_err-clause-commits
returns-then-is_err-clause-commits c =
    let same = at_err c.commit_stores.result (sym c.is_err.ensures.value ∙ c.if-is_err.true) c.commit_stores.ensures.err in
    commits_nothing c.args.batch.now c.args.store.now _ _ _ (λ h. h) (search rules)

pub returns-clause-commits : goal.returns-clause-commits
returns-clause-commits c =
    let stores = ap (λ (v : Shelves). v.stores) c.self.view_is in
    let name = c.args.store.now in
    let change = λ (was : List KeptStore). with_store name (batched c.args.batch.now (find was name)) was in
    let changed = at_ok c.commit_stores.result (sym c.is_err.ensures.value ∙ c.if-is_err.false) c.commit_stores.ensures.ok ∙ ap change stores in
    let ordered = ap are_in_order (sym stores) ∙ c.self.invariant in
    record {
      done = commit_done c.args.batch.now name c.args.self.now.stores _ changed ordered;
      leaves = commit_left c.args.batch.now name c.args.self.now.stores _ changed;
      was_honest = λ h. h;
      answered = search rules;
      later = search rules;
      cause = search rules;
      never = search rules;
    }
