use Rattle.std.proofs.Common.{ap, sym, ◌∙◌, map}
use Rattle.melon_outside.specs.Keeping.{are_in_order}
use Rattle.melon_outside.specs.Shelved.{seen_store, stores_of}
use Rattle.melon_outside.proofs.Keepers.{ordered_after}
use Rattle.melon_outside.proofs.memory_keeper.commit_stores.Goals as goal

pub returns-clause-ordered : goal.returns-clause-ordered
returns-clause-ordered c =
    let none = c.in_ok-settle.ensures.settled in
    let settled = ap (λ given. stores_of given c.settle.new.shelves.items) (sym none) ∙ c.in_ok-settle.ensures.same in
    ap (λ given. are_in_order (stores_of given c.commit_store.new.shelves.items)) none
    ∙ ordered_after c.args.store.now c.args.batch.now (map seen_store c.settle.new.shelves.items) (map seen_store c.commit_store.new.shelves.items) c.commit_store.result c.commit_store.ensures.ok c.commit_store.ensures.err (ap are_in_order settled ∙ c.requires)
