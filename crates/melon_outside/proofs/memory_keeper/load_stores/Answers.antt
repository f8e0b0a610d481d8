use Rattle.std.proofs.Common.{ap, sym, ◌∙◌, map}
use Rattle.std.proofs.lemmas.Result.{IfOk-weaker}
use Rattle.melon_outside.specs.Kept.{is_in_order}
use Rattle.melon_outside.specs.Keeping.{are_in_order}
use Rattle.melon_outside.specs.Shelved.{seen_store, stores_of}
use Rattle.melon_outside.proofs.Found.{find-in_order}
use Rattle.melon_outside.proofs.memory_keeper.load_stores.Goals as goal

pub returns-clause-ordered : goal.returns-clause-ordered
returns-clause-ordered c =
    let settled = ap (λ given. stores_of given c.settle.new.shelves.items) (sym c.in_ok-settle.ensures.settled) ∙ c.in_ok-settle.ensures.same in
    let ordered = ap are_in_order (ap (map seen_store) c.as_slice.ensures.value ∙ settled) ∙ c.requires in
    IfOk-weaker c.load_store.result _ _ (λ kept is. ap is_in_order is ∙ find-in_order (map seen_store c.as_slice.result.now) c.args.store.now ordered) c.load_store.ensures
