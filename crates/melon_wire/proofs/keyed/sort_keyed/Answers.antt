use Rattle.std.proofs.Common.{rules}
use Rattle.std.proofs.lemmas.List.Sorted.{ranks_by, answers_always}
use Rattle.melon_wire.specs.Keys.{is_before}
use Rattle.melon_wire.proofs.KeyOrder.{key_total}
use Rattle.melon_wire.proofs.KeyedLists.{rise_from_sorted}
use Rattle.melon_wire.proofs.keyed.sort_keyed.Goals as goal

pub returns-clause-rising : goal.returns-clause-rising
returns-clause-rising g c =
    rise_from_sorted g.T.Keyed.key_of c.sort_by.new.self.items
    (c.in_ok-sort_by.ensures.sorted (λ one other. is_before (g.T.Keyed.key_of one) (g.T.Keyed.key_of other)) (ranks_by key_total g.T.Keyed.key_of) (answers_always _ _ _ (λ f a r f' k. search rules)))
