use Rattle.std.proofs.Common.{◌≡◌, ◌++◌, map}
use Rattle.std.specs.Vec.Iter.{into_iter_items}
use Rattle.melon_query.specs.declared.shown.Shown.{Shown}
use Rattle.melon_observe.proofs.showing.ids_of.Given as goal

abbrev pub invariant-loop-member : goal.invariant-loop-member
invariant-loop-member l = l.ids ++ map (λ (m : Shown). m.id) (into_iter_items l.member-iterator) ≡ map (λ (m : Shown). m.id) l.fn.members.items
