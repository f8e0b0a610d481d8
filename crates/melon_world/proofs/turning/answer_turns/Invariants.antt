use Rattle.std.proofs.Common.{◌≡◌, ◌++◌, map}
use Rattle.std.specs.Vec.Iter.{into_iter_items}
use Rattle.melon_machine.specs.Showing.{answer_turn}
use Rattle.melon_world.proofs.turning.answer_turns.Given as goal

abbrev pub invariant-loop-turn : goal.invariant-loop-turn
invariant-loop-turn l =
    let f = answer_turn l.schema.tables l.app l.name l.observer.query l.observer.shape in
    l.answer ++ map f (into_iter_items l.turn-iterator) ≡ map f l.fn.turns.items
