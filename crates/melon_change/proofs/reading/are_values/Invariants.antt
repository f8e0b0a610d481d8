use Rattle.std.proofs.Common.{◌≡◌, is_some}
use Rattle.melon_schema.specs.Json.{each}
use Rattle.melon_change.proofs.Someness.{of_entry}
use Rattle.melon_change.proofs.reading.are_values.Given as goal

abbrev pub invariant-loop-key : goal.invariant-loop-key
invariant-loop-key l =
    (goal.iterator-loop-key).can_next l._key-iterator ×
    (goal.iterator-loop-key).is_finite l._key-iterator ×
    (is_some (each (of_entry l.exact) l._key-iterator) ≡ is_some (each (of_entry l.exact) l.members.entries))
