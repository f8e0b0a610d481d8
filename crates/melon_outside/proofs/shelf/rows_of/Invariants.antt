use Rattle.std.proofs.Common.{◌≡◌, ◌++◌}
use Rattle.melon_outside.specs.Shelved.{shown}
use Rattle.melon_outside.proofs.shelf.rows_of.Given as goal

abbrev pub invariant-loop-key : goal.invariant-loop-key
invariant-loop-key l = l.rows ++ shown l.key-iterator ≡ shown l.places.entries
