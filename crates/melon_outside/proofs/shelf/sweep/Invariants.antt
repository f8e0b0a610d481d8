use Rattle.std.proofs.Common.{◌≡◌}
use Rattle.melon_outside.specs.Shelved.{shown}
use Rattle.melon_outside.proofs.shelf.sweep.Given as goal

abbrev pub invariant-loop-key : goal.invariant-loop-key
invariant-loop-key l = shown l.places.entries ≡ shown l.initial.places.entries
