use Rattle.std.proofs.Common.{◌≡◌, drop}
use Rattle.melon_backend.specs.Backends.{value_in}
use Rattle.melon_backend.proofs.opening.value_in.Given as goal

abbrev pub invariant-loop-value : goal.invariant-loop-value
invariant-loop-value l = value_in l.name (drop l.value-index l.values) ≡ value_in l.name l.values
