use Rattle.std.proofs.Common.{◌≡◌, length}
use Rattle.melon_change.specs.Named.{NamesNone}
use Rattle.melon_change.proofs.named.none_named.Given as goal

abbrev pub invariant-loop : goal.invariant-loop
invariant-loop l = NamesNone l.named.items × (length l.named.items ≡ l.counter)
