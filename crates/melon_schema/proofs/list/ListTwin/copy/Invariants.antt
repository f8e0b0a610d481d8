use Rattle.std.proofs.Common.{◌≡◌, ◌++◌, drop}
use Rattle.melon_schema.proofs.list.ListTwin.copy.Given as goal

abbrev pub invariant-loop-item : goal.invariant-loop-item
invariant-loop-item g l = l.all.items ++ drop l.item-index l.item-items ≡ l.self
