use Rattle.std.proofs.Common.{◌≡◌, List, ◌++◌, vec_len}
use Rattle.melon_wire.specs.declared.changes.TableChanges.{TableChanges}
use Rattle.melon_wire.specs.Sent.{by_name}
use Rattle.melon_push.proofs.ordering.tables_by_name.Given as goal

-- those that are put in order are a tail of all
abbrev pub invariant-loop-sent : goal.invariant-loop-sent
invariant-loop-sent l = (done : List TableChanges) × (l.fn.tables.items ≡ l.left.items ++ done) × (l.sorted.items ≡ by_name (λ t. t.table) done)

abbrev pub decreases-loop-sent : goal.decreases-loop-sent
decreases-loop-sent l = vec_len l.left
