use Rattle.std.proofs.Common.{◌≡◌, ◌≤◌, ◌-◌, [], length}
use Rattle.std.specs.List.{AllByRecursion}
use Rattle.melon_backend.specs.Inside.{rows_in, AreKept}
use Rattle.melon_backend.proofs.opening.no_tables.Given as goal

abbrev pub invariant-loop-alloc : goal.invariant-loop-alloc
invariant-loop-alloc l = record {
  kept : AreKept l.tables.items;
  empty : AllByRecursion (λ t. rows_in t ≡ []) l.tables.items;
  within : length l.tables.items ≤ length l.schema.tables;
}

abbrev pub decreases-loop-alloc : goal.decreases-loop-alloc
decreases-loop-alloc l = length l.schema.tables - length l.tables.items
