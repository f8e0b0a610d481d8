use Rattle.std.proofs.Common.{◌≡◌, ◌++◌, map, filter}
use Rattle.std.specs.List.{filter_map}
use Rattle.std.specs.List.Sorted.{IsStrictlySortedBy}
use Rattle.melon_backend.specs.Inside.{stamp_cmp, rows_in}
use Rattle.melon_backend.specs.Pulling.{touched_row, fresh, is_after}
use Rattle.melon_backend.proofs.pull.found_after.Given as goal

abbrev pub invariant-loop-stamp : goal.invariant-loop-stamp
invariant-loop-stamp l = record {
  found : map touched_row l.found.items ++ filter_map (fresh (rows_in l.table)) (filter (is_after l.t) l.stamp-iterator) ≡ filter_map (fresh (rows_in l.table)) (filter (is_after l.t) l.table.stamps.keys);
  ordered : IsStrictlySortedBy stamp_cmp l.stamp-iterator;
  whole : IsStrictlySortedBy stamp_cmp l.table.stamps.keys;
}
