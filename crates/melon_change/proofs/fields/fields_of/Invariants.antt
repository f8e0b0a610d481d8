use Rattle.std.proofs.Common.{◌≡◌, ◌++◌, fold}
use Rattle.std.specs.List.{filter_map}
use Rattle.std.specs.Vec.Iter.{into_iter_items}
use Rattle.melon_change.specs.Batch.{first_name, least_name, placed, unknown_name}
use Rattle.melon_change.proofs.fields.fields_of.Given as goal

abbrev pub invariant-loop-column : goal.invariant-loop-column
invariant-loop-column l =
    (l.fields ++ filter_map (placed l.table.columns) (into_iter_items l.column-iterator) ≡ filter_map (placed l.table.columns) l.fn.set)
    × (fold first_name l.unknown (filter_map (unknown_name l.table.columns) (into_iter_items l.column-iterator)) ≡ least_name (filter_map (unknown_name l.table.columns) l.fn.set))
