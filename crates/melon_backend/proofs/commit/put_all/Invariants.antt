use Rattle.std.proofs.Common.{◌≡◌, length, map, true}
use Rattle.std.specs.List.{AllByRecursion}
use Rattle.std.specs.Vec.Iter.{into_iter_items}
use Rattle.melon_wire.specs.Keys.{are_apart}
use Rattle.melon_backend.specs.Rows.{with_puts}
use Rattle.melon_backend.specs.Inside.{tables_rows, AreKept}
use Rattle.melon_backend.specs.Drafts.{key_put, are_ready, IsPutWithin}
use Rattle.melon_backend.proofs.commit.put_all.Given as goal

abbrev pub invariant-loop-put : goal.invariant-loop-put
invariant-loop-put l = record {
  kept : AreKept l.tables.items;
  long : length l.tables.items ≡ length l.fn.tables.items;
  within : AllByRecursion (IsPutWithin (length l.tables.items)) (into_iter_items l.put-iterator);
  ready : are_ready l.tables.items (into_iter_items l.put-iterator) ≡ true;
  apart : are_apart (map key_put (into_iter_items l.put-iterator)) ≡ true;
  rows : with_puts (tables_rows l.tables.items) (into_iter_items l.put-iterator) ≡ with_puts (tables_rows l.fn.tables.items) l.fn.puts.items;
}
