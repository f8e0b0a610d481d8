use Rattle.std.proofs.Common.{◌≡◌, true, map}
use Rattle.std.specs.Vec.Iter.{into_iter_items}
use Rattle.melon_outside.specs.Ascending.{with_items}
use Rattle.melon_outside.specs.Kept.{key_cmp, key_of}
use Rattle.melon_outside.specs.Shelved.{shown, have_places, row_of}
use Rattle.melon_outside.proofs.shelf.fill.Given as goal

abbrev pub invariant-loop-filing : goal.invariant-loop-filing
invariant-loop-filing l = record {
  made : have_places (into_iter_items l.filing-iterator) l.places.entries ≡ true;
  shown : with_items key_cmp key_of (map row_of (into_iter_items l.filing-iterator)) (shown l.places.entries) ≡ with_items key_cmp key_of (map row_of l.fn.filings.items) (shown l.fn.places.entries);
}
