use Rattle.std.proofs.Common.{◌≡◌, true, take}
use Rattle.melon_outside.specs.Shelved.{shown, have_places}
use Rattle.melon_outside.proofs.shelf.make_places.Given as goal

abbrev pub invariant-loop-filing : goal.invariant-loop-filing
invariant-loop-filing l = record {
  shown : shown l.places.entries ≡ shown l.initial.places.entries;
  made : have_places (take l.filing-index l.filings) l.places.entries ≡ true;
}
