use Rattle.std.proofs.Common.{◌≡◌, map, take}
use Rattle.melon_outside.specs.Shelved.{seen_store}
use Rattle.melon_outside.proofs.shelf.shelves_of.Given as goal

abbrev pub invariant-loop-store : goal.invariant-loop-store
invariant-loop-store l = map seen_store l.shelves.items ≡ take l.store-index l.stores
