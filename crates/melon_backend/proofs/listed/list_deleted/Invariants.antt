use Rattle.std.proofs.Common.{◌≡◌, ◌++◌, map, drop}
use Rattle.melon_backend.specs.Listing.{tellings_seen, deleted_told}
use Rattle.melon_backend.proofs.listed.list_deleted.Given as goal

abbrev pub invariant-loop-id : goal.invariant-loop-id
invariant-loop-id l = tellings_seen l.listed.items ++ map deleted_told (drop l.id-index l.ids) ≡ tellings_seen l.fn.listed.items ++ map deleted_told l.fn.ids
