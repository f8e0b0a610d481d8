use Rattle.std.proofs.Common.{◌≡◌, ◌++◌, map, drop}
use Rattle.melon_backend.specs.Listing.{tellings_seen, created_told}
use Rattle.melon_backend.proofs.listed.list_created.Given as goal

abbrev pub invariant-loop-row : goal.invariant-loop-row
invariant-loop-row l = tellings_seen l.listed.items ++ map created_told (drop l.row-index l.rows) ≡ tellings_seen l.fn.listed.items ++ map created_told l.fn.rows
