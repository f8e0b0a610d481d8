use Rattle.std.proofs.Common.{◌≡◌, ◌++◌, map, drop}
use Rattle.melon_backend.specs.Listing.{tellings_seen, updated_told}
use Rattle.melon_backend.proofs.listed.list_updated.Given as goal

abbrev pub invariant-loop-row : goal.invariant-loop-row
invariant-loop-row l = tellings_seen l.listed.items ++ map updated_told (drop l.row-index l.rows) ≡ tellings_seen l.fn.listed.items ++ map updated_told l.fn.rows
