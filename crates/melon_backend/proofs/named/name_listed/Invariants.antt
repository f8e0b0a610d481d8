use Rattle.std.proofs.Common.{◌≡◌, ◌++◌, map, drop}
use Rattle.melon_backend.specs.Inside.{rows_in}
use Rattle.melon_backend.specs.Listing.{tellings_seen, namings_seen, naming_told}
use Rattle.melon_backend.proofs.named.name_listed.Given as goal

abbrev pub invariant-loop-one : goal.invariant-loop-one
invariant-loop-one l = namings_seen l.named.items ++ map (naming_told (rows_in l.rows) l.table) (tellings_seen (drop l.one-index l.listed)) ≡ namings_seen l.fn.named.items ++ map (naming_told (rows_in l.fn.rows) l.fn.table) (tellings_seen l.fn.listed)
