use Rattle.std.proofs.Common.{◌≡◌, drop}
use Rattle.melon_query.specs.Reading.{joins_named}
use Rattle.melon_query.proofs.resolve.joins_named.Given as goal

-- what is left is still to be judged
abbrev pub invariant-loop-name : goal.invariant-loop-name
invariant-loop-name l = joins_named l.schema.tables l.main (drop l.name-index l.names) ≡ joins_named l.schema.tables l.main l.names
