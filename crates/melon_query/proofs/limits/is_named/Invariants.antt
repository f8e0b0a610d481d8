use Rattle.std.proofs.Common.{◌≡◌, drop}
use Rattle.melon_query.specs.Limits.{is_named}
use Rattle.melon_query.specs.Counting.{seen_names}
use Rattle.melon_query.proofs.limits.is_named.Given as goal

abbrev pub invariant-loop-other : goal.invariant-loop-other
invariant-loop-other l = is_named l.name (seen_names (drop l.other-index l.names)) ≡ is_named l.name (seen_names l.names)
