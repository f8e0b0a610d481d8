use Rattle.std.proofs.Common.{◌≡◌, drop}
use Rattle.melon_log.specs.Verdict.{unless_one}
use Rattle.melon_backend.specs.Listing.{namings_seen, long_named}
use Rattle.melon_backend.proofs.refusal.refuse_long.Given as goal

abbrev pub invariant-loop-one : goal.invariant-loop-one
invariant-loop-one l = unless_one (long_named l.schema.tables) (namings_seen (drop l.one-index l.named)) ≡ unless_one (long_named l.schema.tables) (namings_seen l.named)
