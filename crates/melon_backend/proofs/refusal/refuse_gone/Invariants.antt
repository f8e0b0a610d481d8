use Rattle.std.proofs.Common.{◌≡◌, drop}
use Rattle.melon_log.specs.Verdict.{unless_one}
use Rattle.melon_backend.specs.Listing.{namings_seen, gone_named}
use Rattle.melon_backend.proofs.refusal.refuse_gone.Given as goal

abbrev pub invariant-loop-one : goal.invariant-loop-one
invariant-loop-one l = unless_one (gone_named l.schema.tables l.t) (namings_seen (drop l.one-index l.named)) ≡ unless_one (gone_named l.schema.tables l.t) (namings_seen l.named)
