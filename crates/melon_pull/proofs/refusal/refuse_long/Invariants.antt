use Rattle.std.proofs.Common.{◌≡◌, drop}
use Rattle.std.specs.List.{filter_map}
use Rattle.melon_pull.specs.Incoming.{unless_any}
use Rattle.melon_pull.specs.Listing.{tellings_seen, long_told}
use Rattle.melon_pull.proofs.refusal.refuse_long.Given as goal

abbrev pub invariant-loop-one : goal.invariant-loop-one
invariant-loop-one l = unless_any (filter_map (long_told l.schema.tables) (tellings_seen (drop l.one-index l.listed))) ≡ unless_any (filter_map (long_told l.schema.tables) (tellings_seen l.listed))
