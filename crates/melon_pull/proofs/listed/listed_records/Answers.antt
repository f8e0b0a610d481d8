use Rattle.std.proofs.Common.{map, sym, ap, ◌∙◌, subst, ◌≡◌, true}
use Rattle.std.specs.List.Sorted.{IsPermutation}
use Rattle.std.proofs.lemmas.List.Sorted.{IsPermutation-map}
use Rattle.melon_wire.specs.Keys.{do_rise}
use Rattle.melon_pull.specs.Listing.{telling_seen, tellings_seen, tellings}
use Rattle.melon_pull.proofs.Seen.{keys_seen}
use Rattle.melon_pull.proofs.Told.{listing}
use Rattle.melon_pull.proofs.listed.listed_records.Goals as goal

pub returns : goal.returns
returns c =
    let was = c.in_ok-listed.listed.items in
    let now = c.sort_keyed.new.items.items in
    listing c.args.schema.now.tables c.args.changes.now (tellings_seen now)
    (subst (λ told. IsPermutation told (tellings_seen now)) c.in_ok-listed.ensures (IsPermutation-map telling_seen was now c.in_ok-sort_keyed.ensures.moved))
    (subst (λ ks. do_rise ks ≡ true) (keys_seen now) c.in_ok-sort_keyed.ensures.rising)
