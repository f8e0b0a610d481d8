use Rattle.std.proofs.Common.{subst, ◌≡◌, true}
use Rattle.std.specs.List.Sorted.{IsPermutation}
use Rattle.std.proofs.lemmas.List.Sorted.{IsPermutation-map}
use Rattle.melon_wire.specs.Keys.{do_rise}
use Rattle.melon_backend.specs.Listing.{telling_seen, tellings_seen}
use Rattle.melon_backend.proofs.Seen.{keys_seen}
use Rattle.melon_backend.proofs.listed.listed_ids.Goals as goal

pub returns-clause-moved : goal.returns-clause-moved
returns-clause-moved c =
    let was = c.in_ok-listed.listed.items in
    let now = c.sort_keyed.new.items.items in
    subst (λ told. IsPermutation told (tellings_seen now)) c.in_ok-listed.ensures (IsPermutation-map telling_seen was now c.in_ok-sort_keyed.ensures.moved)

pub returns-clause-rising : goal.returns-clause-rising
returns-clause-rising c = subst (λ ks. do_rise ks ≡ true) (keys_seen c.sort_keyed.new.items.items) c.in_ok-sort_keyed.ensures.rising
