use Rattle.std.proofs.Common.{◌≡◌, true, subst}
use Rattle.std.specs.List.Sorted.{IsPermutation}
use Rattle.std.proofs.lemmas.List.Sorted.{IsPermutation-map}
use Rattle.melon_wire.specs.Keys.{do_rise}
use Rattle.melon_push.specs.Fetching.{collecting_seen, all_seen}
use Rattle.melon_push.proofs.Gathered.{keys_seen, gathered}
use Rattle.melon_push.proofs.fetched.fetched_records.Goals as goal

pub returns : goal.returns
returns c =
    let was = c.in_ok-all.all.items in
    let now = c.sort_keyed.new.items.items in
    gathered c.args.fetch.now (all_seen now)
    (subst (λ cs. IsPermutation cs (all_seen now)) c.in_ok-all.ensures (IsPermutation-map collecting_seen was now c.in_ok-sort_keyed.ensures.moved))
    (subst (λ ks. do_rise ks ≡ true) (keys_seen now) c.in_ok-sort_keyed.ensures.rising)
