use Rattle.std.proofs.Common.{◌≡◌, true, List, map, subst}
use Rattle.std.specs.List.Sorted.{IsPermutation}
use Rattle.std.proofs.lemmas.List.Sorted.{IsPermutation-map}
use Rattle.melon_wire.specs.Keys.{do_rise}
use Rattle.melon_raw.specs.Rows.{Key}
use Rattle.melon_log.specs.declared.server_row.ServerRow.{ServerRow}
use Rattle.melon_backend.specs.Inside.{rows_in}
use Rattle.melon_backend.specs.Pulling.{touched_row, is_after}
use Rattle.melon_backend.proofs.Tables.{ascend-rows}
use Rattle.melon_backend.proofs.Touching.{found_is, sorted-filter, keys_touched}
use Rattle.melon_backend.proofs.pull.touched_after.Goals as goal

pub returns : goal.returns
returns c =
    let table = c.args.table.now in
    let now = c.sort_keyed.new.items.items in
    found_is (rows_in table) (ascend-rows table c.requires) table.stamps.keys c.requires.stamped c.args.t (sorted-filter (is_after c.args.t) table.stamps.keys c.in_ok-found.ensures.ordered) (map touched_row now)
    (subst (λ (was : List ServerRow). IsPermutation was (map touched_row now)) c.in_ok-found.ensures.found (IsPermutation-map touched_row c.in_ok-found.found.items now c.in_ok-sort_keyed.ensures.moved))
    (subst (λ (ks : List Key). do_rise ks ≡ true) (keys_touched now) c.in_ok-sort_keyed.ensures.rising)
