use Rattle.std.proofs.Common.{◌≡◌, None, ap, ◌∙◌}
use Rattle.std.specs.BTreeMap.{is_at}
use Rattle.melon_outside.specs.Kept.{key_cmp}
use Rattle.melon_outside.specs.Shelved.{has_place}
use Rattle.melon_outside.proofs.Places.{emptied_more, has_place-set, rises}
use Rattle.melon_outside.proofs.Steps.{drop_next}
use Rattle.melon_outside.proofs.shelf.empty.Goals as goal

pub loop-key-preserved : goal.loop-key-preserved
loop-key-preserved c =
    let old = c.loop-key.places.entries in
    let set = c.set_row.ensures in
    record {
      shown = emptied_more c.args.keys.now c.loop-key.key-index c.key-item.result old c.set_row.new.places.entries _ (drop_next c.args.keys.now c.loop-key.key-index c.key-item.result c.loop-key-test.true c.key-item.is) (rises old set.ordered) set.entries c.loop-key.invariant.shown;
      keeps = λ q. ap (has_place q) set.entries ∙ has_place-set q (is_at (key_cmp c.key-item.result)) old None ∙ c.loop-key.invariant.keeps q;
    }
