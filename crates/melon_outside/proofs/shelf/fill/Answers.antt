use Rattle.std.proofs.Common.{ap, sym, ◌∙◌, map}
use Rattle.std.specs.Vec.Iter.{into_iter_items}
use Rattle.melon_outside.specs.Ascending.{with_items}
use Rattle.melon_outside.specs.Kept.{key_cmp, key_of}
use Rattle.melon_outside.specs.Shelved.{shown, have_places, row_of}
use Rattle.melon_outside.proofs.Places.{filled_more, rises}
use Rattle.melon_outside.proofs.shelf.fill.Goals as goal

pub loop-filing-preserved : goal.loop-filing-preserved
loop-filing-preserved c =
    let old = c.loop-filing.places.entries in
    let next = c.in-Some.ensures.steps.0 in
    let more = filled_more (into_iter_items c.next.new.self) c.in-Some.filing old c.set_row.new.places.entries _ (rises old c.set_row.ensures.ordered)
    (ap (λ fs. have_places fs old) (sym next) ∙ c.loop-filing.invariant.made) c.set_row.ensures.entries
    (ap (λ fs. with_items key_cmp key_of (map row_of fs) (shown old)) (sym next) ∙ c.loop-filing.invariant.shown) in
    record { made = more.0; shown = more.1 }
