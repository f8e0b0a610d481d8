use Rattle.std.proofs.Common.{◌≡◌, true, take, ap, subst, sym, ◌∙◌}
use Rattle.melon_outside.specs.Shelved.{shown, have_places}
use Rattle.melon_outside.proofs.Places.{places-keep, places-more}
use Rattle.melon_outside.proofs.Steps.{take_next}
use Rattle.melon_outside.proofs.shelf.make_places.Goals as goal

pub loop-filing-preserved : goal.loop-filing-preserved
loop-filing-preserved c =
    let next = c.in_ok-make_place.ensures in
    record {
      shown = next.shown ∙ c.loop-filing.invariant.shown;
      made =
          ap (λ fs. have_places fs c.make_place.new.places.entries) (take_next c.args.filings.now c.loop-filing.filing-index c.filing-item.result c.loop-filing-test.true c.filing-item.is)
          ∙ places-more (take c.loop-filing.filing-index c.args.filings.now) c.filing-item.result c.make_place.new.places.entries (places-keep _ c.loop-filing.places.entries c.make_place.new.places.entries next.keeps c.loop-filing.invariant.made) next.made;
    }
