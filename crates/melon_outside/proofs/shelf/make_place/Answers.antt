use Rattle.std.proofs.Common.{ap, sym, ◌∙◌, None}
use Rattle.std.specs.BTreeMap.{is_at}
use Rattle.melon_outside.specs.Kept.{key_cmp}
use Rattle.melon_outside.specs.Shelved.{shown, has_place}
use Rattle.melon_outside.proofs.Places.{shown-place, has_place-updated}
use Rattle.melon_outside.proofs.shelf.make_place.Goals as goal

pub returns-in_ok-insert-clause-shown : goal.returns-in_ok-insert-clause-shown
returns-in_ok-insert-clause-shown c =
    let old = c.args.places.now.entries in
    ap shown c.in_ok-insert.ensures.entries ∙ shown-place c.in_ok-copy.field-0 old (ap (λ k. has_place k old) c.in_ok-copy.ensures ∙ sym c.contains_key.ensures ∙ c.if-not-contains_key.true)

pub returns-in_ok-insert-clause-keeps : goal.returns-in_ok-insert-clause-keeps
returns-in_ok-insert-clause-keeps c = λ q has. has_place-updated (is_at (key_cmp c.in_ok-copy.field-0) q) None _ _ (c.in_ok-insert.ensures.updates.0 q) has
