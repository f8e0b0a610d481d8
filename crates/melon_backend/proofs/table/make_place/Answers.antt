use Rattle.std.proofs.Common.{ℕ, List, ap, sym, subst, ◌∙◌}
use Rattle.melon_backend.specs.Inside.{shown, has_place, AreOwn}
use Rattle.melon_backend.proofs.Placed.{shown-place, own-place, has_place-more, none_there}
use Rattle.melon_backend.proofs.table.make_place.Goals as goal

pub returns-in_ok-insert-clause-shown : goal.returns-in_ok-insert-clause-shown
returns-in_ok-insert-clause-shown c =
    let es = c.args.places.now.entries in
    ap shown c.in_ok-insert.ensures.entries
    ∙ shown-place c.in_ok-key.key es (none_there c.in_ok-key.key c.args.id.now es (c.in_ok-key.ensures.ok ∙ c.as_str-then-not-contains_key.ensures)
    (ap (λ (i : List ℕ). has_place i es) (sym c.as_str.ensures) ∙ (sym c.contains_key.ensures ∙ c.if-not-contains_key.true)))

pub returns-in_ok-insert-clause-kept : goal.returns-in_ok-insert-clause-kept
returns-in_ok-insert-clause-kept c = subst AreOwn (sym c.in_ok-insert.ensures.entries) (own-place c.in_ok-key.key c.args.places.now.entries c.requires.kept)

pub returns-in_ok-insert-clause-keeps : goal.returns-in_ok-insert-clause-keeps
returns-in_ok-insert-clause-keeps c = λ q has. ap (has_place q) c.in_ok-insert.ensures.entries ∙ has_place-more q c.in_ok-key.key c.args.places.now.entries has
