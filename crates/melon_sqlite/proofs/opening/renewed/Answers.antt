use Rattle.std.proofs.Common.{◌≡◌, false, sym, ◌∙◌, subst, arith}
use Rattle.sqlite_trees.specs.Objects.{catalog_tree}
use Rattle.sqlite_trees.specs.Tree.{Trees}
use Rattle.sqlite_trees.specs.View.{IsClean, IsShaped}
use Rattle.sqlite_trees.specs.declared.store.Shape.TheVariants as shape
use Rattle.sqlite_catalog.specs.Listing.{IsSound, Lists}
use Rattle.sqlite_catalog.proofs.ReadLemmas.{lists_once}
use Rattle.sqlite.specs.Held.{state}
use Rattle.melon_sqlite.proofs.Opened.{open_from, orderly}
use Rattle.melon_sqlite.proofs.opening.renewed.Goals as goal

pub returns-in-Ok-clause-renewed : goal.returns-in-Ok-clause-renewed
returns-in-Ok-clause-renewed g c clean =
    let old = state g.S.Store c.args.connection in
    let new = state g.S.Store c.in-Ok.new in
    let store = c.into_store-store.result in
    let view = g.S.Store.view store in
    let early : IsClean view = omega (arith, c.in-Ok.ensures.clean, clean) in
    let unbroken : view.is_broken ≡ false = sym (c.is_broken.ensures early) ∙ c.if-is_broken.false in
    let is_open = open_from view.is_open view.is_broken (g.met.S.Store.broken_if_shut store) unbroken in
    let undone = c.into_store-store.ensures.undone in
    let was_open = (undone.kept early).was_open is_open in
    let opens = c.in-Ok.ensures.opens clean in
    let trees = c.in-Ok.ensures.trees clean in
    let found = trees ∙ (undone.undone is_open).0 in
    let now = (opens.1 opens.0.is_open).0 in
    let before = (c.schema-schema.ensures.live was_open).1 in
    let schema = lists_once (old.committed.trees catalog_tree) new.now.schema old.committed.schema (subst (λ (t : Trees). Lists (t catalog_tree) new.now.schema) found now.lists) before.lists in
    record {
      was_open = was_open;
      opens = opens.0;
      live = opens.1;
      found = λ i. record { schema = schema i; trees = found i };
      ordered = λ t there. subst (λ (x : Trees). IsShaped shape.Table (x t.tree)) (sym trees)
          (orderly view new.now.schema (g.met.S.Store.ordered store unbroken) (g.met.S.Alter.listed store unbroken) (subst (IsSound new.now.schema) trees now) t there);
    }
