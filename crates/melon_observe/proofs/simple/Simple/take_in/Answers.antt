use Rattle.std.proofs.Common.{◌≡◌, ℕ, List, ap, ◌∙◌, subst}
use Rattle.melon_query.specs.declared.shown.Shown.{Shown}
use Rattle.melon_views.specs.Views.{shown}
use Rattle.melon_views.specs.Members.{columns_of, told}
use Rattle.melon_views.specs.Standing.{Observed}
use Rattle.melon_change.specs.Changes.{after_set}
use Rattle.melon_observe.specs.Members.{is_ascending, have_cells}
use Rattle.melon_observe.specs.Patches.{patches_of, by_id, all_patched}
use Rattle.melon_observe.proofs.Keeping.{ascending-all_patched}
use Rattle.melon_observe.proofs.Patched.{cells_after}
use Rattle.melon_observe.proofs.Shows.{shown_after}
use Rattle.melon_observe.proofs.Sorted.{ordered_alike}
use Rattle.melon_observe.proofs.simple.Simple.take_in.Goals as goal

pub invariant_of-self-2 : goal.invariant_of-self-2
invariant_of-self-2 c =
    let s = c.self.inside in
    let ms = s.members.items in
    let set = c.args.changes.now in
    let ps = patches_of s.query (columns_of s.shape) set in
    let named : c.in_ok-patches.patches.items ≡ by_id ps = c.in_ok-patches.ensures ∙ ap (λ (columns : List ℕ). by_id (patches_of s.query columns set)) c.columns_of-columns.ensures in
    let is : c.patch_all-2.new.members.items ≡ all_patched ms ps =
    c.patch_all-2.ensures.members ∙ (ap (λ (ns : List Shown). all_patched ns c.in_ok-patches.patches.items) c.reserve-2.ensures.items ∙ (ap (all_patched ms) named ∙ ordered_alike ps ms)) in
    record {
      simple = c.self.invariant.simple;
      ascending = ap is_ascending is ∙ ascending-all_patched ps ms c.self.invariant.ascending;
      cells = ap (have_cells s.shape) is ∙ cells_after s.query s.shape set ms c.self.invariant.cells;
    }

pub returns-clause-shows : goal.returns-clause-shows
returns-clause-shows c = λ schema rows origin asc changes.
    let s = c.self.inside in
    let ms = s.members.items in
    let set = c.args.changes.now in
    let ps = patches_of s.query (columns_of s.shape) set in
    let named : c.in_ok-patches.patches.items ≡ by_id ps = c.in_ok-patches.ensures ∙ ap (λ (columns : List ℕ). by_id (patches_of s.query columns set)) c.columns_of-columns.ensures in
    let twins : c.in_ok-twins.twins.items ≡ by_id ps = c.in_ok-twins.ensures ∙ (c.as_slice.ensures.value ∙ named) in
    let copied : c.in_ok-shown.shown.items ≡ ms = c.in_ok-shown.ensures.items ∙ c.as_slice-2.ensures.value in
    let is : c.patch_all.new.members.items ≡ all_patched ms ps =
    c.patch_all.ensures.members ∙ (ap (λ (ns : List Shown). all_patched ns c.in_ok-twins.twins.items) copied ∙ (ap (all_patched ms) twins ∙ ordered_alike ps ms)) in
    subst (λ (o : Observed). o.kept ≡ shown o.query o.shape rows → c.in_ok-emission.emission ≡ shown o.query o.shape (after_set rows set)) c.self.view_is
    (λ kept. c.in_ok-emission.ensures ∙ (ap (told s.shape) is ∙ shown_after s.query s.shape ms schema rows origin set c.self.invariant.simple asc c.self.invariant.cells changes kept))
