use Rattle.std.proofs.Common.{◌≡◌, sym, ap, ◌∙◌, subst, List}
use Rattle.melon_raw.specs.declared.raw.Raw.{Raw}
use Rattle.melon_raw.specs.Rows.{at_id, without_row}
use Rattle.melon_table.specs.Kept.{IsKept}
use Rattle.melon_table.proofs.ById.{IsKept-without_row}
use Rattle.melon_table.proofs.Placed.{below_here, stands_within, found, absent, removed, unmoved}
use Rattle.melon_table.proofs.table.Table.remove.Goals as goal

pub dirty_before-before-requires-clause-place : goal.dirty_before-before-requires-clause-place
dirty_before-before-requires-clause-place c =
    below_here c.args.id.now c.self.inside.rows.rows c.in-Ok.place c.self.invariant.ascending c.in-Ok.ensures

pub remove-requires-clause-within : goal.remove-requires-clause-within
remove-requires-clause-within c = stands_within c.args.id.now c.self.inside.rows.rows c.in-Ok.place c.self.invariant.ascending c.in-Ok.ensures

pub invariant_of-self : goal.invariant_of-self
invariant_of-self c =
    let rows = c.self.inside.rows.rows in
    let h = c.in-Ok.ensures in
    let new = c.remove.ensures.rows ∙ removed c.args.id.now rows c.in-Ok.place c.self.invariant.ascending h in
    subst (λ (xs : List Raw). IsKept c.self.inside.columns xs) (sym new) (IsKept-without_row c.self.inside.columns c.args.id.now rows c.self.invariant)

pub returns-in-Ok-clause-was : goal.returns-in-Ok-clause-was
returns-in-Ok-clause-was c =
    let rows = c.self.inside.rows.rows in
    let h = c.in-Ok.ensures in
    found c.args.id.now rows c.in-Ok.place c.self.invariant.ascending h c.remove.result c.remove.ensures.was ∙ ap (λ t. at_id c.args.id.now t.rows) c.self.view_is

pub returns-in-Ok-clause-rows : goal.returns-in-Ok-clause-rows
returns-in-Ok-clause-rows c =
    let rows = c.self.inside.rows.rows in
    let h = c.in-Ok.ensures in
    c.remove.ensures.rows ∙ (removed c.args.id.now rows c.in-Ok.place c.self.invariant.ascending h ∙ ap (λ t. without_row c.args.id.now t.rows) c.self.view_is)

pub returns-in-Err-clause-was : goal.returns-in-Err-clause-was
returns-in-Err-clause-was c =
    let rows = c.self.inside.rows.rows in
    let h = c.in-Err.ensures in
    absent c.args.id.now rows c.in-Err.field-0 h ∙ ap (λ t. at_id c.args.id.now t.rows) c.self.view_is

pub returns-in-Err-clause-rows : goal.returns-in-Err-clause-rows
returns-in-Err-clause-rows c =
    let rows = c.self.inside.rows.rows in
    let h = c.in-Err.ensures in
    subst (λ t. t.rows ≡ without_row c.args.id.now t.rows) c.self.view_is (unmoved c.args.id.now rows c.in-Err.field-0 h)
