use Rattle.std.proofs.Common.{◌≡◌, ◌<◌, List, None, refl, sym, ap, ◌∙◌, subst, arith}
use Rattle.melon_raw.specs.declared.raw.Raw.{Raw}
use Rattle.melon_raw.specs.Rows.{Fits, at_id, put_row}
use Rattle.melon_table.specs.Kept.{IsKept}
use Rattle.melon_table.proofs.ById.{IsKept-put_row}
use Rattle.melon_table.proofs.Placed.{below_here, stands_within, below_there, found, absent, replaced, inserted}
use Rattle.melon_table.proofs.table.Table.put.Goals as goal

pub before_replaced-before-requires-clause-place : goal.before_replaced-before-requires-clause-place
before_replaced-before-requires-clause-place c = below_here c.args.row.id c.self.inside.rows.rows c.in-Ok.place c.self.invariant.ascending c.in-Ok.ensures

pub replace-requires-clause-within : goal.replace-requires-clause-within
replace-requires-clause-within c = stands_within c.args.row.id c.self.inside.rows.rows c.in-Ok.place c.self.invariant.ascending c.in-Ok.ensures

pub dirty_before-before-requires-clause-place : goal.dirty_before-before-requires-clause-place
dirty_before-before-requires-clause-place c =
    below_there c.args.row.id c.self.inside.rows.rows c.in-Err.place c.in-Err.ensures

pub invariant_of-self : goal.invariant_of-self
invariant_of-self c =
    let rows = c.self.inside.rows.rows in
    let row = c.args.row in
    let h = c.in-Ok.ensures in
    let new = c.replace.ensures.rows ∙ replaced row.id rows c.in-Ok.place c.self.invariant.ascending h row refl in
    let fits = subst (λ t. Fits t.columns row) (sym c.self.view_is) c.requires.fits in
    subst (λ (xs : List Raw). IsKept c.self.inside.columns xs) (sym new) (IsKept-put_row c.self.inside.columns row rows fits c.self.invariant)

pub insert-requires-clause-room : goal.insert-requires-clause-room
insert-requires-clause-room c =
    let rows = c.self.inside.rows.rows in
    let id = c.args.row.id in
    let h = c.in-Err.ensures in
    let none : at_id id c.args.self.now.rows ≡ None = sym (absent id rows c.in-Err.place h ∙ ap (λ t. at_id id t.rows) c.self.view_is) in
    let spare : 0 < c.args.self.now.spare = c.requires.room none in
    omega (arith, spare, ap (λ t. t.spare) c.self.view_is)

pub invariant_of-self-in-Err : goal.invariant_of-self-in-Err
invariant_of-self-in-Err c =
    let rows = c.self.inside.rows.rows in
    let row = c.args.row in
    let h = c.in-Err.ensures in
    let new = c.insert.ensures.rows ∙ inserted row.id rows c.in-Err.place h row refl in
    let fits = subst (λ t. Fits t.columns row) (sym c.self.view_is) c.requires.fits in
    subst (λ (xs : List Raw). IsKept c.self.inside.columns xs) (sym new) (IsKept-put_row c.self.inside.columns row rows fits c.self.invariant)

pub returns-in-Ok-clause-was : goal.returns-in-Ok-clause-was
returns-in-Ok-clause-was c =
    let rows = c.self.inside.rows.rows in
    let id = c.args.row.id in
    let h = c.in-Ok.ensures in
    found id rows c.in-Ok.place c.self.invariant.ascending h c.replace.result c.replace.ensures.was ∙ ap (λ t. at_id id t.rows) c.self.view_is

pub returns-in-Ok-clause-rows : goal.returns-in-Ok-clause-rows
returns-in-Ok-clause-rows c =
    let rows = c.self.inside.rows.rows in
    let row = c.args.row in
    let h = c.in-Ok.ensures in
    c.replace.ensures.rows ∙ (replaced row.id rows c.in-Ok.place c.self.invariant.ascending h row refl ∙ ap (λ t. put_row row t.rows) c.self.view_is)

pub returns-in-Err-clause-was : goal.returns-in-Err-clause-was
returns-in-Err-clause-was c =
    let rows = c.self.inside.rows.rows in
    let id = c.args.row.id in
    let h = c.in-Err.ensures in
    absent id rows c.in-Err.place h ∙ ap (λ t. at_id id t.rows) c.self.view_is

pub returns-in-Err-clause-rows : goal.returns-in-Err-clause-rows
returns-in-Err-clause-rows c =
    let rows = c.self.inside.rows.rows in
    let row = c.args.row in
    let h = c.in-Err.ensures in
    c.insert.ensures.rows ∙ (inserted row.id rows c.in-Err.place h row refl ∙ ap (λ t. put_row row t.rows) c.self.view_is)
