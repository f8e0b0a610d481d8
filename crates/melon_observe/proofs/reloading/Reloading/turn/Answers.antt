use Rattle.std.proofs.Common.{◌≡◌, ◌≢◌, List, false, ap, ◌∙◌, subst}
use Rattle.std.proofs.lemmas.Bool.{iff_false}
use Rattle.melon_table.specs.Seen.{SeenTable, rows_of}
use Rattle.melon_query.specs.Simple.{is_simple}
use Rattle.melon_views.specs.declared.emission.Turn.TheVariants.{Emit, Still}
use Rattle.melon_views.specs.Views.{shown}
use Rattle.melon_views.specs.Standing.{Observed}
use Rattle.melon_observe.proofs.Turned.{still_untouched, still_kept, emit_end}
use Rattle.melon_observe.proofs.reloading.Reloading.turn.Goals as goal

pub returns-then-not-is_touched-clause-turned : goal.returns-then-not-is_touched-clause-turned
returns-then-not-is_touched-clause-turned g c = λ schema opening follows stand.
    let o = c.args.self.now in
    let other = subst (λ (x : Observed). is_simple x.query ≡ false) c.self.view_is c.self.invariant.other in
    let none = c.is_touched.ensures.none c.if-not-is_touched.true in
    ap Still c.len-end.ensures ∙ still_untouched schema opening c.args.board.now o other follows stand none

pub returns-then-same-clause-turned : goal.returns-then-same-clause-turned
returns-then-same-clause-turned g c = λ schema opening follows stand.
    let o = c.args.self.now in
    let other = subst (λ (x : Observed). is_simple x.query ≡ false) c.self.view_is c.self.invariant.other in
    let is =
    c.in_ok-emission.ensures ∙ (ap (λ (x : Observed). shown x.query x.shape (rows_of c.tables.result.now)) c.self.view_is ∙ ap (λ (tables : List SeenTable). shown o.query o.shape (rows_of tables)) c.tables.ensures) in
    let same = c.same.ensures.0 c.if-same.true ∙ ap (λ (x : Observed). x.kept) c.self.view_is in
    ap Still c.len-end.ensures ∙ still_kept schema opening c.args.board.now o other follows stand c.in_ok-emission.emission is same

pub returns-clause-turned : goal.returns-clause-turned
returns-clause-turned g c = λ schema opening follows stand.
    let o = c.args.self.now in
    let emission = c.in_ok-emission.emission in
    let other = subst (λ (x : Observed). is_simple x.query ≡ false) c.self.view_is c.self.invariant.other in
    let is =
    c.in_ok-emission.ensures ∙ (ap (λ (x : Observed). shown x.query x.shape (rows_of c.tables.result.now)) c.self.view_is ∙ ap (λ (tables : List SeenTable). shown o.query o.shape (rows_of tables)) c.tables.ensures) in
    let apart = subst (λ (x : Observed). emission ≢ x.kept) c.self.view_is (iff_false c.same.ensures c.if-same.false) in
    ap (λ n. Emit n emission) c.len-end.ensures ∙ emit_end schema opening c.args.board.now o other follows stand emission is apart
