use Rattle.std.proofs.Common.{◌≡◌, ◌+◌, List, length, true, sym, ap, ◌∙◌, subst, arith}
use Rattle.melon_query.specs.Simple.{is_simple}
use Rattle.melon_change.specs.declared.change.Change.{Change}
use Rattle.melon_change.specs.Changes.{after_set}
use Rattle.melon_change.specs.History.{AreChanges}
use Rattle.melon_views.specs.declared.emission.Turn.TheVariants.{Emit}
use Rattle.melon_views.specs.Views.{shown}
use Rattle.melon_views.specs.Standing.{Observed}
use Rattle.melon_views.specs.Laws.{NoneMatters}
use Rattle.melon_observe.specs.Journals.{history, IsFirst}
use Rattle.melon_observe.proofs.Between.{first_behind, none_behind, length_behind}
use Rattle.melon_observe.proofs.Turned.{still_turn, emit_turn}
use Rattle.melon_observe.proofs.simple.Simple.patch.Goals as goal

pub returns-in_ok-emission-in-Some-clause-given : goal.returns-in_ok-emission-in-Some-clause-given
returns-in_ok-emission-in-Some-clause-given g c = λ schema opening entries legal stand behind.
    let o = c.args.self.now in
    let e = c.in-Some.entry.now in
    let emission = c.in_ok-emission-in-Some.emission in
    let simple = subst (λ (x : Observed). is_simple x.query ≡ true) c.self.view_is c.self.invariant.simple in
    ap (λ (x : Observed). Emit (x.at + c.in-Some.place) emission) c.self.view_is
    ∙ emit_turn schema (history opening entries) o simple legal stand (o.at + c.in-Some.place) e emission
    (first_behind o.query o.shape entries c.args.tail.now o.at behind c.in-Some.place e (subst (λ (x : Observed). IsFirst x.query x.shape c.args.tail.now 0 c.in-Some.place e) c.self.view_is c.in-Some.ensures.found))
    (λ rows origin asc changes kept.
    c.in_ok-emission-in-Some.ensures.shows schema rows origin asc (subst (λ (set : List Change). AreChanges schema rows origin set) (sym c.as_slice.ensures) changes) kept
    ∙ ap (λ (set : List Change). shown o.query o.shape (after_set rows set)) c.as_slice.ensures)

pub returns-in-None-clause-given : goal.returns-in-None-clause-given
returns-in-None-clause-given g c = λ schema opening entries legal stand behind.
    let o = c.args.self.now in
    let tail = c.args.tail.now in
    let simple = subst (λ (x : Observed). is_simple x.query ≡ true) c.self.view_is c.self.invariant.simple in
    still_turn schema (history opening entries) o simple legal stand
    (none_behind o.query o.shape entries tail o.at behind (length tail) (length entries) (omega (arith, length_behind o.query o.shape entries tail o.at behind stand.within)) (subst (λ (x : Observed). NoneMatters x.query x.shape tail 0 (length tail)) c.self.view_is c.in-None.ensures.found))
