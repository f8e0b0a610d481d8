use Rattle.std.proofs.Common.{◌≡◌, ℕ, List, Option, true, sym, ap, ◌∙◌, subst}
use Rattle.std.specs.Borrow.{Bor}
use Rattle.melon_query.specs.Simple.{is_simple}
use Rattle.melon_change.specs.declared.change.Change.{Change}
use Rattle.melon_change.specs.declared.history.Entry.{Entry}
use Rattle.melon_change.specs.Changes.{after_set}
use Rattle.melon_change.specs.History.{AreChanges}
use Rattle.melon_views.specs.declared.emission.Turn.TheVariants.{Still}
use Rattle.melon_views.specs.Views.{shown}
use Rattle.melon_views.specs.Standing.{Observed}
use Rattle.melon_observe.specs.Journals.{history, IsFound}
use Rattle.melon_observe.proofs.Turned.{still_turn, emit_turn, first_ahead}
use Rattle.melon_observe.proofs.simple.Simple.go_on.Goals as goal

pub returns-in_ok-emission-in-Some-clause-turned : goal.returns-in_ok-emission-in-Some-clause-turned
returns-in_ok-emission-in-Some-clause-turned c = λ schema opening entries legal stand found end.
    let o = c.args.self.now in
    let e = c.in-Some.entry.now in
    let first = subst (λ (f : Option (ℕ × Bor Entry)). IsFound o.query o.shape entries o.at f) c.in-Some.is found in
    emit_turn schema (history opening entries) o c.in_ok-emission-in-Some.ensures.simple legal stand c.in-Some.number e c.in_ok-emission-in-Some.emission first
    (λ rows origin asc changes kept.
    c.in_ok-emission-in-Some.ensures.shows schema rows origin asc (subst (λ (set : List Change). AreChanges schema rows origin set) (sym c.as_slice.ensures) changes) kept
    ∙ ap (λ (set : List Change). shown o.query o.shape (after_set rows set)) c.as_slice.ensures)

pub returns-in_ok-emission-in-Some-clause-ahead : goal.returns-in_ok-emission-in-Some-clause-ahead
returns-in_ok-emission-in-Some-clause-ahead c = λ entries found end.
    let o = c.args.self.now in
    first_ahead o.query o.shape entries o.at c.in-Some.number c.in-Some.entry.now c.in_ok-emission-in-Some.emission (subst (λ (f : Option (ℕ × Bor Entry)). IsFound o.query o.shape entries o.at f) c.in-Some.is found)

pub returns-in-None-clause-turned : goal.returns-in-None-clause-turned
returns-in-None-clause-turned c = λ schema opening entries legal stand found end.
    let o = c.args.self.now in
    let simple = subst (λ (x : Observed). is_simple x.query ≡ true) c.self.view_is c.self.invariant.simple in
    ap Still end ∙ still_turn schema (history opening entries) o simple legal stand (subst (λ (f : Option (ℕ × Bor Entry)). IsFound o.query o.shape entries o.at f) c.in-None.is found)
