-- The turns of observers that stand on a history.
use Rattle.std.proofs.Common.{◌≡◌, ℕ, suc, ◌+◌, ◌-◌, ◌<◌, List, length, Bool, true, false, cond, sym, ap, ◌∙◌, arith, add-one}
use Rattle.std.proofs.lemmas.Bool.{not_from_true, not_from_false, false_from_ne_true}
use Rattle.std.proofs.lemmas.List.{take_all}
use Rattle.std.proofs.lemmas.Option.{slice_get_within}
use Rattle.melon_schema.specs.declared.schema.TableSchema.{TableSchema}
use Rattle.melon_raw.specs.Rows.{Rows}
use Rattle.melon_table.specs.Seen.{rows_of}
use Rattle.melon_query.specs.declared.query.Query.{Query}
use Rattle.melon_query.specs.Simple.{is_simple}
use Rattle.melon_change.specs.declared.history.Entry.{Entry}
use Rattle.melon_change.specs.declared.history.Origin.{Origin}
use Rattle.melon_change.specs.Changes.{after_set}
use Rattle.melon_change.specs.History.{History, AreChanges, replay, replay_to}
use Rattle.melon_board.specs.Boards.{SeenBoard}
use Rattle.melon_views.specs.declared.emission.Shape.{Shape}
use Rattle.melon_views.specs.declared.emission.Emission.{Emission}
use Rattle.melon_views.specs.declared.emission.Turn.TheVariants.{Emit, Still}
use Rattle.melon_views.specs.Views.{shown, view}
use Rattle.melon_views.specs.Due.{is_same, differs, turn_to, first_turn, last_turn, turn_from}
use Rattle.melon_views.specs.Turns.{IsAhead}
use Rattle.melon_views.specs.Standing.{Observed, Stands}
use Rattle.melon_views.specs.Laws.{Ascend, IsHistory, NoneMatters, NoneTouches}
use Rattle.melon_views.proofs.Reading.{untouched_views}
use Rattle.melon_views.proofs.Same.{is_same-Decides}
use Rattle.melon_views.proofs.Histories.{at_entry, stays, first_due, none_due}
use Rattle.melon_observe.specs.Journals.{history, Follows, opened, IsFirst}

-- ---- at the journal's end

module _ (schema : List TableSchema) (opening : Rows) (board : SeenBoard) (follows : Follows schema opening board) where
  -- what is shown at the journal's end is what is shown of the rows now
  pub end_view : (q : Query) (s : Shape) → view q s (history opening board.entries) (length board.entries) ≡ shown q s (rows_of board.tables)
  end_view q s = ap (λ (es : List Entry). shown q s (replay opening es)) (take_all (length board.entries) board.entries (omega arith)) ∙ ap (shown q s) follows.replayed

  -- an observer that was opened stands there
  pub opened_stands : (q : Query) (s : Shape) → Stands (history opening board.entries) (opened q s board)
  opened_stands q s = record { within = omega arith; keeps = sym (end_view q s) }

-- ---- simple ones

-- the first that matters is ahead
pub first_ahead : (q : Query) (s : Shape) (es : List Entry) (p n : ℕ) (e : Entry) (emission : Emission) → IsFirst q s es p n e → IsAhead p (length es) (Emit n emission)
first_ahead q s es p n e emission first =
    let within : first.place < length es = slice_get_within es first.place e first.there in (omega (arith, first.number, first.later), omega (arith, first.number, within))

module _ (schema : List TableSchema) (h : History) (o : Observed) (simple : is_simple o.query ≡ true) (legal : IsHistory schema h) (stand : Stands h o) where
  pub still_turn : NoneMatters o.query o.shape h.entries o.at (length h.entries) → Still (length h.entries) ≡ turn_from o.query o.shape h o.at
  still_turn none =
      sym (
      ap (λ b. cond b (first_turn o.query o.shape h o.at) (last_turn o.query o.shape h o.at)) simple
      ∙ ap (turn_to o.query o.shape h) (none_due schema h o.query o.shape o.at simple legal none)
      )

  pub emit_turn : (n : ℕ) (e : Entry) (emission : Emission) → IsFirst o.query o.shape h.entries o.at n e
      → ((rows : Rows) (origin : Origin) → Ascend rows → AreChanges schema rows origin e.set → o.kept ≡ shown o.query o.shape rows → emission ≡ shown o.query o.shape (after_set rows e.set))
      → Emit n emission ≡ turn_from o.query o.shape h o.at
  emit_turn n e emission first shows =
      let k : ℕ = first.place in
      let within : k < length h.entries = slice_get_within h.entries k e first.there in
      let there = at_entry schema h.opening h.entries k e legal.ascend legal.legal first.there in
      let place : o.at + (k - o.at) ≡ k = omega (arith, first.later) in
      let kept : o.kept ≡ shown o.query o.shape (replay_to h k) =
      stand.keeps ∙ (sym (stays schema h o.query o.shape simple legal o.at k (k - o.at) (omega (arith, first.later)) (omega arith) first.none_before) ∙ ap (view o.query o.shape h) place) in
      let next : n ≡ suc k = first.number ∙ add-one k in
      let is : emission ≡ view o.query o.shape h n =
      shows (replay_to h k) e.origin there.ascend there.legal.1 kept ∙ (ap (shown o.query o.shape) (sym there.next) ∙ ap (view o.query o.shape h) (sym next)) in
      ap (Emit n) is
      ∙ sym (
      ap (λ b. cond b (first_turn o.query o.shape h o.at) (last_turn o.query o.shape h o.at)) simple
      ∙ (ap (turn_to o.query o.shape h) (first_due schema h o.query o.shape o.at k e simple legal first.later first.none_before first.there first.hit)
      ∙ ap (λ m. Emit m (view o.query o.shape h m)) (sym first.number))
      )

-- ---- any others

module _ (schema : List TableSchema) (opening : Rows) (board : SeenBoard) (o : Observed) (other : is_simple o.query ≡ false) (follows : Follows schema opening board) (stand : Stands (history opening board.entries) o) where
  abbrev h : History
  h = history opening board.entries

  view_there : view o.query o.shape h (length board.entries) ≡ shown o.query o.shape (rows_of board.tables)
  view_there = end_view schema opening board follows o.query o.shape

  by_test : (b : Bool) → differs o.query o.shape h o.at (length board.entries) ≡ b
      → turn_from o.query o.shape h o.at ≡ cond b (Emit (length board.entries) (view o.query o.shape h (length board.entries))) (Still (length board.entries))
  by_test b e =
      ap (λ t. cond t (first_turn o.query o.shape h o.at) (last_turn o.query o.shape h o.at)) other
      ∙ ap (λ t. cond t (Emit (length board.entries) (view o.query o.shape h (length board.entries))) (Still (length board.entries))) e

  same_end : view o.query o.shape h (length board.entries) ≡ view o.query o.shape h o.at → Still (length board.entries) ≡ turn_from o.query o.shape h o.at
  same_end e = sym (by_test false (not_from_true _ ((is_same-Decides (view o.query o.shape h (length board.entries)) (view o.query o.shape h o.at)).1 e)))

  pub still_untouched : NoneTouches o.query board.entries o.at (length board.entries) → Still (length board.entries) ≡ turn_from o.query o.shape h o.at
  still_untouched none = same_end (untouched_views h o.query o.shape o.at (length board.entries) stand.within (omega arith) none)

  pub still_kept : (emission : Emission) → emission ≡ shown o.query o.shape (rows_of board.tables) → emission ≡ o.kept → Still (length board.entries) ≡ turn_from o.query o.shape h o.at
  still_kept emission is same = same_end (view_there ∙ (sym is ∙ (same ∙ stand.keeps)))

  pub emit_end : (emission : Emission) → emission ≡ shown o.query o.shape (rows_of board.tables) → (emission ≡ o.kept → ⊥) → Emit (length board.entries) emission ≡ turn_from o.query o.shape h o.at
  emit_end emission is apart =
      let test = is_same (view o.query o.shape h (length board.entries)) (view o.query o.shape h o.at) in
      ap (Emit (length board.entries)) (is ∙ sym view_there)
      ∙ sym (by_test true (not_from_false test (false_from_ne_true test (λ e. apart (is ∙ (sym view_there ∙ ((is_same-Decides (view o.query o.shape h (length board.entries)) (view o.query o.shape h o.at)).0 e ∙ sym stand.keeps)))))))
