-- Watches that stand on a history, their turns, and histories that grow.
use Rattle.std.proofs.Common.{◌≡◌, ℕ, ◌+◌, ◌≤◌, List, ◌++◌, length, take, refl, sym, ap, ◌∙◌, subst, arith, length-append, take_all, le_refl, Some, None, option_map, if◌then◌else◌}
use Rattle.std.proofs.lemmas.List.{take-append-le}
use Rattle.melon_raw.specs.Rows.{Rows}
use Rattle.melon_table.specs.Seen.{rows_of}
use Rattle.melon_change.specs.declared.history.Entry.{Entry}
use Rattle.melon_change.specs.History.{History, replay, replay_to}
use Rattle.melon_board.specs.Boards.{SeenBoard}
use Rattle.melon_views.specs.declared.parent.Parent.{Parent}
use Rattle.melon_relation.specs.declared.relation.Relation.{Relation}
use Rattle.melon_relation.specs.Relations.{parent_in}
use Rattle.melon_relation.specs.Watching.{numbered, changed_at, parent_view, watch_turn, Watched, Watches, watch_opened, turn_given, watch_moved, IsJournal}
use Rattle.melon_relation.proofs.Compared.{same_itself}
use Rattle.melon_relation.specs.Laws.{rows_now, OpenedWatchesStand, TurnsAreGiven, SecondTurnsAreStill, TurnsKeepWatching, GrownParentsStay, GrownHistoriesKeepWatching}

-- all entries of a history leave its rows now
rows_at_end : (h : History) → replay_to h (length h.entries) ≡ rows_now h
rows_at_end h = ap (replay h.opening) (take_all (length h.entries) h.entries (le_refl (length h.entries)))

end_view : (h : History) (r : Relation) → parent_view r h (length h.entries) ≡ parent_in r (rows_now h)
end_view h r = ap (parent_in r) (rows_at_end h)

pub opened_stand : OpenedWatchesStand
opened_stand h r = record { within = le_refl (length h.entries); keeps = sym (end_view h r) }

pub turns_are_given : TurnsAreGiven
turns_are_given h w stands =
    ap (λ (kept : Parent). changed_at (length h.entries) kept (parent_in w.relation (rows_now h))) stands.keeps
    ∙ ap (changed_at (length h.entries) (parent_view w.relation h w.at)) (sym (end_view h w.relation))

pub second_turns : SecondTurnsAreStill
second_turns h r =
    let now = parent_view r h (length h.entries) in
    ap (λ b. option_map (numbered (length h.entries)) (if b then None else Some now)) (same_itself now)

pub turns_keep : TurnsKeepWatching
turns_keep h w stands = opened_stand h w.relation

pub grown_parents : GrownParentsStay
grown_parents h more r n within = ap (λ (es : List Entry). parent_in r (replay h.opening es)) (take-append-le n h.entries more within)

pub grown_keep : GrownHistoriesKeepWatching
grown_keep h more w stands = record {
  within = omega (arith, stands.within, length-append h.entries more);
  keeps = stands.keeps ∙ sym (grown_parents h more w.relation w.at stands.within);
}

-- ---- on a board

module _ (h : History) (board : SeenBoard) (journal : IsJournal h board) where
  same_end : length board.entries ≡ length h.entries
  same_end = ap length (sym journal.entries_are)

  opened_same : (r : Relation) → watch_opened (length board.entries) (rows_of board.tables) r ≡ watch_opened (length h.entries) (rows_now h) r
  opened_same r = ap (λ n. watch_opened n (rows_of board.tables) r) same_end ∙ ap (λ (rows : Rows). watch_opened (length h.entries) rows r) (sym journal.replayed)

  pub opened_on_board : (r : Relation) → Watches h (watch_opened (length board.entries) (rows_of board.tables) r)
  opened_on_board r = subst (Watches h) (sym (opened_same r)) (opened_stand h r)

  pub shown_on_board : (r : Relation) → parent_in r (rows_of board.tables) ≡ parent_view r h (length h.entries)
  shown_on_board r = ap (parent_in r) (sym journal.replayed) ∙ sym (end_view h r)

  pub turned_on_board : (w : Watched) → Watches h w → turn_given (length board.entries) (rows_of board.tables) w ≡ watch_turn w.relation h w.at
  turned_on_board w stands =
      ap (λ n. turn_given n (rows_of board.tables) w) same_end
      ∙ ap (λ (rows : Rows). turn_given (length h.entries) rows w) (sym journal.replayed)
      ∙ turns_are_given h w stands
