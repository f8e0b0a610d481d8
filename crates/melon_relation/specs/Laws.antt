-- What holds of watches, and of the rows that a row has.
use Rattle.std.specs.Prelude.{◌≡◌, ◌↔◌, ℕ, ◌≤◌, List, length, true, None}
use Rattle.melon_raw.specs.Rows.{Rows, is_ascending}
use Rattle.melon_query.specs.Tuples.{rows_of}
use Rattle.melon_query.specs.Fresh.{fresh}
use Rattle.melon_change.specs.declared.history.Entry.{Entry}
use Rattle.melon_change.specs.History.{History, replay}
use Rattle.melon_views.specs.declared.parent.Parent.{Parent}
use Rattle.melon_views.specs.Laws.{grown}
use Rattle.melon_relation.specs.declared.relation.Relation.{Relation}
use Rattle.melon_relation.specs.Children.{children_query, children_in}
use Rattle.melon_relation.specs.Watching.{is_same_parent, parent_view, watch_turn, Watched, Watches, watch_opened, turn_given, watch_moved}

-- what compares as the same is equal, and nothing else
abbrev pub ComparesExactly : Type 0
ComparesExactly = (a b : Parent) → (is_same_parent a b ≡ true) ↔ (a ≡ b)

-- the rows now of a history
abbrev pub rows_now : History → Rows
rows_now h = replay h.opening h.entries

abbrev pub OpenedWatchesStand : Type 0
OpenedWatchesStand = (h : History) (r : Relation) → Watches h (watch_opened (length h.entries) (rows_now h) r)

-- by what is kept, a turn gives what the history says,
abbrev pub TurnsAreGiven : Type 0
TurnsAreGiven = (h : History) (w : Watched) → Watches h w → turn_given (length h.entries) (rows_now h) w ≡ watch_turn w.relation h w.at

-- it gives nothing a second time,
abbrev pub SecondTurnsAreStill : Type 0
SecondTurnsAreStill = (h : History) (r : Relation) → watch_turn r h (length h.entries) ≡ None

-- and then the watch stands at its end.
abbrev pub TurnsKeepWatching : Type 0
TurnsKeepWatching = (h : History) (w : Watched) → Watches h w → Watches h (watch_moved (length h.entries) (rows_now h) w)

abbrev pub GrownParentsStay : Type 0
GrownParentsStay = (h : History) (more : List Entry) (r : Relation) (n : ℕ) → n ≤ length h.entries → parent_view r (grown h more) n ≡ parent_view r h n

abbrev pub GrownHistoriesKeepWatching : Type 0
GrownHistoriesKeepWatching = (h : History) (more : List Entry) (w : Watched) → Watches h w → Watches (grown h more) w

-- the query of the rows that a row has answers those rows
abbrev pub ChildrenAreAnswered : Type 0
ChildrenAreAnswered = (to column : ℕ) (id : List ℕ) (rows : Rows) → is_ascending (rows_of to rows) ≡ true → fresh (children_query to column id) rows ≡ children_in to column id rows
