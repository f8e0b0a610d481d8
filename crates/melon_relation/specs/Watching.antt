-- What a watched relation shows of a history, and what a turn of its watch gives.
use Rattle.std.specs.Prelude.{◌≡◌, ℕ, ◌≤◌, List, length, Bool, true, false, Option, Some, None, option_map, Result, Ok, if◌then◌else◌}
use Rattle.melon_schema.specs.Faults.{◌>>=◌}
use Rattle.melon_schema.specs.declared.schema.TableSchema.{TableSchema}
use Rattle.melon_raw.specs.Rows.{Rows}
use Rattle.melon_table.specs.Seen.{rows_of}
use Rattle.melon_change.specs.History.{History, replay, replay_to}
use Rattle.melon_board.specs.Boards.{SeenBoard}
use Rattle.melon_raw.specs.Same.{row_eq}
use Rattle.melon_views.specs.declared.parent.Parent.{Parent}
use Rattle.melon_views.specs.declared.parent.Parent.TheVariants.{Nothing, Missing, Row}
use Rattle.melon_relation.specs.declared.relation.Relation.{Relation}
use Rattle.melon_relation.specs.declared.fault.RelationFault.{RelationFault}
use Rattle.melon_relation.specs.Relations.{parent_in, related}

-- ---- equal values

-- rows are the same in id, status, marks and cells
abbrev pub is_same_parent : Parent → Parent → Bool
is_same_parent Nothing Nothing = true
is_same_parent Missing Missing = true
is_same_parent (Row a) (Row b) = row_eq a b
is_same_parent a b = false

-- ---- turns

-- what the relation shows after the first n entries
abbrev pub parent_view : Relation → History → ℕ → Parent
parent_view r h n = parent_in r (replay_to h n)

-- what is shown now, where it is something else than was kept
abbrev pub changed : Parent → Parent → Option Parent
changed kept now = if is_same_parent now kept then None else Some now

abbrev pub numbered : ℕ → Parent → ℕ × Parent
numbered end shown = (end, shown)

-- under the number of entries
abbrev pub changed_at : ℕ → Parent → Parent → Option (ℕ × Parent)
changed_at end kept now = option_map (numbered end) (changed kept now)

-- the turn of a watch at position p: what is shown at the history's end, where it differs from what is shown at p
abbrev pub watch_turn : Relation → History → ℕ → Option (ℕ × Parent)
watch_turn r h p = changed_at (length h.entries) (parent_view r h p) (parent_view r h (length h.entries))

-- ---- watches

-- what contracts see of a watch: its relation, its position, and what it keeps
pub record Watched : Type 0 where
  pub relation : Relation
  pub at : ℕ
  pub kept : Parent

-- The position is at most the history's length, and what is kept is what the relation shows there.
pub record Watches (h : History) (w : Watched) : Type 0 where
  pub within : w.at ≤ length h.entries
  pub keeps : w.kept ≡ parent_view w.relation h w.at

-- a watch that was opened on these rows, after so many entries
abbrev pub watch_opened : ℕ → Rows → Relation → Watched
watch_opened end rows r = record { relation = r; at = end; kept = parent_in r rows }

-- what its turn gives over these rows, after so many entries
abbrev pub turn_given : ℕ → Rows → Watched → Option (ℕ × Parent)
turn_given end rows w = changed_at end w.kept (parent_in w.relation rows)

-- the watch after that turn
abbrev pub watch_moved : ℕ → Rows → Watched → Watched
watch_moved end rows w = watch_opened end rows w.relation

-- ---- boards

-- The entries of the history are the board's journal, and the rows now are its replay.
pub record IsJournal (h : History) (board : SeenBoard) : Type 0 where
  pub entries_are : h.entries ≡ board.entries
  pub replayed : replay h.opening h.entries ≡ rows_of board.tables

-- a watch that was opened at a board's end, and the first that it shows
abbrev pub opened_on : SeenBoard → Relation → Watched × Parent
opened_on board r = (watch_opened (length board.entries) (rows_of board.tables) r, parent_in r (rows_of board.tables))

abbrev pub watch_told : List TableSchema → SeenBoard → ℕ → List ℕ → ℕ → Result (Watched × Parent) RelationFault
watch_told tables board table id to = related tables (rows_of board.tables) table id to >>= λ r. Ok (opened_on board r)
