-- The history of a board, and what an observer finds in its journal.
use Rattle.std.specs.Prelude.{◌≡◌, ℕ, ◌+◌, ◌-◌, ◌≤◌, List, length, take, drop, slice_get, true, Option, Some, None}
use Rattle.std.specs.List.{sum_by}
use Rattle.std.specs.Borrow.{Bor}
use Rattle.melon_schema.specs.declared.schema.TableSchema.{TableSchema}
use Rattle.melon_raw.specs.Rows.{Rows}
use Rattle.melon_table.specs.Seen.{rows_of}
use Rattle.melon_query.specs.declared.query.Query.{Query}
use Rattle.melon_change.specs.declared.history.Entry.{Entry}
use Rattle.melon_change.specs.History.{History, replay}
use Rattle.melon_board.specs.Boards.{SeenBoard}
use Rattle.melon_views.specs.declared.emission.Shape.{Shape}
use Rattle.melon_views.specs.declared.emission.Emission.{Emission}
use Rattle.melon_views.specs.declared.emission.Turn.{Turn}
use Rattle.melon_views.specs.declared.emission.Turn.TheVariants.{Emit, Still}
use Rattle.melon_views.specs.Views.{shown}
use Rattle.melon_views.specs.Members.{matters}
use Rattle.melon_views.specs.Standing.{Observed}
use Rattle.melon_views.specs.Laws.{IsHistory, NoneMatters}

abbrev pub history : Rows → List Entry → History
history opening entries = record { opening = opening; entries = entries }

-- The journal of a board is a legal history from these opening rows, and the rows now are its replay.
pub record Follows (schema : List TableSchema) (opening : Rows) (board : SeenBoard) : Type 0 where
  pub legal : IsHistory schema (history opening board.entries)
  pub replayed : replay opening board.entries ≡ rows_of board.tables

-- an observer that was opened on a board
abbrev pub opened : Query → Shape → SeenBoard → Observed
opened q s board = record { query = q; shape = s; at = length board.entries; kept = shown q s (rows_of board.tables) }

-- ---- the first entry that matters

-- The n-th entry is the first from place p on that matters.
pub record IsFirst (q : Query) (s : Shape) (entries : List Entry) (p n : ℕ) (e : Entry) : Type 0 where
  pub place : ℕ
  pub number : n ≡ place + 1
  pub later : p ≤ place
  pub there : slice_get entries place ≡ Some e
  pub hit : matters q s e.set ≡ true
  pub none_before : NoneMatters q s entries p place

-- what was found: the first that matters with its number, or that none does
abbrev pub IsFound : Query → Shape → List Entry → ℕ → Option (ℕ × Bor Entry) → Type 0
IsFound q s entries p None = NoneMatters q s entries p (length entries)
IsFound q s entries p (Some found) = IsFirst q s entries p found.0 found.1.now

-- ---- steps

-- the changes of the entries behind the first p, up to the n-th
abbrev pub changes_between : ℕ → ℕ → List Entry → ℕ
changes_between p n entries = sum_by (λ e. length e.set) (take (n - p) (drop p entries))

-- the number up to which was looked, of entries that end there
abbrev pub reached : ℕ → Option (ℕ × Bor Entry) → ℕ
reached end None = end
reached end (Some found) = found.0

-- ---- patches

-- the turn that was made over entries that end there, by what it gave
abbrev pub turn_by : ℕ → Option (ℕ × Emission) → Turn
turn_by end None = Still end
turn_by end (Some given) = Emit given.0 given.1
