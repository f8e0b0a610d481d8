-- What holds of views, and of observers that stand on a history.
use Rattle.std.specs.Prelude.{◌≡◌, ◌↔◌, ℕ, ◌+◌, ◌<◌, ◌≤◌, List, [], ◌++◌, length, get_or, slice_get, true, false, not, Option, Some, None}
use Rattle.melon_schema.specs.declared.schema.TableSchema.{TableSchema}
use Rattle.melon_raw.specs.Rows.{Rows, is_ascending}
use Rattle.melon_query.specs.declared.query.Query.{Query}
use Rattle.melon_query.specs.Simple.{is_simple}
use Rattle.melon_change.specs.declared.change.Change.{Change}
use Rattle.melon_change.specs.declared.history.Entry.{Entry}
use Rattle.melon_change.specs.Changes.{after_set}
use Rattle.melon_change.specs.History.{History, IsEntry, IsLegal}
use Rattle.melon_views.specs.declared.emission.Shape.{Shape}
use Rattle.melon_views.specs.declared.emission.Emission.{Emission}
use Rattle.melon_views.specs.Views.{shown, view}
use Rattle.melon_views.specs.Due.{is_same, due, turn_from}
use Rattle.melon_views.specs.Members.{matters, touches}
use Rattle.melon_views.specs.Standing.{Observed, Stands, moved}

-- the ids of each table ascend
abbrev pub Ascend : Rows → Type 0
Ascend rows = (t : ℕ) → is_ascending (get_or rows t []) ≡ true

-- The opening rows ascend, and the entries are legal.
pub record IsHistory (schema : List TableSchema) (h : History) : Type 0 where
  pub ascend : Ascend h.opening
  pub legal : IsLegal schema h.opening h.entries

-- Two emissions are told apart exactly where they are different.
abbrev pub EmissionsCompareExactly : Type 0
EmissionsCompareExactly = (a b : Emission) → (is_same a b ≡ true) ↔ (a ≡ b)

-- A legal entry changes what a simple query shows exactly where it matters.
abbrev pub EntriesChangeViews : Type 0
EntriesChangeViews =
    (schema : List TableSchema) (rows : Rows) (e : Entry) (q : Query) (s : Shape) → is_simple q ≡ true → Ascend rows → IsEntry schema rows e
    → is_same (shown q s (after_set rows e.set)) (shown q s rows) ≡ not (matters q s e.set)

-- Changes in tables that a query doesn't read change nothing that it shows.
abbrev pub OthersChangeNothing : Type 0
OthersChangeNothing = (rows : Rows) (set : List Change) (q : Query) (s : Shape) → touches q set ≡ false → shown q s (after_set rows set) ≡ shown q s rows

-- no entry from place p up to place n touches a table that the query reads
abbrev pub NoneTouches : Query → List Entry → ℕ → ℕ → Type 0
NoneTouches q entries p n = (k : ℕ) (e : Entry) → p ≤ k → k < n → slice_get entries k ≡ Some e → touches q e.set ≡ false

abbrev pub UntouchedViewsStay : Type 0
UntouchedViewsStay = (h : History) (q : Query) (s : Shape) (p n : ℕ) → p ≤ n → n ≤ length h.entries → NoneTouches q h.entries p n → view q s h n ≡ view q s h p

-- no entry from place p up to place n matters
abbrev pub NoneMatters : Query → Shape → List Entry → ℕ → ℕ → Type 0
NoneMatters q s entries p n = (k : ℕ) (e : Entry) → p ≤ k → k < n → slice_get entries k ≡ Some e → matters q s e.set ≡ false

-- The first entry from place p on that matters makes an emission due,
abbrev pub FirstDue : Type 0
FirstDue =
    (schema : List TableSchema) (h : History) (q : Query) (s : Shape) (p k : ℕ) (e : Entry) → is_simple q ≡ true → IsHistory schema h → p ≤ k
    → NoneMatters q s h.entries p k → slice_get h.entries k ≡ Some e → matters q s e.set ≡ true → due q s h p ≡ Some (k + 1)

-- and where none does, none is due.
abbrev pub NoneDue : Type 0
NoneDue =
    (schema : List TableSchema) (h : History) (q : Query) (s : Shape) (p : ℕ) → is_simple q ≡ true → IsHistory schema h
    → NoneMatters q s h.entries p (length h.entries) → due q s h p ≡ None

-- ---- growth

-- these entries behind those of the history
abbrev pub grown : History → List Entry → History
grown h more = record { opening = h.opening; entries = h.entries ++ more }

abbrev pub GrownViewsStay : Type 0
GrownViewsStay = (h : History) (more : List Entry) (q : Query) (s : Shape) (n : ℕ) → n ≤ length h.entries → view q s (grown h more) n ≡ view q s h n

abbrev pub GrownHistoriesKeepStanding : Type 0
GrownHistoriesKeepStanding = (h : History) (more : List Entry) (o : Observed) → Stands h o → Stands (grown h more) o

abbrev pub TurnsKeepStanding : Type 0
TurnsKeepStanding = (h : History) (o : Observed) → Stands h o → Stands h (moved (turn_from o.query o.shape h o.at) o)
