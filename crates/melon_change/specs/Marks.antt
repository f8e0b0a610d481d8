-- Marks by looking back: the columns edited since the last entry that cleared them. Reads cells, and never the marks that rows carry but those of the opening row.
use Rattle.std.specs.Prelude.{◌≡◌, ℕ, List, [], ◌∷◌, take, Bool, true, false, not, ◌&&◌, Option, Some, None}
use Rattle.melon_schema.specs.declared.schema.ColumnSchema.{ColumnSchema}
use Rattle.melon_schema.specs.declared.schema.TableSchema.{TableSchema}
use Rattle.melon_raw.specs.declared.raw.Raw.{Raw}
use Rattle.melon_raw.specs.Rows.{Key, Rows, at, has, is_visible}
use Rattle.melon_change.specs.declared.history.Origin.{Origin}
use Rattle.melon_change.specs.declared.history.Origin.TheVariants.{Local, Applied, Settled}
use Rattle.melon_change.specs.declared.history.Entry.{Entry}
use Rattle.melon_change.specs.declared.change.Change.{Change}
use Rattle.melon_change.specs.Changes.{columns_at, change_of, after_set}
use Rattle.melon_change.specs.Edited.{differing, appended}
use Rattle.melon_change.specs.History.{History, IsLegal, IsEntry, replay_to}

abbrev pub marks_in : Option Raw → List ℕ
marks_in None = []
marks_in (Some row) = row.marks

-- ---- what clears

-- its before is absent, or its after is, or the entry is settled, or it is applied with before marked deleted and after visible
abbrev pub change_clears : Origin → Option Raw → Option Raw → Bool
change_clears origin None after = true
change_clears origin (Some before) None = true
change_clears Settled (Some before) (Some after) = true
change_clears Applied (Some before) (Some after) = not (is_visible before.status) && is_visible after.status
change_clears Local (Some before) (Some after) = false

abbrev pub clears_by : Origin → Option Change → Bool
clears_by origin None = false
clears_by origin (Some c) = change_clears origin c.before c.after

-- the entry has a change of x that clears it
abbrev pub clears : Key → Entry → Bool
clears x e = clears_by e.origin (change_of x e.set)

-- the entries behind the last that clears x, where one does
abbrev pub or_behind : Option (List Entry) → Bool → List Entry → Option (List Entry)
or_behind (Some later) clearing es = Some later
or_behind None true es = Some es
or_behind None false es = None

abbrev pub behind_clearing : Key → List Entry → Option (List Entry)
behind_clearing x [] = None
behind_clearing x (e ∷ es) = or_behind (behind_clearing x es) (clears x e) es

-- ---- what is marked since

-- a local change of x appends the columns, ascending by name, whose cells differ and which aren't there yet
abbrev pub appended_at : List ColumnSchema → Origin → Option Raw → Option Raw → List ℕ → List ℕ
appended_at columns Local (Some before) (Some after) marks = appended marks (differing columns before.cells after.cells)
appended_at columns origin before after marks = marks

abbrev pub appended_by : List ColumnSchema → Origin → Option Change → List ℕ → List ℕ
appended_by columns origin None marks = marks
appended_by columns origin (Some c) marks = appended_at columns origin c.before c.after marks

abbrev pub marks_behind : List ColumnSchema → Key → List ℕ → List Entry → List ℕ
marks_behind columns x marks [] = marks
marks_behind columns x marks (e ∷ es) = marks_behind columns x (appended_by columns e.origin (change_of x e.set) marks) es

abbrev pub marks_since : List ColumnSchema → Key → List ℕ → List Entry → Option (List Entry) → List ℕ
marks_since columns x opening entries (Some later) = marks_behind columns x [] later
marks_since columns x opening entries None = marks_behind columns x opening entries

-- the marks of x after the first n entries
unfoldable pub marks : List TableSchema → History → ℕ → Key → List ℕ
marks schema h n x =
    let entries = take n h.entries in
    marks_since (columns_at schema x.table) x (marks_in (at h.opening x)) entries (behind_clearing x entries)

-- ---- laws

-- After every entry of a legal history a row's marks are those.
abbrev pub RowsCarryMarks : Type 0
RowsCarryMarks = (schema : List TableSchema) (h : History) (n : ℕ) (x : Key) (row : Raw) → IsLegal schema h.opening h.entries → at (replay_to h n) x ≡ Some row → row.marks ≡ marks schema h n x

-- x is destroyed; x, marked deleted, is replaced; or the entry is settled
abbrev pub EndsMarks : Origin → Option Raw → Option Raw → Type 0
EndsMarks origin before None = Unit {0}
EndsMarks Settled before after = Unit {0}
EndsMarks Applied (Some before) (Some after) = (is_visible before.status ≡ false) × (is_visible after.status ≡ true)
EndsMarks origin before after = ⊥

-- A mark ends at a legal entry only in these ways.
abbrev pub MarksEndOnlySo : Type 0
MarksEndOnlySo =
    (schema : List TableSchema) (rows : Rows) (e : Entry) (x : Key) (c : ℕ) → IsEntry schema rows e → has c (marks_in (at rows x)) ≡ true → has c (marks_in (at (after_set rows e.set) x)) ≡ false
    → EndsMarks e.origin (at rows x) (at (after_set rows e.set) x)
