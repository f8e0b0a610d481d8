-- A board's journal stays one legal history when an entry is put at its end.
use Rattle.std.proofs.Common.{◌≡◌, ℕ, ◌<◌, List, [], ◌∷◌, ◌++◌, length, get_or, Bool, true, false, Option, Some, None, refl, sym, ap, ◌∙◌, subst, length-set}
use Rattle.std.proofs.lemmas.List.{same_lists, get_or_default}
use Rattle.melon_schema.specs.declared.schema.ColumnSchema.{ColumnSchema}
use Rattle.melon_schema.specs.declared.schema.TableSchema.{TableSchema}
use Rattle.melon_raw.specs.declared.raw.Raw.{Raw}
use Rattle.melon_raw.specs.Rows.{Fits, Key, is_key, Rows, at, at_id}
use Rattle.melon_table.specs.Seen.{SeenTable, rows_of, columns_of, declared_columns}
use Rattle.melon_table.proofs.Order.{split}
use Rattle.melon_table.proofs.ById.{Fits-at_id, id-at_id}
use Rattle.melon_change.specs.declared.change.Change.{Change}
use Rattle.melon_change.specs.declared.history.Entry.{Entry}
use Rattle.melon_change.specs.declared.history.Origin.{Origin}
use Rattle.melon_change.specs.Changes.{columns_at, key, key_of, with_after, after_change, after_set}
use Rattle.melon_change.specs.History.{KeepsId, FitsIfAny, IsAllowed, IsChange, AreChanges, IsEntry, IsLegal, replay}
use Rattle.melon_change.proofs.After.{at_changed, at_unchanged}
use Rattle.melon_change.proofs.Same.{is_key_same}
use Rattle.melon_board.specs.Boards.{SeenBoard, AreKept, undone, before_set, rewound, IsOneHistory, IsNext, IsNow, AreNow}
use Rattle.melon_board.proofs.Applied.{after_now}
use Rattle.melon_board.proofs.Histories.{replay-more, legal-more}
use Rattle.melon_board.proofs.SameRows.{same_rows}
use Rattle.melon_board.proofs.Stored.{columns-declared, fits_declared, kept-after_change, now_of}

-- ---- a change undone

module _ (schema : List TableSchema) (rows : Rows) (c : Change) (now : IsNow (declared_columns schema) rows c) (kept : AreKept schema rows) where
  abbrev there : Rows
  there = after_change rows c

  abbrev back : Rows
  back = after_change there (undone c)

  here : List Raw
  here = get_or rows c.table []

  long_there : length there ≡ length rows
  long_there = length-set rows c.table (with_after c.id c.after (get_or rows c.table []))

  long_back : length back ≡ length rows
  long_back = length-set there c.table (with_after c.id c.before (get_or there c.table [])) ∙ long_there

  within_there : c.table < length there
  within_there = subst (λ (n : ℕ). c.table < n) (sym long_there) now.within

  -- the row before is of the record, and fits
  row_before : (row : Raw) → c.before ≡ Some row → at rows (key_of c) ≡ Some row
  row_before row e = sym now.before_is ∙ e

  keeps_by : (before : Option Raw) → c.before ≡ before → KeepsId c.id before
  keeps_by None e = tt
  keeps_by (Some row) e = id-at_id c.id (get_or rows c.table []) row (row_before row e)

  fits_by : (before : Option Raw) → c.before ≡ before → FitsIfAny (columns_at schema c.table) before
  fits_by None e = tt
  fits_by (Some row) e = Fits-at_id (columns_at schema c.table) c.id (get_or rows c.table []) row (kept c.table).fitting (row_before row e)

  keeps_before : KeepsId c.id c.before
  keeps_before = keeps_by c.before refl

  kept_there : AreKept schema there
  kept_there = kept-after_change schema rows c (fits_declared schema c.table c.after now.fits) kept

  kept_back : AreKept schema back
  kept_back = kept-after_change schema there (undone c) (fits_by c.before refl) kept_there

  same_at : (x : Key) → at back x ≡ at rows x
  same_at x = split (is_key x (key_of c))
      (λ e.
      let one : x ≡ key_of c = is_key_same x (key_of c) e in
      ap (at back) one
      ∙ (at_changed there (undone c) within_there keeps_before
      ∙ (now.before_is ∙ ap (at rows) (sym one))))
      (λ e. at_unchanged there (undone c) x within_there keeps_before e ∙ at_unchanged rows c x now.within now.keeps_id e)

  same_table : (t : ℕ) → get_or back t [] ≡ get_or rows t []
  same_table t = same_rows (get_or back t []) (get_or rows t []) (kept_back t).ascending (kept t).ascending (λ id. same_at (key t id))

  pub change_back : back ≡ rows
  change_back = same_lists back rows long_back
      (λ t d within. get_or_default back t d [] within ∙ (same_table t ∙ sym (get_or_default rows t d [] (subst (λ (n : ℕ). t < n) long_back within))))

-- ---- sets and entries undone

pub set_back : (schema : List TableSchema) (rows : Rows) (cs : List Change) → AreNow (declared_columns schema) rows cs → AreKept schema rows → before_set (after_set rows cs) cs ≡ rows
set_back schema rows [] now kept = refl
set_back schema rows (c ∷ cs) now kept =
    let later : AreNow (declared_columns schema) (after_change rows c) cs = after_now (declared_columns schema) rows c cs now.0.keeps_id now.1 now.2 in
    let ih : before_set (after_set (after_change rows c) cs) cs ≡ after_change rows c = set_back schema (after_change rows c) cs later (kept-after_change schema rows c (fits_declared schema c.table c.after now.0.fits) kept) in
    ap (λ (q : Rows). after_change q (undone c)) ih ∙ change_back schema rows c now.0 kept

rewound-more : (rows : Rows) (es : List Entry) (e : Entry) → rewound rows (es ++ e ∷ []) ≡ rewound (before_set rows e.set) es
rewound-more rows [] e = refl
rewound-more rows (d ∷ es) e = ap (λ (q : Rows). before_set q d.set) (rewound-more rows es e)

-- ---- the same under other names of the tables

module _ (schema other : List TableSchema) (same : declared_columns schema ≡ declared_columns other) where
  columns_same : (t : ℕ) → columns_at schema t ≡ columns_at other t
  columns_same t = sym (columns-declared schema t) ∙ (ap (λ (k : List (List ColumnSchema)). get_or k t []) same ∙ columns-declared other t)

  change_under : (rows : Rows) (origin : Origin) (c : Change) → IsChange schema rows origin c → IsChange other rows origin c
  change_under rows origin c h = record {
    declared = h.declared;
    before_is = h.before_is;
    keeps_id = h.keeps_id;
    fits = subst (λ (k : List ColumnSchema). FitsIfAny k c.after) (columns_same c.table) h.fits;
    allowed = subst (λ (k : List ColumnSchema). IsAllowed k origin c.before c.after) (columns_same c.table) h.allowed;
  }

  changes_under : (rows : Rows) (origin : Origin) (cs : List Change) → AreChanges schema rows origin cs → AreChanges other rows origin cs
  changes_under rows origin [] h = tt
  changes_under rows origin (c ∷ cs) h = (change_under rows origin c h.0, h.1, changes_under rows origin cs h.2)

  pub entry_under : (rows : Rows) (e : Entry) → IsEntry schema rows e → IsEntry other rows e
  entry_under rows e h = (h.0, changes_under rows e.origin e.set h.1)

-- ---- the board with an entry more

module _ (columns : List (List ColumnSchema)) (rows : Rows) (e : Entry) (next : IsNext columns rows e) where
  pub next_now : AreNow columns rows e.set
  next_now = subst (λ (k : List (List ColumnSchema)). AreNow k rows e.set) next.declared (now_of next.schema rows e.origin e.set next.entry.1)

  next_back : before_set (after_set rows e.set) e.set ≡ rows
  next_back = set_back next.schema rows e.set (now_of next.schema rows e.origin e.set next.entry.1) next.kept

  -- the opening rows are as they were
  pub opening_same : (es : List Entry) (after : Rows) → after ≡ after_set rows e.set → rewound after (es ++ e ∷ []) ≡ rewound rows es
  opening_same es after is =
      rewound-more after es e
      ∙ ap (λ (q : Rows). rewound q es) (ap (λ (q : Rows). before_set q e.set) is ∙ next_back)

  pub entry_for : (schema : List TableSchema) → declared_columns schema ≡ columns → IsEntry schema rows e
  entry_for schema declared = entry_under next.schema schema (next.declared ∙ sym declared) rows e next.entry

pub history_more : (old new : SeenBoard) (e : Entry) → IsOneHistory old → IsNext (columns_of old.tables) (rows_of old.tables) e → new.opening ≡ old.opening → rows_of new.tables ≡ after_set (rows_of old.tables) e.set → columns_of new.tables ≡ columns_of old.tables
    → new.entries ≡ old.entries ++ e ∷ [] → IsOneHistory new
history_more old new e history next opening rows columns entries = record {
  legal = λ schema declared.
      let was : declared_columns schema ≡ columns_of old.tables = declared ∙ columns in
      let entry : IsEntry schema (replay old.opening old.entries) e = subst (λ (q : Rows). IsEntry schema q e) (sym history.replayed) (entry_for (columns_of old.tables) (rows_of old.tables) e next schema was) in
      let all : IsLegal schema old.opening (old.entries ++ e ∷ []) = legal-more schema old.opening old.entries e (history.legal schema was) entry in
      subst (λ (o : Rows). IsLegal schema o new.entries) (sym opening) (subst (λ (es : List Entry). IsLegal schema old.opening es) (sym entries) all);
  replayed =
      ap (λ (o : Rows). replay o new.entries) opening
      ∙ (ap (replay old.opening) entries
      ∙ (replay-more old.opening old.entries e
      ∙ (ap (λ (q : Rows). after_set q e.set) history.replayed ∙ sym rows)));
}

-- the same history, of tables with the same rows and columns
pub history_same : (old new : SeenBoard) → IsOneHistory old → new.opening ≡ old.opening → rows_of new.tables ≡ rows_of old.tables → columns_of new.tables ≡ columns_of old.tables → new.entries ≡ old.entries → IsOneHistory new
history_same old new history opening rows columns entries = record {
  legal = λ schema declared. subst (λ (o : Rows). IsLegal schema o new.entries) (sym opening) (subst (λ (es : List Entry). IsLegal schema old.opening es) (sym entries) (history.legal schema (declared ∙ columns)));
  replayed = ap (λ (o : Rows). replay o new.entries) opening ∙ (ap (replay old.opening) entries ∙ (history.replayed ∙ sym rows));
}
