-- A store's two sums, before and after an entry.
use Rattle.std.proofs.Common.{◌≡◌, ℕ, ◌+◌, ◌-◌, ◌≤◌, List, [], ◌∷◌, ◌++◌, length, true, sum_by, get_or, Ok, refl, ap, sym, subst, ◌∙◌, arith}
use Rattle.std.proofs.lemmas.List.{length-map}
use Rattle.melon_schema.specs.Seen.{SeenSchema}
use Rattle.melon_schema.specs.declared.schema.TableSchema.{TableSchema}
use Rattle.melon_raw.specs.declared.raw.Raw.{Raw}
use Rattle.melon_raw.specs.Rows.{Rows}
use Rattle.melon_schema.specs.declared.schema.ColumnSchema.{ColumnSchema}
use Rattle.melon_table.specs.Seen.{SeenTable, rows_of, columns_of, declared_columns}
use Rattle.melon_table.specs.Kept.{IsKept}
use Rattle.melon_change.specs.declared.change.Change.{Change}
use Rattle.melon_change.specs.declared.history.Origin.{Origin}
use Rattle.melon_change.specs.declared.history.Origin.TheVariants.{Local}
use Rattle.melon_change.specs.declared.op.Op.{Op}
use Rattle.melon_change.specs.Batch.{batch_of}
use Rattle.melon_change.specs.Legality.{RowsFit}
use Rattle.melon_change.proofs.Legal.{batches}
use Rattle.melon_table.proofs.ById.{Fits-at_id}
use Rattle.melon_change.specs.declared.history.Entry.{Entry}
use Rattle.melon_change.specs.Changes.{columns_at, after_set}
use Rattle.melon_change.specs.History.{AreChanges, IsEntry, IsLegal, replay}
use Rattle.melon_board.specs.declared.store.Store.TheInside.{Inside}
use Rattle.melon_board.specs.declared.draft.Draft.{Draft}
use Rattle.melon_board.specs.Boards.{SeenBoard, are_within, AreNow, rewound, IsOneHistory, IsNext}
use Rattle.melon_board.specs.Stores.{SeenStore, with_entry, opening_of, Continues, KeepsHistory}
use Rattle.melon_board.proofs.Rewound.{opening_same}
use Rattle.melon_board.specs.Sizes.{stored_bytes, journal_bytes, before_bytes, after_bytes}
use Rattle.melon_board.specs.Batches.{kept_batch}
use Rattle.melon_board.specs.Drafts.{no_draft, drafted}
use Rattle.melon_board.specs.Inside.{store_in, IsSummed}
use Rattle.melon_board.specs.Boards.{AreKept}
use Rattle.melon_board.proofs.Stored.{stored-after_set, kept-after_set, now_of}
use Rattle.melon_board.proofs.Drafted.{before-drafted, after-drafted, batch-drafted, journal-more, within_of}
use Rattle.melon_board.proofs.Histories.{continued}

-- What a draft says of an entry.
pub record Sized (schema : List TableSchema) (rows : Rows) (entries : List Entry) (e : Entry) (stored journal : ℕ) (d : Draft) : Type 0 where
  pub enough : d.before ≤ stored + d.after
  pub stored_is : stored + d.after - d.before ≡ stored_bytes schema (after_set rows e.set)
  pub journal_is : journal + (d.before + d.after) ≡ journal_bytes schema (entries ++ e ∷ [])
  pub batch_is : d.batch ≡ kept_batch schema e.set

abbrev pub MayBe : Entry → SeenStore → Type 0
MayBe e store = AreChanges store.schema.tables store.rows e.origin e.set

module _ (s : Inside) (store : SeenStore) (view : store_in s ≡ store) (sums : IsSummed s) (e : Entry) (changes : MayBe e store) where
  inside : MayBe e (store_in s)
  inside = subst (MayBe e) (sym view) changes

  rows_len : (tables : List SeenTable) → length (rows_of tables) ≡ length (columns_of tables)
  rows_len tables = length-map tables (λ (t : SeenTable). t.rows) ∙ sym (length-map tables (λ (t : SeenTable). t.columns))

  pub long : length (rows_of s.board.tables) ≡ length s.schema.tables
  long = rows_len s.board.tables ∙ (ap (length {A = List ColumnSchema}) sums.columns ∙ length-map s.schema.tables (λ (t : TableSchema). t.columns))

  tables_len : length s.board.tables ≡ length (rows_of s.board.tables)
  tables_len = sym (length-map s.board.tables (λ (t : SeenTable). t.rows))

  pub now_inside : AreNow (declared_columns s.schema.tables) (rows_of s.board.tables) e.set
  now_inside = now_of s.schema.tables (rows_of s.board.tables) e.origin e.set inside

  pub now_of_board : AreNow (columns_of s.board.tables) (rows_of s.board.tables) e.set
  now_of_board = subst (λ (k : List (List ColumnSchema)). AreNow k (rows_of s.board.tables) e.set) (sym sums.columns) now_inside

  within_rows : are_within (length (rows_of s.board.tables)) e.set ≡ true
  within_rows = within_of s.schema.tables (rows_of s.board.tables) e.origin e.set inside

  pub within_board : are_within (length s.board.tables) e.set ≡ true
  within_board = subst (λ (n : ℕ). are_within n e.set ≡ true) (sym tables_len) within_rows

  pub within_schema : (set : List Change) → set ≡ e.set → are_within (length s.schema.tables) set ≡ true
  within_schema set is =
      subst (λ (cs : List Change). are_within (length s.schema.tables) cs ≡ true) (sym is)
      (subst (λ (n : ℕ). are_within n e.set ≡ true) long within_rows)

  law : stored_bytes s.schema.tables (after_set (rows_of s.board.tables) e.set) + sum_by (before_bytes s.schema.tables) e.set ≡ stored_bytes s.schema.tables (rows_of s.board.tables) + sum_by (after_bytes s.schema.tables) e.set
  law = stored-after_set s.schema.tables (rows_of s.board.tables) e.set long now_inside sums.kept

  sized_inside : (d : Draft) → d ≡ drafted s.schema.tables no_draft e.set → Sized s.schema.tables (rows_of s.board.tables) s.board.entries e s.stored s.journal d
  sized_inside d is =
      let before : d.before ≡ sum_by (before_bytes s.schema.tables) e.set = ap (λ (x : Draft). x.before) is ∙ before-drafted s.schema.tables e.set in
      let after : d.after ≡ sum_by (after_bytes s.schema.tables) e.set = ap (λ (x : Draft). x.after) is ∙ after-drafted s.schema.tables e.set in
      let summed = law in
      record {
        enough = omega (arith, before, after, summed, sums.stored);
        stored_is = omega (arith, before, after, summed, sums.stored);
        journal_is = omega (arith, before, after, sums.journal, journal-more s.schema.tables s.board.entries e);
        batch_is = ap (λ (x : Draft). x.batch) is ∙ batch-drafted s.schema.tables e.set;
      }

  pub sized : (set : List Change) → set ≡ e.set → (d : Draft) → d ≡ drafted s.schema.tables no_draft set → Sized store.schema.tables store.rows store.entries e s.stored s.journal d
  sized set set_is d is =
      subst (λ (x : SeenStore). Sized x.schema.tables x.rows x.entries e s.stored s.journal d) view
      (sized_inside d (is ∙ ap (λ (cs : List Change). drafted s.schema.tables no_draft cs) set_is))

  -- with the entry undone too, the rows are those of the opening
  back : (board : SeenBoard) → IsNext (columns_of s.board.tables) (rows_of s.board.tables) e → rows_of board.tables ≡ after_set (rows_of s.board.tables) e.set → board.entries ≡ s.board.entries ++ e ∷ [] → rewound (rows_of board.tables) board.entries ≡ rewound (rows_of s.board.tables) s.board.entries
  back board next rows entries = ap (rewound (rows_of board.tables)) entries ∙ opening_same (columns_of s.board.tables) (rows_of s.board.tables) e next s.board.entries (rows_of board.tables) rows

  -- the board with the entry, and the new sums
  pub summed : (board : SeenBoard) (stored journal : ℕ) → IsOneHistory board → board.opening ≡ s.board.opening → IsNext (columns_of s.board.tables) (rows_of s.board.tables) e → columns_of board.tables ≡ columns_of s.board.tables → rows_of board.tables ≡ after_set (rows_of s.board.tables) e.set → board.entries ≡ s.board.entries ++ e ∷ []
      → stored ≡ stored_bytes store.schema.tables (after_set store.rows e.set) → journal ≡ journal_bytes store.schema.tables (store.entries ++ e ∷ [])
      → IsSummed (record { name = s.name; schema = s.schema; board = board; last = s.last; stored = stored; journal = journal })
  summed board stored journal history opening next columns rows entries stored_is journal_is =
      let stored_in : stored_bytes store.schema.tables (after_set store.rows e.set) ≡ stored_bytes s.schema.tables (after_set (rows_of s.board.tables) e.set) = ap (λ (x : SeenStore). stored_bytes x.schema.tables (after_set x.rows e.set)) (sym view) in
      let journal_in : journal_bytes store.schema.tables (store.entries ++ e ∷ []) ≡ journal_bytes s.schema.tables (s.board.entries ++ e ∷ []) = ap (λ (x : SeenStore). journal_bytes x.schema.tables (x.entries ++ e ∷ [])) (sym view) in
      record {
        sound = sums.sound;
        history = history;
        opening = opening ∙ (sums.opening ∙ sym (back board next rows entries));
        columns = columns ∙ sums.columns;
        kept = subst (λ (q : Rows). AreKept s.schema.tables q) (sym rows) (kept-after_set s.schema.tables (rows_of s.board.tables) e.set now_inside sums.kept);
        stored = stored_is ∙ (stored_in ∙ ap (stored_bytes s.schema.tables) (sym rows));
        journal = journal_is ∙ (journal_in ∙ ap (journal_bytes s.schema.tables) (sym entries));
      }

-- ---- one legal history

-- an entry of the store is one that its board may have next
pub next_of_board : (s : Inside) (store : SeenStore) → store_in s ≡ store → IsSummed s → (e : Entry) → IsEntry store.schema.tables store.rows e → IsNext (columns_of s.board.tables) (rows_of s.board.tables) e
next_of_board s store view sums e entry = record {
  schema = s.schema.tables;
  declared = sym sums.columns;
  kept = sums.kept;
  entry = subst (λ (x : SeenStore). IsEntry x.schema.tables x.rows e) (sym view) entry;
}

-- the journal is one legal history from the opening rows
pub continues_now : (s : Inside) → IsSummed s → Continues (opening_of (store_in s)) (store_in s)
continues_now s sums = record {
  legal = subst (λ (o : Rows). IsLegal s.schema.tables o s.board.entries) sums.opening (sums.history.legal s.schema.tables (sym sums.columns));
  replayed = ap (λ (o : Rows). replay o s.board.entries) (sym sums.opening) ∙ sums.history.replayed;
}

-- the same history, before and after
pub keeps_history : (s new : Inside) (store : SeenStore) → store_in s ≡ store → IsSummed s → IsSummed new → new.board.opening ≡ s.board.opening → KeepsHistory store (store_in new)
keeps_history s new store view sums later same = record {
  opening = sym later.opening ∙ (same ∙ (sums.opening ∙ ap opening_of view));
  history = continues_now new later;
}

-- stores with the same rows and entries
same_parts : (name : List ℕ) (schema : SeenSchema) (last : ℕ) (rows was : Rows) (entries old : List Entry) → rows ≡ was → entries ≡ old
    → (let a : SeenStore = record { name = name; schema = schema; rows = rows; entries = entries; last = last } in let b : SeenStore = record { name = name; schema = schema; rows = was; entries = old; last = last } in a ≡ b)
same_parts name schema last rows was entries old r e =
    let with_rows : Rows → SeenStore = λ q. record { name = name; schema = schema; rows = q; entries = entries; last = last } in
    let with_entries : List Entry → SeenStore = λ q. record { name = name; schema = schema; rows = was; entries = q; last = last } in
    ap with_rows r ∙ ap with_entries e

abbrev pub seen_with : Inside → SeenBoard → SeenStore
seen_with s board = record { name = s.name; schema = s.schema; rows = rows_of board.tables; entries = board.entries; last = s.last }

pub same_store : (s : Inside) (store : SeenStore) (board : SeenBoard) → store_in s ≡ store → rows_of board.tables ≡ rows_of s.board.tables → board.entries ≡ s.board.entries → seen_with s board ≡ store
same_store s store board view rows entries = same_parts s.name s.schema s.last (rows_of board.tables) (rows_of s.board.tables) board.entries s.board.entries rows entries ∙ view

pub more_store : (s : Inside) (store : SeenStore) (board : SeenBoard) (e : Entry) → store_in s ≡ store → rows_of board.tables ≡ after_set (rows_of s.board.tables) e.set → board.entries ≡ s.board.entries ++ e ∷ [] → seen_with s board ≡ with_entry store e
more_store s store board e view rows entries =
    same_parts s.name s.schema s.last (rows_of board.tables) (after_set (rows_of s.board.tables) e.set) board.entries (s.board.entries ++ e ∷ []) rows entries
    ∙ ap (λ (x : SeenStore). with_entry x e) view

pub continued_with : (s : Inside) (store : SeenStore) (board : SeenBoard) (e : Entry) → store_in s ≡ store → rows_of board.tables ≡ after_set (rows_of s.board.tables) e.set → board.entries ≡ s.board.entries ++ e ∷ [] → IsEntry store.schema.tables store.rows e
    → (opening : Rows) → Continues opening store → Continues opening (seen_with s board)
continued_with s store board e view rows entries entry opening so_far = subst (λ (x : SeenStore). Continues opening x) (sym (more_store s store board e view rows entries)) (continued opening store e entry so_far)

-- ---- what a batch makes

long_of : (s : Inside) → IsSummed s → length (rows_of s.board.tables) ≡ length s.schema.tables
long_of s sums =
    length-map s.board.tables (λ (t : SeenTable). t.rows) ∙ (sym (length-map s.board.tables (λ (t : SeenTable). t.columns))
    ∙ (ap (length {A = List ColumnSchema}) sums.columns ∙ length-map s.schema.tables (λ (t : TableSchema). t.columns)))

-- the change set of a batch is one that an entry may have
pub legal_batch : (s : Inside) (store : SeenStore) → store_in s ≡ store → IsSummed s → (ops : List Op) (set : List Change) (tables : List SeenTable) → tables ≡ s.board.tables → batch_of s.schema.tables (rows_of tables) ops ≡ Ok set
    → AreChanges store.schema.tables store.rows Local set
legal_batch s store view sums ops set tables is made =
    let fits : RowsFit s.schema.tables (rows_of s.board.tables) = λ x row here. Fits-at_id (columns_at s.schema.tables x.table) x.id (get_or (rows_of s.board.tables) x.table []) row (sums.kept x.table).fitting here in
    subst (λ (x : SeenStore). AreChanges x.schema.tables x.rows Local set) view
    (batches s.schema.tables (rows_of s.board.tables) ops set (long_of s sums) fits (ap (λ (ts : List SeenTable). batch_of s.schema.tables (rows_of ts) ops) (sym is) ∙ made))
