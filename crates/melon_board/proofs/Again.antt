-- What is kept of a store opens again as that store.
use Rattle.std.proofs.Common.{◌≡◌, ℕ, zero, suc, ◌<◌, List, [], ◌∷◌, length, get_or, Bool, true, false, ◌&&◌, cond, ◌==◌, Option, Some, None, option_map, unwrap_or, Result, Ok, Err, bytes_eq, refl, sym, ap, ◌∙◌, subst, arith}
use Rattle.std.specs.Bool.{⊤}
use Rattle.std.specs.List.{list_all, AllByRecursion}
use Rattle.std.specs.Prelude.{option_and_then, IsUtf8}
use Rattle.std.proofs.lemmas.Bool.{eq-eqb}
use Rattle.std.proofs.lemmas.List.{same_lists, get_or_default}
use Rattle.melon_schema.specs.Faults.{◌>>=◌, unless, or_fault, in_turn}
use Rattle.melon_schema.specs.Seen.{SeenSchema}
use Rattle.melon_schema.specs.Places.{table_named}
use Rattle.melon_schema.specs.Sound.{AreSound}
use Rattle.melon_schema.specs.declared.schema.TableSchema.{TableSchema}
use Rattle.melon_schema.specs.declared.schema.ColumnSchema.{ColumnSchema}
use Rattle.melon_raw.specs.declared.raw.Raw.{Raw}
use Rattle.melon_raw.specs.Order.{is_below}
use Rattle.melon_raw.specs.Rows.{Rows, Fits, at, at_id, is_ascending, table_at}
use Rattle.melon_raw.specs.Encoding.{encoding}
use Rattle.melon_raw.specs.Decoding.{kept_row}
use Rattle.melon_raw.proofs.RowBack.{kept_row-found, unique}
use Rattle.melon_table.specs.Kept.{IsKept}
use Rattle.melon_table.proofs.ById.{Fits-at_id, id-at_id}
use Rattle.melon_table.proofs.Order.{split, and_left, and_right, bytes_same, same_bytes, below_asym, above_apart}
use Rattle.melon_outside.specs.declared.kept.Kept.{Kept}
use Rattle.melon_outside.specs.declared.kept.KeptRow.{KeptRow}
use Rattle.melon_outside.specs.declared.kept.KeptValue.{KeptValue}
use Rattle.melon_outside.specs.declared.kept.OpenFault.{OpenFault}
use Rattle.melon_outside.specs.declared.kept.OpenFault.TheVariants.{BadRow, Version}
use Rattle.melon_outside.specs.Ascending.{ascends}
use Rattle.melon_outside.specs.Kept.{key_cmp, key_of, text_cmp, name_of}
use Rattle.melon_change.specs.Changes.{columns_at, key}
use Rattle.melon_board.specs.Stores.{SeenStore}
use Rattle.melon_board.specs.Boards.{AreKept}
use Rattle.melon_board.specs.Batches.{last_name, version_name}
use Rattle.melon_board.specs.Opening.{with_id, row_in_table, row_kept, with_row, row_opened, no_rows, rows_opened, value_in, same_version, missing_values, batch_if_any, open_plan, opened}
use Rattle.melon_board.specs.Keeps.{body_of, body_in, encoding_at, encoding_under, Keeps}
use Rattle.melon_board.specs.Lasting.{have_different_names, IsWellFormed, HasSoundColumns, AreTexts, opened_again, KeptStoresOpenAgain}
use Rattle.melon_board.proofs.Answered.{then_some, map_some}
use Rattle.melon_board.proofs.Bodies.{same_key, same_key_from, same_tables, same_ids, body_once}
use Rattle.melon_board.proofs.SameRows.{same_rows}
use Rattle.melon_board.proofs.Distinct.{name_at, is_of_none, none_at, named_at, one_place}
use Rattle.melon_board.proofs.Reopened.{opened_bodies, opened_long, opened_kept}

-- ---- a declared table stands under its name

found_place : (ts : List TableSchema) (t : ℕ) (o : Option ℕ) → have_different_names ts ≡ true → t < length ts → table_named (name_at ts t) ts ≡ o → o ≡ Some t
found_place ts t None apart within h = let no : false ≡ true = sym (none_at (name_at ts t) ts t (is_of_none (name_at ts t) ts h) within) ∙ bytes_same (name_at ts t) (name_at ts t) refl in cc
found_place ts t (Some u) apart within h = let f = named_at (name_at ts t) ts u h in ap Some (sym (one_place ts t u apart within f.0 f.1))

sound_at : (ts : List TableSchema) (t : ℕ) → AllByRecursion HasSoundColumns ts → t < length ts → AreSound (table_at ts t).columns
sound_at [] t sound within = absurd (omega arith)
sound_at (s ∷ ts) zero sound within = sound.0
sound_at (s ∷ ts) (suc t) sound within = sound_at ts t sound.1 (omega arith)

-- ---- each kept row is the one that is kept of its record

abbrev IsOwn : List KeptRow → KeptRow → Type 0
IsOwn rows k = body_in k.table k.id rows ≡ Some k.body

own_more : (r : KeptRow) (rs : List KeptRow) (k : KeptRow) → body_in r.table r.id rs ≡ None → IsOwn rs k → IsOwn (r ∷ rs) k
own_more r rs k none own = split (same_key (key_of r) (key_of k))
    (λ e.
    let here : body_in k.table k.id rs ≡ None = ap (λ (t : List ℕ). body_in t k.id rs) (sym (same_tables (key_of r) (key_of k) e)) ∙ (ap (λ (i : List ℕ). body_in r.table i rs) (sym (same_ids (key_of r) (key_of k) e)) ∙ none) in
    let no : None ≡ Some k.body = sym here ∙ own in
    cc)
    (λ e. rw e own)

all_own_more : (r : KeptRow) (rs some : List KeptRow) → body_in r.table r.id rs ≡ None → AllByRecursion (IsOwn rs) some → AllByRecursion (IsOwn (r ∷ rs)) some
all_own_more r rs [] none own = tt
all_own_more r rs (k ∷ ks) none own = (own_more r rs k none own.0, all_own_more r rs ks none own.1)

all_own : (rows : List KeptRow) → ascends key_cmp key_of rows ≡ true → AllByRecursion (IsOwn rows) rows
all_own [] up = tt
all_own (r ∷ rs) up =
    let same : same_key (key_of r) (key_of r) ≡ true = same_key_from (key_of r) (key_of r) refl refl in
    (rw same refl, all_own_more r rs rs (body_once r rs up) (all_own rs (and_right _ (ascends key_cmp key_of rs) up)))

unless_true : (b : Bool) (fault : OpenFault) → b ≡ true → unless b fault ≡ Ok tt
unless_true true fault e = refl
unless_true false fault e = cc

-- ---- each kept row is read

module _ (store : SeenStore) (kept : Kept) (formed : IsWellFormed store) (sound : AllByRecursion HasSoundColumns store.schema.tables) (keeps : Keeps store kept) (texts : AreTexts kept.rows) where
  abbrev tables : List TableSchema
  tables = store.schema.tables

  abbrev IsRead : KeptRow → Type 0
  IsRead k = (found : ℕ × Raw) × (row_kept tables k ≡ Some found)

  read_one : (k : KeptRow) → IsUtf8 k.body → IsOwn kept.rows k → IsRead k
  read_one k text own =
      let a = then_some (encoding_at tables store.rows k.id) (table_named k.table tables) k.body (sym (keeps.rows k.table k.id) ∙ own) in
      let b = map_some (encoding (table_at tables a.0)) (at store.rows (key a.0 k.id)) k.body a.2 in
      let there = named_at k.table tables a.0 a.1 in
      let rows : List Raw = get_or store.rows a.0 [] in
      let fits : Fits (columns_at tables a.0) b.0 = Fits-at_id (columns_at tables a.0) k.id rows b.0 (formed.rows a.0).fitting b.1 in
      let same : bytes_eq b.0.id k.id ≡ true = bytes_same b.0.id k.id (id-at_id k.id rows b.0 b.1) in
      let decoded : kept_row (table_at tables a.0) k.body ≡ Some b.0 = kept_row-found (table_at tables a.0) k.body b.0 (sound_at tables a.0 sound there.0) text fits b.2 in
      let own_id : with_id k.id b.0 ≡ Some b.0 = rw same refl in (
        (a.0, b.0),
        ap (option_and_then (row_in_table tables k)) a.1
            ∙ (ap (λ (o : Option Raw). option_map (λ (row : Raw). let f : ℕ × Raw = (a.0, row) in f) (option_and_then (with_id k.id) o)) decoded
            ∙ ap (option_map (λ (row : Raw). let f : ℕ × Raw = (a.0, row) in f)) own_id),
      )

  read_all : (rows : List KeptRow) → AreTexts rows → AllByRecursion (IsOwn kept.rows) rows → AllByRecursion IsRead rows
  read_all [] text own = tt
  read_all (k ∷ ks) text own = (read_one k text.0 own.0, read_all ks text.1 own.1)

  opens_all : (left : List KeptRow) (rows : Rows) → AllByRecursion IsRead left → (final : Rows) × (in_turn (row_opened tables) rows left ≡ Ok final)
  opens_all [] rows all = (rows, refl)
  opens_all (k ∷ left) rows all =
      let next : Rows = with_row rows all.0.0 in
      let one : row_opened tables rows k ≡ Ok next = ap (λ (o : Option (ℕ × Raw)). or_fault o (BadRow k.table k.id) >>= λ found. Ok (with_row rows found)) all.0.1 in
      let later = opens_all left next all.1 in
      (later.0, ap (λ (r : Result Rows OpenFault). r >>= λ more. in_turn (row_opened tables) more left) one ∙ later.1)

  up : ascends key_cmp key_of kept.rows ≡ true
  up = and_left (ascends key_cmp key_of kept.rows) (ascends text_cmp name_of kept.values) keeps.ordered

  opening : (final : Rows) × (rows_opened tables kept.rows ≡ Ok final)
  opening = opens_all kept.rows (no_rows tables) (read_all kept.rows texts (all_own kept.rows up))

  -- ---- with the same rows

  module _ (final : Rows) (read : rows_opened tables kept.rows ≡ Ok final) where
    same_encodings : (t : ℕ) (id : List ℕ) → t < length tables → encoding_at tables final id t ≡ encoding_at tables store.rows id t
    same_encodings t id within =
        let place : table_named (name_at tables t) tables ≡ Some t = found_place tables t (table_named (name_at tables t) tables) formed.names within refl in
        sym (ap (option_and_then (encoding_at tables final id)) place)
        ∙ (sym (opened_bodies tables kept.rows final (name_at tables t) id up read)
        ∙ (keeps.rows (name_at tables t) id
        ∙ ap (option_and_then (encoding_at tables store.rows id)) place))

    from_encodings : (t : ℕ) → t < length tables → (o p : Option Raw) → ((row : Raw) → o ≡ Some row → Fits (columns_at tables t) row) → ((row : Raw) → p ≡ Some row → Fits (columns_at tables t) row)
        → option_map (encoding (table_at tables t)) o ≡ option_map (encoding (table_at tables t)) p → o ≡ p
    from_encodings t within None None f g e = refl
    from_encodings t within None (Some q) f g e = cc
    from_encodings t within (Some o) None f g e = cc
    from_encodings t within (Some o) (Some q) f g e =
        let bytes : encoding (table_at tables t) o ≡ encoding (table_at tables t) q = cc in
        ap Some (unique (table_at tables t) o q (sound_at tables t sound within) (f o refl) (g q refl) bytes)

    final_kept : AreKept tables final
    final_kept = opened_kept tables kept.rows final read

    same_table : (t : ℕ) → t < length tables → get_or final t [] ≡ get_or store.rows t []
    same_table t within =
        same_rows (get_or final t []) (get_or store.rows t []) (final_kept t).ascending (formed.rows t).ascending
        (λ id. from_encodings t within (at final (key t id)) (at store.rows (key t id))
        (λ row found. Fits-at_id (columns_at tables t) id (get_or final t []) row (final_kept t).fitting found)
        (λ row found. Fits-at_id (columns_at tables t) id (get_or store.rows t []) row (formed.rows t).fitting found)
        (same_encodings t id within))

    same_all : final ≡ store.rows
    same_all =
        let long : length final ≡ length tables = opened_long tables kept.rows final read in
        let among : (t : ℕ) → t < length final → t < length tables = λ t within. subst (λ (n : ℕ). t < n) long within in
        let of_store : (t : ℕ) → t < length final → t < length store.rows = λ t within. subst (λ (n : ℕ). t < n) (long ∙ sym formed.tables) within in
        same_lists final store.rows (long ∙ sym formed.tables)
        (λ t d within. get_or_default final t d [] within ∙ (same_table t (among t within) ∙ sym (get_or_default store.rows t d [] (of_store t within))))

  -- ---- the opening

  version_same : same_version (value_in version_name kept.values) store.schema.version ≡ Ok tt
  version_same = ap (λ (o : Option ℕ). same_version o store.schema.version) keeps.version ∙ unless_true (store.schema.version == store.schema.version) (Version store.schema.version) (eq-eqb store.schema.version store.schema.version refl)

  again : opened store.name store.schema kept ≡ Ok (opened_again store)
  unfolding open_plan
  again =
      let all : rows_opened tables kept.rows ≡ Ok store.rows = opening.1 ∙ ap (λ (q : Rows). let r : Result Rows OpenFault = Ok q in r) (same_all opening.0 opening.1) in
      rw all (rw version_same (ap (λ (o : Option ℕ). let r : Result SeenStore OpenFault = Ok (record { name = store.name; schema = store.schema; rows = store.rows; entries = []; last = unwrap_or o 0 }) in r) keeps.last))

pub opens_again : KeptStoresOpenAgain
opens_again store kept formed sound keeps texts = again store kept formed sound keeps texts
