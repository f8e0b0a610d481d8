-- The object of a row is tidy, and read back as the row.
use Rattle.std.proofs.Common.{◌≡◌, ℕ, ◌<◌, ◌≤◌, ◌^◌, ℤ, pos, negsuc, int_le, Bool, true, false, not, ◌||◌, cond, nat_lt, List, [], ◌∷◌, Option, Some, None, option_map, unwrap_or, bytes_eq, codes, refl, sym, ap, ◌∙◌, subst, arith}
use Rattle.std.specs.Prelude.{option_and_then}
use Rattle.std.specs.List.{list_any, list_all}
use Rattle.std.specs.Ordering.{int_eq}
use Rattle.std.specs.Str.{IsUtf8}
use Rattle.std.proofs.lemmas.Str.{is_utf8-from_IsUtf8}
use Rattle.std.proofs.lemmas.Slice.Eq.{bytes_eq-Decides}
use Rattle.serde_json.specs.Data.{Data, string, object, Members, no_members, put, depth, members_depth}
use Rattle.serde_json.specs.Find.{of_integer, as_i64, get, get_member, as_str}
use Rattle.serde_json.specs.Read.{read, max_depth}
use Rattle.serde_json.specs.Written.{compact_text}
use Rattle.serde_json.proofs.Views.{get_member-put, get_member-put_other}
use Rattle.melon_schema.specs.Json.{◌>>=◌, text_at, each}
use Rattle.melon_schema.specs.Names.{is_id, is_reserved_column, are_distinct}
use Rattle.melon_schema.specs.Sound.{is_well_named, AreSound}
use Rattle.melon_schema.specs.Bytes.{json_of}
use Rattle.melon_schema.specs.Tidy.{IsWhole, IsTidy, HasTidy}
use Rattle.melon_schema.proofs.TidyBack.{read_compact, has_tidy-put, members_depth-put}
use Rattle.melon_schema.specs.declared.schema.Kind.{Kind}
use Rattle.melon_schema.specs.declared.schema.Kind.TheVariants as kinds
use Rattle.melon_schema.specs.declared.schema.ColumnSchema.{ColumnSchema}
use Rattle.melon_schema.specs.declared.schema.TableSchema.{TableSchema}
use Rattle.melon_raw.specs.declared.datum.Datum.{Datum}
use Rattle.melon_raw.specs.declared.datum.Datum.TheVariants.{Null, Words, Whole, Truth}
use Rattle.melon_raw.specs.declared.raw.Status.{Status}
use Rattle.melon_raw.specs.declared.raw.Status.TheVariants.{Created, Updated, Deleted, Synced}
use Rattle.melon_raw.specs.declared.raw.Raw.{Raw}
use Rattle.melon_raw.specs.Datum.{fit, kept, otherwise, in_profile, whole_in_profile, datum_of}
use Rattle.melon_raw.specs.Rows.{fitted, Fits}
use Rattle.melon_raw.specs.Encoding.{status_word, marks_text, datum_data, with_cells, own_members, row_data, encoding}
use Rattle.melon_raw.specs.Decoding.{status_named, marks_in, id_in, cell_in, row_in, if_encoded, kept_row, IsRowOf}
use Rattle.melon_raw.proofs.Fitting.{both, neither, fit-again}
use Rattle.melon_raw.proofs.MarksBack.{bound, mapped, falsely, marks_in-text, are_marks-in}

-- ---- whole numbers that are kept are of the profile

whole_profile : (optional : Bool) (z : ℤ) (b : Bool) → in_profile z ≡ b → unwrap_or (cond b (Some (Whole z)) None) (otherwise kinds.Whole optional) ≡ Whole z → in_profile z ≡ true
whole_profile optional z true is h = is
whole_profile true z false is h = cc
whole_profile false z false is h = let e : pos 0 ≡ z = cc in subst (λ (x : ℤ). in_profile x ≡ true) e refl

truth_profile : (optional : Bool) (z : ℤ) (b c : Bool) → unwrap_or (cond b (Some (Truth true)) (cond c (Some (Truth false)) None)) (otherwise kinds.Truth optional) ≡ Whole z → in_profile z ≡ true
truth_profile optional z true c h = cc
truth_profile optional z false true h = cc
truth_profile true z false false h = cc
truth_profile false z false false h = cc

kept_profile : (kind : Kind) (optional : Bool) (z : ℤ) → unwrap_or (kept kind (Whole z)) (otherwise kind optional) ≡ Whole z → in_profile z ≡ true
kept_profile kinds.Words true z h = cc
kept_profile kinds.Words false z h = cc
kept_profile kinds.Whole optional z h = whole_profile optional z (in_profile z) refl h
kept_profile kinds.Truth optional z h = truth_profile optional z (int_eq z (pos 1)) (int_eq z (pos 0)) h

pos_small : (n : ℕ) → in_profile (pos n) ≡ true → n < 9007199254740992
pos_small n h = let t = both (int_le (negsuc 9007199254740990) (pos n)) _ h in let e : int_le (pos n) (pos 9007199254740991) ≡ true = t.1 in grind (arith, e)

negsuc_small : (n : ℕ) → in_profile (negsuc n) ≡ true → n < 9007199254740992
negsuc_small n h = let t = both (int_le (negsuc 9007199254740990) (negsuc n)) _ h in let e : int_le (negsuc 9007199254740990) (negsuc n) ≡ true = t.0 in grind (arith, e)

IsWhole-profile : (z : ℤ) → in_profile z ≡ true → IsWhole (of_integer z)
IsWhole-profile (pos n) h = let e = pos_small n h in omega (arith, e)
IsWhole-profile (negsuc n) h = let e = negsuc_small n h in omega (arith, e)

as_i64-integer : (z : ℤ) → in_profile z ≡ true → as_i64 (of_integer z) ≡ Some z
as_i64-integer (pos n) h = let e = pos_small n h in let t : nat_lt n (2 ^ 63) ≡ true = grind (arith, e) in ap (λ (b : Bool). cond b (Some (pos n)) None) t
as_i64-integer (negsuc n) h = refl

-- ---- a cell

IsTidy-datum : (column : ColumnSchema) (d : Datum) → fit column d ≡ d → IsTidy (datum_data d)
IsTidy-datum column Null h = tt
IsTidy-datum column (Words text) h = tt
IsTidy-datum column (Whole z) h = IsWhole-profile z (kept_profile column.kind column.optional z h)
IsTidy-datum column (Truth b) h = tt

depth-datum : (d : Datum) → depth (datum_data d) ≡ 0
depth-datum Null = refl
depth-datum (Words text) = refl
depth-datum (Whole z) = refl
depth-datum (Truth b) = refl

datum_of-datum : (column : ColumnSchema) (d : Datum) → fit column d ≡ d → datum_of (datum_data d) ≡ Some d
datum_of-datum column Null h = refl
datum_of-datum column (Words text) h = refl
datum_of-datum column (Whole z) h =
    let p = kept_profile column.kind column.optional z h in
    ap (λ (o : Option ℤ). option_and_then whole_in_profile o) (as_i64-integer z p) ∙ ap (λ (b : Bool). cond b (Some (Whole z)) None) p
datum_of-datum column (Truth b) h = refl

-- ---- the object is tidy and flat

module _ where
  HasTidy-with_cells : (columns : List ColumnSchema) (cells : List Datum) (ms : Members) → fitted columns cells ≡ cells → HasTidy ms → HasTidy (with_cells columns cells ms)
  HasTidy-with_cells [] cells ms h t = t
  HasTidy-with_cells (c ∷ cs) [] ms h t = t
  HasTidy-with_cells (c ∷ cs) (d ∷ ds) ms h t =
      let head : fit c d ≡ d = cc in
      let tail : fitted cs ds ≡ ds = cc in
      HasTidy-with_cells cs ds (put c.name (datum_data d) ms) tail (has_tidy-put c.name (datum_data d) ms (IsTidy-datum c d head) t)

  flat-with_cells : (columns : List ColumnSchema) (cells : List Datum) (ms : Members) → members_depth ms ≤ 0 → members_depth (with_cells columns cells ms) ≤ 0
  flat-with_cells [] cells ms h = h
  flat-with_cells (c ∷ cs) [] ms h = h
  flat-with_cells (c ∷ cs) (d ∷ ds) ms h =
      let e = depth-datum d in
      flat-with_cells cs ds (put c.name (datum_data d) ms) (members_depth-put c.name (datum_data d) ms 0 (omega (arith, e)) h)

module _ (columns : List ColumnSchema) (row : Raw) where
  abbrev marks_member : Members
  marks_member = put (codes "_changed") (string (marks_text columns row.marks)) no_members

  abbrev status_member : Members
  status_member = put (codes "_status") (string (status_word row.status)) marks_member

  HasTidy-own : HasTidy (own_members columns row)
  HasTidy-own =
      has_tidy-put (codes "id") (string row.id) status_member tt
      (has_tidy-put (codes "_status") (string (status_word row.status)) marks_member tt
      (has_tidy-put (codes "_changed") (string (marks_text columns row.marks)) no_members tt tt))

  flat-own : members_depth (own_members columns row) ≤ 0
  flat-own =
      members_depth-put (codes "id") (string row.id) status_member 0 (omega arith)
      (members_depth-put (codes "_status") (string (status_word row.status)) marks_member 0 (omega arith)
      (members_depth-put (codes "_changed") (string (marks_text columns row.marks)) no_members 0 (omega arith) (omega arith)))

  pub IsTidy-row : Fits columns row → IsTidy (row_data columns row)
  IsTidy-row fits = HasTidy-with_cells columns row.cells (own_members columns row) fits.cells HasTidy-own

  pub shallow-row : depth (row_data columns row) ≤ max_depth
  shallow-row = let e = flat-with_cells columns row.cells (own_members columns row) flat-own in omega (arith, e)

  pub read-row : Fits columns row → read (compact_text (row_data columns row)) ≡ Some (row_data columns row)
  read-row fits = read_compact (row_data columns row) (IsTidy-row fits) shallow-row

-- ---- looking into the object

differ : (a b : List ℕ) → bytes_eq b a ≡ false → a ≡ b → ⊥
differ a b h e = let t : bytes_eq b a ≡ true = (bytes_eq-Decides b a).1 (sym e) in cc

beside_cells : (q : List ℕ) (columns : List ColumnSchema) (cells : List Datum) (ms : Members) → list_any (λ c. bytes_eq c.name q) columns ≡ false → get_member q (with_cells columns cells ms) ≡ get_member q ms
beside_cells q [] cells ms h = refl
beside_cells q (c ∷ cs) [] ms h = refl
beside_cells q (c ∷ cs) (d ∷ ds) ms h =
    let n = neither (bytes_eq c.name q) (list_any (λ e. bytes_eq e.name q) cs) h in
    beside_cells q cs ds (put c.name (datum_data d) ms) n.1 ∙ get_member-put_other q c.name (datum_data d) ms (differ q c.name n.0)

cell_back : (columns : List ColumnSchema) (c : ColumnSchema) (d : Datum) (ms : Members) → get_member c.name ms ≡ Some (datum_data d) → fit c d ≡ d → cell_in (object ms) c ≡ Some d
cell_back columns c d ms h fits =
    ap (λ (o : Option Data). o >>= λ v. option_map (fit c) (datum_of v)) h
    ∙ ap (λ (o : Option Datum). option_map (fit c) o) (datum_of-datum c d fits)
    ∙ ap Some fits

cells_back : (columns : List ColumnSchema) (cells : List Datum) (ms : Members) → are_distinct (λ c. c.name) columns ≡ true → fitted columns cells ≡ cells → each (cell_in (object (with_cells columns cells ms))) columns ≡ Some cells
cells_back [] cells ms h fits = let e : [] ≡ cells = fits in ap Some e
cells_back (c ∷ cs) [] ms h fits = cc
cells_back (c ∷ cs) (d ∷ ds) ms h fits =
    let t = both (not (list_any (λ e. bytes_eq e.name c.name) cs)) (are_distinct (λ e. e.name) cs) h in
    let head : fit c d ≡ d = cc in
    let tail : fitted cs ds ≡ ds = cc in
    let more : Members = put c.name (datum_data d) ms in
    let found : get_member c.name (with_cells cs ds more) ≡ Some (datum_data d) = beside_cells c.name cs ds more (falsely _ t.0) ∙ get_member-put c.name (datum_data d) ms in
    ap (λ (o : Option Datum). o >>= λ y. option_map (λ ys. y ∷ ys) (each (cell_in (object (with_cells cs ds more))) cs)) (cell_back cs c d (with_cells cs ds more) found head)
    ∙ ap (λ (o : Option (List Datum)). option_map (λ ys. d ∷ ys) o) (cells_back cs ds more t.1 tail)

not_reserved : (q : List ℕ) (columns : List ColumnSchema) → ((name : List ℕ) → is_reserved_column name ≡ false → bytes_eq name q ≡ false) → list_all is_well_named columns ≡ true → list_any (λ c. bytes_eq c.name q) columns ≡ false
not_reserved q [] free h = refl
not_reserved q (c ∷ cs) free h =
    let t = both (is_well_named c) (list_all is_well_named cs) h in
    ap (λ (x : Bool). x || list_any (λ d. bytes_eq d.name q) cs) (free c.name (falsely _ (both _ (not (is_reserved_column c.name)) t.0).1)) ∙ not_reserved q cs free t.1

free_id : (name : List ℕ) → is_reserved_column name ≡ false → bytes_eq name (codes "id") ≡ false
unfolding is_reserved_column
free_id name h = (neither (bytes_eq name (codes "id")) _ h).0

free_status : (name : List ℕ) → is_reserved_column name ≡ false → bytes_eq name (codes "_status") ≡ false
unfolding is_reserved_column
free_status name h = (neither (bytes_eq name (codes "_status")) _ (neither (bytes_eq name (codes "id")) _ h).1).0

free_changed : (name : List ℕ) → is_reserved_column name ≡ false → bytes_eq name (codes "_changed") ≡ false
unfolding is_reserved_column
free_changed name h = (neither (bytes_eq name (codes "_status")) _ (neither (bytes_eq name (codes "id")) _ h).1).1

status_back : (s : Status) → status_named (status_word s) ≡ Some s
status_back Created = refl
status_back Updated = refl
status_back Deleted = refl
status_back Synced = refl

-- ---- the row is read back

module _ (columns : List ColumnSchema) (sound : AreSound columns) (row : Raw) (fits : Fits columns row) where
  abbrev whole : Data
  whole = row_data columns row

  text_back : (q text : List ℕ) → ((name : List ℕ) → is_reserved_column name ≡ false → bytes_eq name q ≡ false) → get_member q (own_members columns row) ≡ Some (string text) → text_at q whole ≡ Some text
  text_back q text free h = ap (λ (o : Option Data). o >>= as_str) (beside_cells q columns row.cells (own_members columns row) (not_reserved q columns free sound.named) ∙ h)

  id_back : text_at (codes "id") whole ≡ Some row.id
  id_back = text_back (codes "id") row.id free_id (get_member-put (codes "id") (string row.id) (status_member columns row))

  word_back : text_at (codes "_status") whole ≡ Some (status_word row.status)
  word_back = text_back (codes "_status") (status_word row.status) free_status
      (get_member-put_other (codes "_status") (codes "id") (string row.id) (status_member columns row) (differ (codes "_status") (codes "id") refl)
      ∙ get_member-put (codes "_status") (string (status_word row.status)) (marks_member columns row))

  names_back : text_at (codes "_changed") whole ≡ Some (marks_text columns row.marks)
  names_back = text_back (codes "_changed") (marks_text columns row.marks) free_changed
      (get_member-put_other (codes "_changed") (codes "id") (string row.id) (status_member columns row) (differ (codes "_changed") (codes "id") refl)
      ∙ get_member-put_other (codes "_changed") (codes "_status") (string (status_word row.status)) (marks_member columns row) (differ (codes "_changed") (codes "_status") refl)
      ∙ get_member-put (codes "_changed") (string (marks_text columns row.marks)) no_members)

  abbrev with_marks : List ℕ → Status → List ℕ → Option Raw
  with_marks id status marks = each (cell_in whole) columns >>= λ cells. Some (record { id = id; status = status; marks = marks; cells = cells })

  abbrev with_names : List ℕ → Status → Option Raw
  with_names id status = text_at (codes "_changed") whole >>= λ names. marks_in columns names >>= λ marks. with_marks id status marks

  abbrev with_word : List ℕ → Option Raw
  with_word id = text_at (codes "_status") whole >>= λ word. status_named word >>= λ status. with_names id status

  pub row_in-data : row_in columns whole ≡ Some row
  unfolding row_in
  row_in-data =
      ap (λ (o : Option (List ℕ)). o >>= λ text. id_in text >>= λ id. with_word id) id_back
      ∙ ap (λ (b : Bool). (cond b (Some row.id) None) >>= λ id. with_word id) fits.id
      ∙ ap (λ (o : Option (List ℕ)). o >>= λ word. status_named word >>= λ status. with_names row.id status) word_back
      ∙ ap (λ (o : Option Status). o >>= λ status. with_names row.id status) (status_back row.status)
      ∙ ap (λ (o : Option (List ℕ)). o >>= λ names. marks_in columns names >>= λ marks. with_marks row.id row.status marks) names_back
      ∙ ap (λ (o : Option (List ℕ)). o >>= λ marks. with_marks row.id row.status marks) (marks_in-text columns sound row.marks fits.marks)
      ∙ ap (λ (o : Option (List Datum)). o >>= λ cells. Some (record { id = row.id; status = row.status; marks = row.marks; cells = cells })) (cells_back columns row.cells (own_members columns row) sound.distinct fits.cells)

-- ---- what is read fits, and its encoding is the bytes

fitted-each : (d : Data) (columns : List ColumnSchema) (cells : List Datum) → each (cell_in d) columns ≡ Some cells → fitted columns cells ≡ cells
fitted-each d [] cells h = let e : [] ≡ cells = cc in e
fitted-each d (c ∷ cs) cells h =
    let a = bound (cell_in d c) (λ y. option_map (λ ys. y ∷ ys) (each (cell_in d) cs)) cells h in
    let b = mapped (each (cell_in d) cs) (λ ys. a.0 ∷ ys) cells a.2 in
    let v = bound (get c.name d) (λ v. option_map (fit c) (datum_of v)) a.0 a.1 in
    let x = mapped (datum_of v.0) (fit c) a.0 v.2 in
    let again : fit c a.0 ≡ a.0 = subst (λ (y : Datum). fit c y ≡ y) x.2 (fit-again c x.0) in
    let all : fitted (c ∷ cs) (a.0 ∷ b.0) ≡ a.0 ∷ b.0 =
    ap (λ (y : Datum). y ∷ fitted cs b.0) again ∙ ap (λ (ys : List Datum). a.0 ∷ ys) (fitted-each d cs b.0 b.1) in
    subst (λ (ys : List Datum). fitted (c ∷ cs) ys ≡ ys) b.2 all

id_in-is : (text id : List ℕ) (b : Bool) → is_id text ≡ b → cond b (Some text) None ≡ Some id → is_id id ≡ true
id_in-is text id true is h = let e : text ≡ id = cc in subst (λ (i : List ℕ). is_id i ≡ true) e is
id_in-is text id false is h = cc

Fits-row_in : (columns : List ColumnSchema) (d : Data) (row : Raw) → row_in columns d ≡ Some row → Fits columns row
unfolding row_in
Fits-row_in columns d row h =
    let a = bound (text_at (codes "id") d) _ row h in
    let b = bound (id_in a.0) _ row a.2 in
    let e = bound (text_at (codes "_status") d) _ row b.2 in
    let f = bound (status_named e.0) _ row e.2 in
    let g = bound (text_at (codes "_changed") d) _ row f.2 in
    let m = bound (marks_in columns g.0) _ row g.2 in
    let s = bound (each (cell_in d) columns) (λ cells. Some (record { id = b.0; status = f.0; marks = m.0; cells = cells })) row m.2 in
    let is : Raw = record { id = b.0; status = f.0; marks = m.0; cells = s.0 } in
    let same : is ≡ row = cc in
    subst (λ (r : Raw). Fits columns r) same (record { id = id_in-is a.0 b.0 (is_id a.0) refl b.1; marks = are_marks-in columns g.0 m.0 m.1; cells = fitted-each d columns s.0 s.1 })

if_encoded-is : (table : TableSchema) (bytes : List ℕ) (read row : Raw) (b : Bool) → bytes_eq (encoding table read) bytes ≡ b → cond b (Some read) None ≡ Some row → encoding table row ≡ bytes
if_encoded-is table bytes read row true is h = let e : read ≡ row = cc in subst (λ (r : Raw). encoding table r ≡ bytes) e ((bytes_eq-Decides (encoding table read) bytes).0 is)
if_encoded-is table bytes read row false is h = cc

pub kept_row-is : (table : TableSchema) (bytes : List ℕ) (row : Raw) → kept_row table bytes ≡ Some row → IsRowOf table bytes row
unfolding kept_row
kept_row-is table bytes row h =
    let a = bound (json_of bytes) (λ d. row_in table.columns d >>= λ read. if_encoded table bytes read) row h in
    let b = bound (row_in table.columns a.0) (λ read. if_encoded table bytes read) row a.2 in
    let same : b.0 ≡ row = only (bytes_eq (encoding table b.0) bytes) b.0 row b.2 in
    (Fits-row_in table.columns a.0 row (b.1 ∙ ap Some same), if_encoded-is table bytes b.0 row (bytes_eq (encoding table b.0) bytes) refl b.2)
  where
    only : (t : Bool) (read row : Raw) → cond t (Some read) None ≡ Some row → read ≡ row
    only true read row h = cc
    only false read row h = cc

-- ---- the encoding of a row is found

pub kept_row-found : (table : TableSchema) (bytes : List ℕ) (row : Raw) → AreSound table.columns → IsUtf8 bytes → Fits table.columns row → encoding table row ≡ bytes → kept_row table bytes ≡ Some row
unfolding kept_row encoding json_of
kept_row-found table bytes row sound utf8 fits is =
    let found : json_of bytes ≡ Some (row_data table.columns row) =
    ap (λ (b : Bool). cond b (read bytes) None) (is_utf8-from_IsUtf8 bytes utf8) ∙ ap (λ (bs : List ℕ). read bs) (sym is) ∙ read-row table.columns row fits in
    ap (λ (o : Option Data). o >>= λ d. row_in table.columns d >>= λ read. if_encoded table bytes read) found
    ∙ ap (λ (o : Option Raw). o >>= λ read. if_encoded table bytes read) (row_in-data table.columns sound row fits)
    ∙ ap (λ (b : Bool). cond b (Some row) None) ((bytes_eq-Decides (encoding table row) bytes).1 is)

pub unique : (table : TableSchema) (row other : Raw) → AreSound table.columns → Fits table.columns row → Fits table.columns other → encoding table row ≡ encoding table other → row ≡ other
unfolding encoding
unique table row other sound fits fits_too is =
    let objects : Some (row_data table.columns row) ≡ Some (row_data table.columns other) = sym (read-row table.columns row fits) ∙ ap (λ (bs : List ℕ). read bs) is ∙ read-row table.columns other fits_too in
    let same : row_data table.columns row ≡ row_data table.columns other = cc in
    let rows : Some row ≡ Some other = sym (row_in-data table.columns sound row fits) ∙ ap (λ (d : Data). row_in table.columns d) same ∙ row_in-data table.columns sound other fits_too in
    cc
