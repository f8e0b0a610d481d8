-- The bodies that are kept, after rows are put, and the values.
use Rattle.std.proofs.Common.{◌≡◌, ℕ, ◌<◌, List, [], ◌∷◌, length, map, find, Bool, true, false, ◌&&◌, cond, Option, Some, None, option_map, bytes_eq, Ordering, Less, Equal, Greater, refl, sym, ap, ap₂, ◌∙◌, subst}
use Rattle.std.specs.Prelude.{option_and_then}
use Rattle.std.specs.Option.{option_or}
use Rattle.std.specs.List.{AllByRecursion}
use Rattle.std.specs.Ordering.{ordering_then, is_eq}
use Rattle.std.proofs.lemmas.Bool.{and_parts, and_from, both_ways}
use Rattle.std.proofs.lemmas.Cmp.{nat_list_cmp_total}
use Rattle.std.proofs.lemmas.List.Quantifiers.{position-Some}
use Rattle.std.proofs.lemmas.Map.Text.{is_eq-slice_cmp}
use Rattle.melon_schema.specs.Places.{table_named}
use Rattle.melon_schema.specs.declared.schema.TableSchema.{TableSchema}
use Rattle.melon_raw.specs.Rows.{Key, is_key, table_at, no_table}
use Rattle.melon_outside.specs.declared.kept.KeptKey.{KeptKey}
use Rattle.melon_outside.specs.declared.kept.KeptRow.{KeptRow}
use Rattle.melon_outside.specs.declared.kept.KeptValue.{KeptValue}
use Rattle.melon_outside.specs.Ascending.{with_item, with_items, ascends}
use Rattle.melon_outside.specs.Kept.{key_cmp, key_of, name_of, text_cmp}
use Rattle.melon_outside.proofs.Places.{key_total}
use Rattle.melon_wire.specs.Keys.{key_at}
use Rattle.melon_wire.proofs.KeyOrder.{split, bytes_same, same_bytes, is_key_same, is_key_refl}
use Rattle.melon_log.specs.ServerRows.{ServerRows, at}
use Rattle.melon_log.specs.Laws.{NamesApart}
use Rattle.melon_backend.specs.declared.put.Put.{Put}
use Rattle.melon_backend.specs.Bodies.{body}
use Rattle.melon_backend.specs.Rows.{with_put, with_puts}
use Rattle.melon_backend.specs.Backends.{number_of, value_in}
use Rattle.melon_backend.specs.Pushing.{row_filed}
use Rattle.melon_backend.specs.Drafts.{key_put, IsPutWithin}
use Rattle.melon_backend.specs.Keeps.{body_of, body_in, body_at, body_under}
use Rattle.melon_backend.proofs.Finding.{item_of-with_item, first_once}
use Rattle.melon_backend.proofs.Puts.{Ascends, ascends-put, at-put, length-set}
use Rattle.melon_backend.proofs.Stood.{place_found}

-- ---- keys of rows that are kept

abbrev pub same_key : KeptKey → KeptKey → Bool
same_key a b = bytes_eq a.table b.table && bytes_eq a.id b.id

abbrev pub kept_key : List ℕ → List ℕ → KeptKey
kept_key table id = record { table = table; id = id }

both_equal : (o p : Ordering) → is_eq (ordering_then o p) ≡ (is_eq o && is_eq p)
both_equal Less p = refl
both_equal Equal p = refl
both_equal Greater p = refl

same_key_is : (a b : KeptKey) → is_eq (key_cmp a b) ≡ same_key a b
same_key_is a b = both_equal (text_cmp a.table b.table) (text_cmp a.id b.id) ∙ ap₂ ◌&&◌ (is_eq-slice_cmp a.table b.table) (is_eq-slice_cmp a.id b.id)

kept_path : (a b : KeptKey) → a.table ≡ b.table → a.id ≡ b.id → a ≡ b
kept_path a b t i = λ n. record { table = t n; id = i n }

same_tables : (a b : KeptKey) → same_key a b ≡ true → a.table ≡ b.table
same_tables a b e = same_bytes a.table b.table (and_parts (bytes_eq a.table b.table) (bytes_eq a.id b.id) e).0

same_ids : (a b : KeptKey) → same_key a b ≡ true → a.id ≡ b.id
same_ids a b e = same_bytes a.id b.id (and_parts (bytes_eq a.table b.table) (bytes_eq a.id b.id) e).1

same_key_path : (a b : KeptKey) → same_key a b ≡ true → a ≡ b
same_key_path a b e = kept_path a b (same_tables a b e) (same_ids a b e)

same_key_from : (a b : KeptKey) → a.table ≡ b.table → a.id ≡ b.id → same_key a b ≡ true
same_key_from a b t i = and_from (bytes_eq a.table b.table) (bytes_eq a.id b.id) (bytes_same a.table b.table t) (bytes_same a.id b.id i)

-- ---- one kept row more

body_chosen : (b : Bool) (r : KeptRow) (was : Option KeptRow) → option_map body_of (cond b (Some r) was) ≡ cond b (Some r.body) (option_map body_of was)
body_chosen true r was = refl
body_chosen false r was = refl

module _ (x : KeptKey) where
  body-with : (r : KeptRow) (rows : List KeptRow) → body_in x.table x.id (with_item key_cmp key_of r rows) ≡ cond (same_key (key_of r) x) (Some r.body) (body_in x.table x.id rows)
  body-with r rows =
      ap (option_map body_of) (item_of-with_item key_cmp key_of key_total same_key same_key_is same_key_path r x rows)
      ∙ body_chosen (same_key (key_of r) x) r (find (λ s. same_key (key_of s) x) rows)

  -- no later row has the key of the first
  body_once : (r : KeptRow) (rows : List KeptRow) → ascends key_cmp key_of (r ∷ rows) ≡ true → same_key (key_of r) x ≡ true → body_in x.table x.id rows ≡ None
  body_once r rows up e =
      sym (ap (λ (k : KeptKey). body_in k.table k.id rows) (same_key_path (key_of r) x e))
      ∙ ap (option_map body_of) (first_once key_cmp key_of key_total same_key same_key_is same_key_path r rows up)

  -- rows that ascend are found among all into which they are put
  pub body-ascending : (left was : List KeptRow) → ascends key_cmp key_of left ≡ true → body_in x.table x.id (with_items key_cmp key_of left was) ≡ option_or (body_in x.table x.id left) (body_in x.table x.id was)
  body-ascending [] was up = refl
  body-ascending (k ∷ left) was up =
      let later : ascends key_cmp key_of left ≡ true = (and_parts _ (ascends key_cmp key_of left) up).1 in
      body-ascending left (with_item key_cmp key_of k was) later
      ∙ (ap (option_or (body_in x.table x.id left)) (body-with k was) ∙ put (same_key (key_of k) x) refl)
    where
      put : (b : Bool) → same_key (key_of k) x ≡ b
          → option_or (body_in x.table x.id left) (cond (same_key (key_of k) x) (Some k.body) (body_in x.table x.id was)) ≡ option_or (body_in x.table x.id (k ∷ left)) (body_in x.table x.id was)
      put true e = rw e (rw (body_once k left up e) refl)
      put false e = rw e refl

-- ---- the same of a backend's rows

module _ (schema : List TableSchema) (apart : NamesApart schema) where
  abbrev name_at : ℕ → List ℕ
  name_at t = (table_at schema t).name

  pub named_at : (table : List ℕ) (t : ℕ) → table_named table schema ≡ Some t → (t < length schema) × (table ≡ name_at t)
  named_at table t e =
      let f = position-Some (λ (s : TableSchema). bytes_eq table s.name) schema t no_table e in
      (f.0, same_bytes table (name_at t) f.1)

  module _ (rows : ServerRows) (p : Put) (within : p.table < length rows) (declared : p.table < length schema) (up : Ascends rows) where
    found : (x : Key) → at (with_put rows p) x ≡ cond (is_key x (key_put p)) (Some p.row) (at rows x)
    found x = at-put rows p within up x

    module _ (table id : List ℕ) where
      abbrev is_own : Bool
      is_own = same_key (key_of (row_filed schema p)) (kept_key table id)

      own : is_own ≡ true → body_under schema (at (with_put rows p)) table id ≡ Some (body (table_at schema p.table) p.row)
      own e =
          let tables : name_at p.table ≡ table = same_tables (key_of (row_filed schema p)) (kept_key table id) e in
          let ids : p.row.id ≡ id = same_ids (key_of (row_filed schema p)) (kept_key table id) e in
          let place : table_named table schema ≡ Some p.table = ap (λ (n : List ℕ). table_named n schema) (sym tables) ∙ place_found schema apart p.table (table_named (name_at p.table) schema) declared refl in
          let same : key_at p.table id ≡ key_put p = ap (key_at p.table) (sym ids) in
          let row : at (with_put rows p) (key_at p.table id) ≡ Some p.row =
          found (key_at p.table id) ∙ ap (λ (b : Bool). cond b (Some p.row) (at rows (key_at p.table id))) (ap (λ (k : Key). is_key k (key_put p)) same ∙ is_key_refl (key_put p)) in
          ap (option_and_then (body_at schema (at (with_put rows p)) id)) place ∙ ap (option_map (body (table_at schema p.table))) row

      off : is_own ≡ false → (t : ℕ) → table ≡ name_at t → is_key (key_at t id) (key_put p) ≡ false
      off e t there = split (is_key (key_at t id) (key_put p))
          (λ f.
          let one : key_at t id ≡ key_put p = is_key_same (key_at t id) (key_put p) f in
          let tables : name_at p.table ≡ table = sym (there ∙ ap (λ (k : Key). name_at k.table) one) in
          absurd (both_ways is_own e (same_key_from (key_of (row_filed schema p)) (kept_key table id) tables (sym (ap (λ (k : Key). k.id) one)))))
          (λ f. f)

      other : is_own ≡ false → (o : Option ℕ) → table_named table schema ≡ o → body_under schema (at (with_put rows p)) table id ≡ body_under schema (at rows) table id
      other e None place = ap (option_and_then (body_at schema (at (with_put rows p)) id)) place ∙ sym (ap (option_and_then (body_at schema (at rows) id)) place)
      other e (Some t) place =
          let there = named_at table t place in
          let row : at (with_put rows p) (key_at t id) ≡ at rows (key_at t id) = found (key_at t id) ∙ ap (λ (b : Bool). cond b (Some p.row) (at rows (key_at t id))) (off e t there.1) in
          ap (option_and_then (body_at schema (at (with_put rows p)) id)) place
          ∙ (ap (option_map (body (table_at schema t))) row
          ∙ sym (ap (option_and_then (body_at schema (at rows) id)) place))

      body-put : body_under schema (at (with_put rows p)) table id ≡ cond is_own (Some (body (table_at schema p.table) p.row)) (body_under schema (at rows) table id)
      body-put = split is_own
          (λ e. own e ∙ sym (ap (λ (b : Bool). cond b (Some (body (table_at schema p.table) p.row)) (body_under schema (at rows) table id)) e))
          (λ e. other e (table_named table schema) refl ∙ sym (ap (λ (b : Bool). cond b (Some (body (table_at schema p.table) p.row)) (body_under schema (at rows) table id)) e))

  -- Kept are the bodies of the rows.
  abbrev pub AreBodies : ServerRows → List KeptRow → Type 0
  AreBodies rows kept = (table id : List ℕ) → body_in table id kept ≡ body_under schema (at rows) table id

  pub bodies-puts : (ps : List Put) (rows : ServerRows) (kept : List KeptRow) → length rows ≡ length schema → AllByRecursion (IsPutWithin (length schema)) ps → Ascends rows → AreBodies rows kept
      → AreBodies (with_puts rows ps) (with_items key_cmp key_of (map (row_filed schema) ps) kept)
  bodies-puts [] rows kept long all up same = same
  bodies-puts (p ∷ ps) rows kept long all up same =
      let within : p.table < length rows = subst (λ (n : ℕ). p.table < n) (sym long) all.0 in
      bodies-puts ps (with_put rows p) (with_item key_cmp key_of (row_filed schema p) kept) (length-set rows p.table _ ∙ long) all.1 (ascends-put rows p within up)
      (λ table id. body-with (kept_key table id) (row_filed schema p) kept
      ∙ (ap (cond (same_key (key_of (row_filed schema p)) (kept_key table id)) (Some (body (table_at schema p.table) p.row))) (same table id)
      ∙ sym (body-put rows p within all.0 up table id)))

-- ---- values

number_chosen : (b : Bool) (v : KeptValue) (was : Option KeptValue) → option_map number_of (cond b (Some v) was) ≡ cond b (Some v.number) (option_map number_of was)
number_chosen true v was = refl
number_chosen false v was = refl

pub value-with : (name : List ℕ) (v : KeptValue) (values : List KeptValue) → value_in name (with_item text_cmp name_of v values) ≡ cond (bytes_eq v.name name) (Some v.number) (value_in name values)
value-with name v values =
    ap (option_map number_of) (item_of-with_item text_cmp name_of nat_list_cmp_total bytes_eq is_eq-slice_cmp same_bytes v name values)
    ∙ number_chosen (bytes_eq v.name name) v (find (λ w. bytes_eq w.name name) values)
