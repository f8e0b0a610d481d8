-- The body that is kept of a record, after a batch.
use Rattle.std.proofs.Common.{◌≡◌, ℕ, ◌<◌, List, [], ◌∷◌, length, find, Bool, true, false, ◌&&◌, cond, Option, Some, None, option_map, bytes_eq, filter_map, Ordering, Less, Equal, Greater, refl, sym, ap, ap₂, ◌∙◌, subst}
use Rattle.std.specs.List.{cons_option}
use Rattle.std.specs.Ordering.{ordering_then, is_eq}
use Rattle.std.specs.Cmp.{IsTotalOrder}
use Rattle.std.proofs.lemmas.Cmp.{nat_list_cmp_total}
use Rattle.std.proofs.lemmas.Map.Text.{is_eq-slice_cmp}
use Rattle.melon_schema.specs.declared.schema.TableSchema.{TableSchema}
use Rattle.melon_raw.specs.declared.raw.Raw.{Raw}
use Rattle.melon_raw.specs.Rows.{Key, is_key, table_at}
use Rattle.melon_raw.specs.Encoding.{encoding}
use Rattle.melon_table.proofs.Order.{split, and_left, and_right, both, bytes_same, same_bytes}
use Rattle.melon_outside.specs.declared.kept.KeptKey.{KeptKey}
use Rattle.melon_outside.specs.declared.kept.KeptRow.{KeptRow}
use Rattle.melon_outside.specs.declared.kept.KeptValue.{KeptValue}
use Rattle.melon_outside.specs.Ascending.{with_item, without_key, with_items, without_keys, ascends}
use Rattle.melon_outside.specs.Kept.{key_cmp, key_of, name_of, text_cmp}
use Rattle.melon_outside.proofs.Places.{key_total}
use Rattle.melon_change.specs.declared.change.Change.{Change}
use Rattle.melon_change.specs.Changes.{key, change_of}
use Rattle.melon_change.specs.Changes as changes
use Rattle.melon_change.proofs.After.{after_of, AreApart}
use Rattle.melon_change.proofs.Same.{is_key_same}
use Rattle.melon_board.specs.Batches.{removal_of, filing_of, removal, filing}
use Rattle.melon_board.specs.Keeps.{body_of, body_in}
use Rattle.melon_board.specs.Opening.{number_of, value_in}
use Rattle.melon_board.proofs.Finding.{item_of, item_of-with_item, item_of-without_key, first_once}
use Rattle.melon_board.proofs.Keyed.{none_step}

-- ---- keys of rows that are kept

abbrev pub same_key : KeptKey → KeptKey → Bool
same_key a b = bytes_eq a.table b.table && bytes_eq a.id b.id

abbrev pub kept_key : List ℕ → List ℕ → KeptKey
kept_key table id = record { table = table; id = id }

both_equal : (o p : Ordering) → is_eq (ordering_then o p) ≡ (is_eq o && is_eq p)
both_equal Less p = refl
both_equal Equal p = refl
both_equal Greater p = refl

same_key_is : (a b : KeptKey) → is_eq (key_cmp a b) ≡ same_key a b
same_key_is a b = both_equal (text_cmp a.table b.table) (text_cmp a.id b.id) ∙ ap₂ ◌&&◌ (is_eq-slice_cmp a.table b.table) (is_eq-slice_cmp a.id b.id)

key_path : (a b : KeptKey) → a.table ≡ b.table → a.id ≡ b.id → a ≡ b
key_path a b t i = λ n. record { table = t n; id = i n }

pub same_tables : (a b : KeptKey) → same_key a b ≡ true → a.table ≡ b.table
same_tables a b e = same_bytes a.table b.table (and_left (bytes_eq a.table b.table) (bytes_eq a.id b.id) e)

pub same_ids : (a b : KeptKey) → same_key a b ≡ true → a.id ≡ b.id
same_ids a b e = same_bytes a.id b.id (and_right (bytes_eq a.table b.table) (bytes_eq a.id b.id) e)

same_key_path : (a b : KeptKey) → same_key a b ≡ true → a ≡ b
same_key_path a b e = key_path a b (same_tables a b e) (same_ids a b e)

pub same_key_from : (a b : KeptKey) → a.table ≡ b.table → a.id ≡ b.id → same_key a b ≡ true
same_key_from a b t i = both (bytes_eq a.table b.table) (bytes_eq a.id b.id) (bytes_same a.table b.table t) (bytes_same a.id b.id i)

-- ---- bodies of rows put and removed

abbrev pub body_at : KeptKey → List KeptRow → Option (List ℕ)
body_at x rows = body_in x.table x.id rows

body_chosen : (b : Bool) (r : KeptRow) (was : Option KeptRow) → option_map body_of (cond b (Some r) was) ≡ cond b (Some r.body) (option_map body_of was)
body_chosen true r was = refl
body_chosen false r was = refl

body_dropped : (b : Bool) (was : Option KeptRow) → option_map body_of (cond b None was) ≡ cond b None (option_map body_of was)
body_dropped true was = refl
body_dropped false was = refl

module _ (x : KeptKey) where
  abbrev pub put_bodies : List KeptRow → Option (List ℕ) → Option (List ℕ)
  put_bodies [] was = was
  put_bodies (r ∷ rs) was = put_bodies rs (cond (same_key (key_of r) x) (Some r.body) was)

  abbrev pub removed_bodies : List KeptKey → Option (List ℕ) → Option (List ℕ)
  removed_bodies [] was = was
  removed_bodies (k ∷ ks) was = removed_bodies ks (cond (same_key k x) None was)

  body-with : (r : KeptRow) (rows : List KeptRow) → body_at x (with_item key_cmp key_of r rows) ≡ cond (same_key (key_of r) x) (Some r.body) (body_at x rows)
  body-with r rows =
      ap (option_map body_of) (item_of-with_item key_cmp key_of key_total same_key same_key_is same_key_path r x rows)
      ∙ body_chosen (same_key (key_of r) x) r (find (λ s. same_key (key_of s) x) rows)

  body-without : (k : KeptKey) (rows : List KeptRow) → body_at x (without_key key_cmp key_of k rows) ≡ cond (same_key k x) None (body_at x rows)
  body-without k rows =
      ap (option_map body_of) (item_of-without_key key_cmp key_of key_total same_key same_key_is same_key_path k x rows)
      ∙ body_dropped (same_key k x) (find (λ s. same_key (key_of s) x) rows)

  pub body-with_items : (rs rows : List KeptRow) → body_at x (with_items key_cmp key_of rs rows) ≡ put_bodies rs (body_at x rows)
  body-with_items [] rows = refl
  body-with_items (r ∷ rs) rows = body-with_items rs (with_item key_cmp key_of r rows) ∙ ap (put_bodies rs) (body-with r rows)

  pub body-without_keys : (ks : List KeptKey) (rows : List KeptRow) → body_at x (without_keys key_cmp key_of ks rows) ≡ removed_bodies ks (body_at x rows)
  body-without_keys [] rows = refl
  body-without_keys (k ∷ ks) rows = body-without_keys ks (without_key key_cmp key_of k rows) ∙ ap (removed_bodies ks) (body-without k rows)

-- no later row has the key of the first
pub body_once : (r : KeptRow) (rows : List KeptRow) → ascends key_cmp key_of (r ∷ rows) ≡ true → body_at (key_of r) rows ≡ None
body_once r rows up = ap (option_map body_of) (first_once key_cmp key_of key_total same_key same_key_is same_key_path r rows up)

-- ---- values

number_chosen : (b : Bool) (v : KeptValue) (was : Option KeptValue) → option_map number_of (cond b (Some v) was) ≡ cond b (Some v.number) (option_map number_of was)
number_chosen true v was = refl
number_chosen false v was = refl

pub value-with : (name : List ℕ) (v : KeptValue) (values : List KeptValue) → value_in name (with_item text_cmp name_of v values) ≡ cond (bytes_eq v.name name) (Some v.number) (value_in name values)
value-with name v values =
    ap (option_map number_of) (item_of-with_item text_cmp name_of nat_list_cmp_total bytes_eq is_eq-slice_cmp same_bytes v name values)
    ∙ number_chosen (bytes_eq v.name name) v (find (λ w. bytes_eq w.name name) values)

-- ---- changes of records by the names of their tables

module _ (schema : List TableSchema) (x : KeptKey) where
  -- the change is of the record of this key
  abbrev pub is_of : Change → Bool
  is_of c = same_key (kept_key (table_at schema c.table).name c.id) x

  -- none of them is
  abbrev pub AreOthers : List Change → Type 0
  AreOthers [] = Unit {0}
  AreOthers (c ∷ cs) = (is_of c ≡ false) × AreOthers cs

  put_other : (table : TableSchema) (id : List ℕ) (after : Option Raw) (rest : List KeptRow) (was : Option (List ℕ)) → same_key (kept_key table.name id) x ≡ false
      → put_bodies x (cons_option (filing_of table id after) rest) was ≡ put_bodies x rest was
  put_other table id None rest was off = refl
  put_other table id (Some row) rest was off = rw off refl

  removed_other : (table : TableSchema) (id : List ℕ) (after : Option Raw) (rest : List KeptKey) (was : Option (List ℕ)) → same_key (kept_key table.name id) x ≡ false
      → removed_bodies x (cons_option (removal_of table id after) rest) was ≡ removed_bodies x rest was
  removed_other table id None rest was off = rw off refl
  removed_other table id (Some row) rest was off = refl

  pub puts_others : (cs : List Change) (was : Option (List ℕ)) → AreOthers cs → put_bodies x (filter_map (filing schema) cs) was ≡ was
  puts_others [] was off = refl
  puts_others (c ∷ cs) was off = put_other (table_at schema c.table) c.id c.after (filter_map (filing schema) cs) was off.0 ∙ puts_others cs was off.1

  pub removes_others : (cs : List Change) (was : Option (List ℕ)) → AreOthers cs → removed_bodies x (filter_map (removal schema) cs) was ≡ was
  removes_others [] was off = refl
  removes_others (c ∷ cs) was off = removed_other (table_at schema c.table) c.id c.after (filter_map (removal schema) cs) was off.0 ∙ removes_others cs was off.1

  put_here : (table : TableSchema) (id : List ℕ) (after : Option Raw) (puts : List KeptRow) (removes : List KeptKey) (was : Option (List ℕ)) → same_key (kept_key table.name id) x ≡ true
      → ((b : Option (List ℕ)) → put_bodies x puts b ≡ b) → ((b : Option (List ℕ)) → removed_bodies x removes b ≡ b)
      → put_bodies x (cons_option (filing_of table id after) puts) (removed_bodies x (cons_option (removal_of table id after) removes) was) ≡ option_map (encoding table) after
  put_here table id None puts removes was on no_puts no_removes = rw on (no_puts (removed_bodies x removes None) ∙ no_removes None)
  put_here table id (Some row) puts removes was on no_puts no_removes = rw on (no_puts (Some (encoding table row)))

  abbrev pub enc : ℕ → Option Raw → Option (List ℕ)
  enc t row = option_map (encoding (table_at schema t)) row

  abbrev pub BodiesAfter : ℕ → List Change → Option Raw → Type 0
  BodiesAfter t cs before = put_bodies x (filter_map (filing schema) cs) (removed_bodies x (filter_map (removal schema) cs) (enc t before)) ≡ enc t (after_of (change_of (key t x.id) cs) before)

  -- ---- where the places of tables agree as their names do

  module _ (t : ℕ) (named : (c : Change) → c.table < length schema → is_of c ≡ is_key (key t x.id) (changes.key_of c)) where
    pub others_from : (cs : List Change) → AreApart (length schema) cs → change_of (key t x.id) cs ≡ None → AreOthers cs
    others_from [] apart none = tt
    others_from (c ∷ cs) apart none = let one = none_step (key t x.id) c cs none in (named c apart.0 ∙ one.0, others_from cs apart.3 one.1)

    step_here : (c : Change) (cs : List Change) (before : Option Raw) → AreApart (length schema) (c ∷ cs) → is_key (key t x.id) (changes.key_of c) ≡ true → BodiesAfter t (c ∷ cs) before
    step_here c cs before apart e =
        let same : key t x.id ≡ changes.key_of c = is_key_same (key t x.id) (changes.key_of c) e in
        let none : change_of (key t x.id) cs ≡ None = subst (λ (k : Key). change_of k cs ≡ None) (sym same) apart.2 in
        let others : AreOthers cs = others_from cs apart.3 none in
        let place : c.table ≡ t = sym (ap (λ (k : Key). k.table) same) in
        let made =
        put_here (table_at schema c.table) c.id c.after (filter_map (filing schema) cs) (filter_map (removal schema) cs) (enc t before) (named c apart.0 ∙ e) (λ b. puts_others cs b others) (λ b. removes_others cs b others) in
        made ∙ (ap (λ (u : ℕ). enc u c.after) place ∙ sym (rw e refl))

    step_other : (c : Change) (cs : List Change) (before : Option Raw) → AreApart (length schema) (c ∷ cs) → is_key (key t x.id) (changes.key_of c) ≡ false → BodiesAfter t cs before → BodiesAfter t (c ∷ cs) before
    step_other c cs before apart e ih =
        let off : is_of c ≡ false = named c apart.0 ∙ e in
        put_other (table_at schema c.table) c.id c.after (filter_map (filing schema) cs) (removed_bodies x (filter_map (removal schema) (c ∷ cs)) (enc t before)) off
        ∙ (ap (put_bodies x (filter_map (filing schema) cs)) (removed_other (table_at schema c.table) c.id c.after (filter_map (removal schema) cs) (enc t before) off)
        ∙ (ih ∙ rw e refl))

    -- the body of the record after the changes is the encoding of the row after
    pub bodies_after : (cs : List Change) (before : Option Raw) → AreApart (length schema) cs → BodiesAfter t cs before
    bodies_after [] before apart = refl
    bodies_after (c ∷ cs) before apart =
        let ih : BodiesAfter t cs before = bodies_after cs before apart.3 in
        split (is_key (key t x.id) (changes.key_of c)) (λ e. step_here c cs before apart e) (λ e. step_other c cs before apart e ih)
