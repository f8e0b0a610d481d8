-- A changes object and a reply within their forms are read back from what is written for them.
use Rattle.std.proofs.Common.{◌≡◌, ℕ, ◌<◌, ◌≤◌, ◌^◌, ℤ, pos, negsuc, int_le, nat_lt, Bool, true, false, not, ◌&&◌, ◌||◌, cond, filter, map, List, [], ◌∷◌, ◌++◌, Option, Some, None, Result, Ok, Ordering, Less, Equal, Greater, codes, nat_le, nat_cmp, is_lt, is_eq, refl, sym, ap, ◌∙◌, subst, arith, append_assoc, append-nil}
use Rattle.std.specs.List.{list_all, AllByRecursion}
use Rattle.std.specs.Prelude.{option_and_then}
use Rattle.std.specs.Str.{IsUtf8}
use Rattle.std.specs.Ordering.{match_ordering, ordering_reverse}
use Rattle.std.specs.Cmp.Lexicographic.{slice_cmp}
use Rattle.std.proofs.lemmas.Cmp.{nat_list_cmp_total}
use Rattle.std.proofs.lemmas.Map.Text.{is_eq-slice_cmp}
use Rattle.std.proofs.lemmas.Slice.Eq.{bytes_eq-Decides}
use Rattle.std.proofs.lemmas.Str.{is_utf8-from_IsUtf8}
use Rattle.serde_json.specs.Data.{Data, string, number, unsigned, Members, no_members, member, put, depth, items_depth, members_depth}
use Rattle.serde_json.specs.Find.{get_member, of_integer, as_i64}
use Rattle.serde_json.specs.View.{items_of}
use Rattle.serde_json.specs.Read.{read}
use Rattle.serde_json.specs.Written.{compact_text, has_float, items_have_float, members_have_float}
use Rattle.serde_json.proofs.Views.{get_member-put, get_member-put_other}
use Rattle.melon_schema.specs.Bytes.{json_of}
use Rattle.melon_schema.specs.Faults.{◌>>=◌, unless, or_fault, in_turn, each_read}
use Rattle.melon_schema.specs.Json.{named, count_of}
use Rattle.melon_schema.specs.Names.{is_id, is_reserved_column}
use Rattle.melon_schema.specs.Tidy.{IsWhole, IsTidy, AreTidy, HasTidy, AreAbove}
use Rattle.melon_schema.proofs.Each.{listed-items_of}
use Rattle.melon_schema.proofs.TidyBack.{read_compact, has_tidy-put, members_depth-put}
use Rattle.melon_raw.specs.declared.datum.Datum.{Datum}
use Rattle.melon_raw.specs.declared.datum.Datum.TheVariants.{Null, Words, Whole, Truth}
use Rattle.melon_raw.specs.declared.datum.OpField.{OpField}
use Rattle.melon_raw.specs.Datum.{in_profile, whole_in_profile}
use Rattle.melon_raw.specs.Order.{is_below}
use Rattle.melon_raw.specs.Encoding.{datum_data}
use Rattle.melon_raw.proofs.Encoded.{no_float-put, no_float-datum}
use Rattle.melon_raw.proofs.Fitting.{both}
use Rattle.melon_wire.specs.declared.changes.Remote.{Remote}
use Rattle.melon_wire.specs.declared.changes.TableChanges.{TableChanges}
use Rattle.melon_wire.specs.declared.changes.Changes.{Changes}
use Rattle.melon_wire.specs.declared.pull.PullReply.{PullReply}
use Rattle.melon_wire.specs.declared.wire_fault.WireFault.{WireFault}
use Rattle.melon_wire.specs.declared.wire_fault.WireFault.TheVariants.{NotJson, Number, BadId}
use Rattle.melon_wire.specs.Reading.{value_of, field_of, is_field, fields_of, id_at, row_of, id_of, table_of, changes_of, reply_of, changes_in, reply_in}
use Rattle.melon_wire.specs.Writing.{with_fields, id_member, row_data, rows_data, ids_data, table_data, with_tables, changes_data, reply_data, changes_text, reply_text}
use Rattle.melon_wire.specs.Forms.{names_ascend, is_in_range, may_be_field, IsSendable, IsTable, IsChanges, IsReply}

-- ---- order of names

less_from : (o : Ordering) → is_lt o ≡ true → o ≡ Less
less_from Less h = refl
less_from Equal h = cc
less_from Greater h = cc

less_is : (a b : List ℕ) → is_below a b ≡ true → slice_cmp nat_cmp a b ≡ Less
less_is a b h = less_from (slice_cmp nat_cmp a b) h

greater_is : (a b : List ℕ) → is_below a b ≡ true → slice_cmp nat_cmp b a ≡ Greater
greater_is a b h = nat_list_cmp_total.antisymm b a ∙ ap ordering_reverse (less_is a b h)

below_not_above : (a b : List ℕ) → slice_cmp nat_cmp b a ≡ Less → is_below a b ≡ true → ⊥
below_not_above a b less h = let g = greater_is a b h in cc

below_apart : (a b : List ℕ) → is_below a b ≡ true → a ≡ b → ⊥
below_apart a b h same =
    let l : slice_cmp nat_cmp a a ≡ Less = subst (λ (x : List ℕ). slice_cmp nat_cmp a x ≡ Less) (sym same) (less_is a b h) in
    below_not_above a a l (ap is_lt l)

-- ---- the members that pass a test, as they are put in one after another

abbrev kept : (List ℕ → Bool) → Members → List (List ℕ × Data)
kept p ms = filter (λ m. p m.0) (named ms)

abbrev AllBelow : List ℕ → List (List ℕ × Data) → Type 0
AllBelow k ms = AllByRecursion (λ m. is_below m.0 k ≡ true) ms

below_step : (b : Bool) (k l : List ℕ) (e : Data) (rest : List (List ℕ × Data)) → AllBelow k (cond b ((l, e) ∷ rest) rest) → AllBelow k rest
below_step true k l e rest h = h.1
below_step false k l e rest h = h

below_head : (k l : List ℕ) (e : Data) (rest : List (List ℕ × Data)) (b : Bool) → b ≡ true → AllBelow k (cond b ((l, e) ∷ rest) rest) → is_below l k ≡ true
below_head k l e rest true is h = h.0
below_head k l e rest false is h = cc

-- keys from k on that pass are none, where all that pass are below k
abbrev AllFrom : List ℕ → Members → Type 0
AllFrom k no_members = Unit {0}
AllFrom k (member l e ms) = (is_below l k ≡ true → ⊥) × AllFrom k ms

none_from : (p : List ℕ → Bool) (k : List ℕ) (ms : Members) → AllFrom k ms → AllBelow k (kept p ms) → kept p ms ≡ []
none_from p k no_members from below = refl
none_from p k (member l e ms) from below = go (p l) below (none_from p k ms from.1)
  where
    go : (b : Bool) → AllBelow k (cond b ((l, e) ∷ kept p ms) (kept p ms)) → (AllBelow k (kept p ms) → kept p ms ≡ []) → cond b ((l, e) ∷ kept p ms) (kept p ms) ≡ []
    go true h later = absurd (from.0 h.0)
    go false h later = later h

above_less : (l m : List ℕ) → slice_cmp nat_cmp m l ≡ Greater → slice_cmp nat_cmp l m ≡ Less
above_less l m h = nat_list_cmp_total.antisymm l m ∙ ap ordering_reverse h

from_above : (k l : List ℕ) (ms : Members) → slice_cmp nat_cmp k l ≡ Less → AreAbove l ms → AllFrom k ms
from_above k l no_members less above = tt
from_above k l (member m e ms) less above = (
  below_not_above m k (nat_list_cmp_total.trans k l m less (above_less l m above.0)),
  from_above k l ms less above.1,
)

tied : (a b : List ℕ) → slice_cmp nat_cmp a b ≡ Equal → a ≡ b
tied a b h = (bytes_eq-Decides a b).0 (sym (is_eq-slice_cmp a b) ∙ ap is_eq h)

-- a key that passes and is above all that pass goes to the end of them
kept_last_at : (o : Ordering) (p : List ℕ → Bool) (k l : List ℕ) (d e : Data) (ms : Members) → slice_cmp nat_cmp k l ≡ o → p k ≡ true → AreAbove l ms → AllBelow k (kept p (member l e ms))
    → (AllBelow k (kept p ms) → kept p (put k d ms) ≡ kept p ms ++ (k, d) ∷ [])
    → kept p (match_ordering o (member k d (member l e ms)) (member l d ms) (member l e (put k d ms))) ≡ kept p (member l e ms) ++ (k, d) ∷ []
kept_last_at Less p k l d e ms is passes above below later =
    let none : kept p (member l e ms) ≡ [] = none_from p k (member l e ms) (below_not_above l k is, from_above k l ms is above) below in
    ap (λ (b : Bool). cond b ((k, d) ∷ kept p (member l e ms)) (kept p (member l e ms))) passes
    ∙ ap (λ (rest : List (List ℕ × Data)). (k, d) ∷ rest) none ∙ ap (λ (front : List (List ℕ × Data)). front ++ (k, d) ∷ []) (sym none)
kept_last_at Equal p k l d e ms is passes above below later =
    let same = tied k l is in
    let l_passes : p l ≡ true = subst (λ (x : List ℕ). p x ≡ true) same passes in
    absurd (below_apart l k (below_head k l e (kept p ms) (p l) l_passes below) (sym same))
kept_last_at Greater p k l d e ms is passes above below later = go (p l) refl (later (below_step (p l) k l e (kept p ms) below))
  where
    go : (b : Bool) → p l ≡ b → kept p (put k d ms) ≡ kept p ms ++ (k, d) ∷ [] → cond b ((l, e) ∷ kept p (put k d ms)) (kept p (put k d ms)) ≡ cond b ((l, e) ∷ kept p ms) (kept p ms) ++ (k, d) ∷ []
    go true t ih = ap (λ (rest : List (List ℕ × Data)). (l, e) ∷ rest) ih
    go false t ih = ih

kept_last : (p : List ℕ → Bool) (k : List ℕ) (d : Data) (ms : Members) → p k ≡ true → HasTidy ms → AllBelow k (kept p ms) → kept p (put k d ms) ≡ kept p ms ++ (k, d) ∷ []
kept_last p k d no_members passes tidy below = ap (λ (b : Bool). cond b ((k, d) ∷ []) []) passes
kept_last p k d (member l e ms) passes tidy below = kept_last_at _ p k l d e ms refl passes tidy.0 below (kept_last p k d ms passes tidy.2)

below_append : (k l : List ℕ) (d : Data) (front : List (List ℕ × Data)) → AllBelow k front → is_below l k ≡ true → AllBelow k (front ++ (l, d) ∷ [])
below_append k l d [] all is = (is, tt)
below_append k l d (m ∷ front) all is = (all.0, below_append k l d front all.1 is)

-- ---- things put in under names that ascend

module _ {X : Type 0} (p : List ℕ → Bool) (name : X → List ℕ) (data_of : X → Data) where
  puts : List X → Members → Members
  puts [] ms = ms
  puts (x ∷ xs) ms = puts xs (put (name x) (data_of x) ms)

  abbrev pair : X → List ℕ × Data
  pair x = (name x, data_of x)

  abbrev Next : List (List ℕ × Data) → List X → Type 0
  Next done [] = Unit {0}
  Next done (x ∷ xs) = AllBelow (name x) done × Next done xs

  next_more : (done : List (List ℕ × Data)) (x : X) (xs : List X) → Next done xs → list_all (λ y. is_below (name x) (name y)) xs ≡ true → Next (done ++ pair x ∷ []) xs
  next_more done x [] next all = tt
  next_more done x (y ∷ ys) next all =
      let t = both (is_below (name x) (name y)) (list_all (λ z. is_below (name x) (name z)) ys) all in
      (below_append (name y) (name x) (data_of x) done next.0 t.0, next_more done x ys next.1 t.1)

  tidy_puts : (xs : List X) (ms : Members) → AllByRecursion (λ x. IsTidy (data_of x)) xs → HasTidy ms → HasTidy (puts xs ms)
  unfolding puts
  tidy_puts [] ms tidy h = h
  tidy_puts (x ∷ xs) ms tidy h = tidy_puts xs (put (name x) (data_of x) ms) tidy.1 (has_tidy-put (name x) (data_of x) ms tidy.0 h)

  depth_puts : (n : ℕ) (xs : List X) (ms : Members) → AllByRecursion (λ x. depth (data_of x) ≤ n) xs → members_depth ms ≤ n → members_depth (puts xs ms) ≤ n
  unfolding puts
  depth_puts n [] ms flat h = h
  depth_puts n (x ∷ xs) ms flat h = depth_puts n xs (put (name x) (data_of x) ms) flat.1 (members_depth-put (name x) (data_of x) ms n flat.0 h)

  floats_puts : (xs : List X) (ms : Members) → ((x : X) → has_float (data_of x) ≡ false) → members_have_float ms ≡ false → members_have_float (puts xs ms) ≡ false
  unfolding puts
  floats_puts [] ms none h = h
  floats_puts (x ∷ xs) ms none h = floats_puts xs (put (name x) (data_of x) ms) none (no_float-put (name x) (data_of x) ms (none x) h)

  kept_puts : (xs : List X) (ms : Members) → AllByRecursion (λ x. IsTidy (data_of x)) xs → HasTidy ms → list_all (λ x. p (name x)) xs ≡ true → names_ascend name xs ≡ true → Next (kept p ms) xs
      → kept p (puts xs ms) ≡ kept p ms ++ map pair xs
  unfolding puts
  kept_puts [] ms tidy h pass asc next = sym (append-nil (kept p ms))
  kept_puts (x ∷ xs) ms tidy h pass asc next =
      let t = both (p (name x)) (list_all (λ y. p (name y)) xs) pass in
      let a = both (list_all (λ y. is_below (name x) (name y)) xs) (names_ascend name xs) asc in
      let one : kept p (put (name x) (data_of x) ms) ≡ kept p ms ++ pair x ∷ [] = kept_last p (name x) (data_of x) ms t.0 h next.0 in
      kept_puts xs (put (name x) (data_of x) ms) tidy.1 (has_tidy-put (name x) (data_of x) ms tidy.0 h) t.1 a.1
      (subst (λ (done : List (List ℕ × Data)). Next done xs) (sym one) (next_more (kept p ms) x xs next.1 a.0))
      ∙ ap (λ (done : List (List ℕ × Data)). done ++ map pair xs) one
      ∙ append_assoc (kept p ms) (pair x ∷ []) (map pair xs)

  next_none : (xs : List X) → Next [] xs
  next_none [] = tt
  next_none (x ∷ xs) = (tt, next_none xs)

-- ---- each of a list read back

module _ {X Y : Type 0} (read : X → Result Y WireFault) (write : Y → X) where
  abbrev adding : List Y → X → Result (List Y) WireFault
  adding made x = read x >>= λ y. Ok (made ++ y ∷ [])

  turn_back : (made ys : List Y) → AllByRecursion (λ y. read (write y) ≡ Ok y) ys → in_turn adding made (map write ys) ≡ Ok (made ++ ys)
  turn_back made [] all = ap Ok (sym (append-nil made))
  turn_back made (y ∷ ys) all =
      ap (λ (r : Result Y WireFault). (r >>= λ z. Ok (made ++ z ∷ [])) >>= λ more. in_turn adding more (map write ys)) all.0
      ∙ turn_back (made ++ y ∷ []) ys all.1
      ∙ ap Ok (append_assoc made (y ∷ []) ys)

  each_back : (ys : List Y) → AllByRecursion (λ y. read (write y) ≡ Ok y) ys → each_read read (map write ys) ≡ Ok ys
  each_back ys all = turn_back [] ys all

all_map : {X : Type 0} (P Q : X → Type 0) → ((x : X) → P x → Q x) → (xs : List X) → AllByRecursion P xs → AllByRecursion Q xs
all_map P Q f [] h = tt
all_map P Q f (x ∷ xs) h = (f x h.0, all_map P Q f xs h.1)

all_true : {X : Type 0} (p : X → Bool) (Q : X → Type 0) → ((x : X) → p x ≡ true → Q x) → (xs : List X) → list_all p xs ≡ true → AllByRecursion Q xs
all_true p Q f [] h = tt
all_true p Q f (x ∷ xs) h = let t = both (p x) (list_all p xs) h in (f x t.0, all_true p Q f xs t.1)

falsely : (b : Bool) → not b ≡ true → b ≡ false
falsely true h = cc
falsely false h = refl

-- ---- values and fields

pos_small : (n : ℕ) → in_profile (pos n) ≡ true → n < 9007199254740992
pos_small n h = let t = both (int_le (negsuc 9007199254740990) (pos n)) _ h in let e : int_le (pos n) (pos 9007199254740991) ≡ true = t.1 in grind (arith, e)

negsuc_small : (n : ℕ) → in_profile (negsuc n) ≡ true → n < 9007199254740992
negsuc_small n h = let t = both (int_le (negsuc 9007199254740990) (negsuc n)) _ h in let e : int_le (negsuc 9007199254740990) (negsuc n) ≡ true = t.0 in grind (arith, e)

IsWhole-profile : (z : ℤ) → in_profile z ≡ true → IsWhole (of_integer z)
IsWhole-profile (pos n) h = let e = pos_small n h in omega (arith, e)
IsWhole-profile (negsuc n) h = let e = negsuc_small n h in omega (arith, e)

as_i64-integer : (z : ℤ) → in_profile z ≡ true → as_i64 (of_integer z) ≡ Some z
as_i64-integer (pos n) h = let e = pos_small n h in let t : nat_lt n (2 ^ 63) ≡ true = grind (arith, e) in ap (λ (b : Bool). cond b (Some (pos n)) None) t
as_i64-integer (negsuc n) h = refl

value_back : (v : Datum) → is_in_range v ≡ true → value_of (datum_data v) ≡ Ok v
value_back Null h = refl
value_back (Words text) h = refl
value_back (Whole z) h =
    ap (λ (o : Option ℤ). or_fault (option_and_then whole_in_profile o) Number) (as_i64-integer z h)
    ∙ ap (λ (b : Bool). or_fault (cond b (Some (Whole z)) None) Number) h
value_back (Truth b) h = refl

tidy_value : (v : Datum) → is_in_range v ≡ true → IsTidy (datum_data v)
tidy_value Null h = tt
tidy_value (Words text) h = tt
tidy_value (Whole z) h = IsWhole-profile z h
tidy_value (Truth b) h = tt

depth_value : (v : Datum) → depth (datum_data v) ≡ 0
depth_value Null = refl
depth_value (Words text) = refl
depth_value (Whole z) = refl
depth_value (Truth b) = refl

abbrev column_of : OpField → List ℕ
column_of f = f.column

abbrev field_data : OpField → Data
field_data f = datum_data f.value

free : List ℕ → Bool
free name = not (is_reserved_column name)

abbrev put_fields : List OpField → Members → Members
put_fields = puts free column_of field_data

with_fields-puts : (fs : List OpField) (ms : Members) → with_fields fs ms ≡ put_fields fs ms
unfolding puts
with_fields-puts [] ms = refl
with_fields-puts (f ∷ fs) ms = with_fields-puts fs (put f.column (datum_data f.value) ms)

good_field : (f : OpField) → may_be_field f ≡ true → (free f.column ≡ true) × (is_in_range f.value ≡ true)
unfolding free
good_field f h = both (not (is_reserved_column f.column)) (is_in_range f.value) h

all_free : (fs : List OpField) → list_all may_be_field fs ≡ true → list_all (λ f. free f.column) fs ≡ true
all_free [] h = refl
all_free (f ∷ fs) h =
    let t = both (may_be_field f) (list_all may_be_field fs) h in
    ap (λ (b : Bool). b && list_all (λ g. free g.column) fs) (good_field f t.0).0 ∙ all_free fs t.1

field_back : (f : OpField) → may_be_field f ≡ true → field_of (f.column, datum_data f.value) ≡ Ok f
field_back f h = ap (λ (r : Result Datum WireFault). r >>= λ value. Ok (record { column = f.column; value = value })) (value_back f.value (good_field f h).1)

not_id : (name : List ℕ) → free name ≡ true → codes "id" ≡ name → ⊥
unfolding free is_reserved_column
not_id name h same = let t : free (codes "id") ≡ true = subst (λ (x : List ℕ). free x ≡ true) (sym same) h in cc

id_kept : (fs : List OpField) (ms : Members) → list_all (λ f. free f.column) fs ≡ true → get_member (codes "id") (with_fields fs ms) ≡ get_member (codes "id") ms
id_kept [] ms h = refl
id_kept (f ∷ fs) ms h =
    let t = both (free f.column) (list_all (λ g. free g.column) fs) h in
    id_kept fs (put f.column (datum_data f.value) ms) t.1 ∙ get_member-put_other (codes "id") f.column (datum_data f.value) ms (not_id f.column t.0)

-- ---- rows

tidy_id : (id : List ℕ) → HasTidy (id_member id)
tidy_id id = (tt, tt, tt)

module _ (row : Remote) (is : IsSendable row) where
  tidy_fields : AllByRecursion (λ (f : OpField). IsTidy (field_data f)) row.fields
  tidy_fields = all_true may_be_field (λ (f : OpField). IsTidy (field_data f)) (λ f h. tidy_value f.value (good_field f h).1) row.fields is.fields

  fields_back : fields_of (with_fields row.fields (id_member row.id)) ≡ Ok row.fields
  unfolding free is_reserved_column
  fields_back =
      ap (λ (ms : Members). each_read field_of (filter is_field (named ms))) (with_fields-puts row.fields (id_member row.id))
      ∙ ap (each_read field_of) (kept_puts free column_of field_data row.fields (id_member row.id) tidy_fields (tidy_id row.id) (all_free row.fields is.fields) is.ascending (next_none free column_of field_data row.fields))
      ∙ each_back field_of (λ (f : OpField). (f.column, datum_data f.value)) row.fields (all_true may_be_field (λ (f : OpField). field_of (f.column, datum_data f.value) ≡ Ok f) field_back row.fields is.fields)

  id_found : get_member (codes "id") (with_fields row.fields (id_member row.id)) ≡ Some (string row.id)
  id_found = id_kept row.fields (id_member row.id) (all_free row.fields is.fields) ∙ get_member-put (codes "id") (string row.id) no_members

  id_back : id_at (row_data row) ≡ Ok row.id
  id_back = rw (id_found, is.id) refl

  row_back : row_of (row_data row) ≡ Ok row
  unfolding row_of
  row_back =
      ap (λ (r : Result (List ℕ) WireFault). r >>= λ id. fields_of (with_fields row.fields (id_member row.id)) >>= λ fields. Ok (record { id = id; fields = fields })) id_back
      ∙ ap (λ (r : Result (List OpField) WireFault). r >>= λ fields. Ok (record { id = row.id; fields = fields })) fields_back

  row_tidy : IsTidy (row_data row)
  row_tidy = subst HasTidy (sym (with_fields-puts row.fields (id_member row.id))) (tidy_puts free column_of field_data row.fields (id_member row.id) tidy_fields (tidy_id row.id))

row_depth : (row : Remote) → depth (row_data row) ≤ 1
row_depth row =
    let flat : members_depth (put_fields row.fields (id_member row.id)) ≤ 0 =
    depth_puts free column_of field_data 0 row.fields (id_member row.id) (all_depth row.fields) (omega arith) in
    let same : members_depth (with_fields row.fields (id_member row.id)) ≡ members_depth (put_fields row.fields (id_member row.id)) = ap members_depth (with_fields-puts row.fields (id_member row.id)) in
    omega (arith, flat, same)
  where
    all_depth : (fs : List OpField) → AllByRecursion (λ (f : OpField). depth (field_data f) ≤ 0) fs
    all_depth [] = tt
    all_depth (f ∷ fs) = (let e = depth_value f.value in omega (arith, e), all_depth fs)

row_float : (row : Remote) → has_float (row_data row) ≡ false
row_float row = ap members_have_float (with_fields-puts row.fields (id_member row.id)) ∙ floats_puts free column_of field_data row.fields (id_member row.id) (λ f. no_float-datum f.value) refl

-- ---- lists

module _ {X : Type 0} (data_of : X → Data) where
  items_tidy : (xs : List X) → AllByRecursion (λ x. IsTidy (data_of x)) xs → AreTidy (items_of (map data_of xs))
  items_tidy [] h = tt
  items_tidy (x ∷ xs) h = (h.0, items_tidy xs h.1)

  items_flat : (n : ℕ) (xs : List X) → ((x : X) → depth (data_of x) ≤ n) → items_depth (items_of (map data_of xs)) ≤ n
  items_flat n [] h = omega arith
  items_flat n (x ∷ xs) h = let one = h x in let rest = items_flat n xs h in omega (arith, one, rest)

  items_float : (xs : List X) → ((x : X) → has_float (data_of x) ≡ false) → items_have_float (items_of (map data_of xs)) ≡ false
  items_float [] h = refl
  items_float (x ∷ xs) h = ap (λ (b : Bool). b || items_have_float (items_of (map data_of xs))) (h x) ∙ items_float xs h

-- ---- tables

id_again : (id : List ℕ) → is_id id ≡ true → id_of (string id) ≡ Ok id
id_again id h = ap (λ (b : Bool). unless b BadId >>= λ good. Ok id) h

module _ (t : TableChanges) (is : IsTable t) where
  created_back : each_read row_of (map row_data t.created) ≡ Ok t.created
  created_back = each_back row_of row_data t.created (all_map IsSendable (λ row. row_of (row_data row) ≡ Ok row) row_back t.created is.created)

  updated_back : each_read row_of (map row_data t.updated) ≡ Ok t.updated
  updated_back = each_back row_of row_data t.updated (all_map IsSendable (λ row. row_of (row_data row) ≡ Ok row) row_back t.updated is.updated)

  deleted_back : each_read id_of (map string t.deleted) ≡ Ok t.deleted
  deleted_back = each_back id_of string t.deleted (all_true is_id (λ id. id_of (string id) ≡ Ok id) id_again t.deleted is.deleted)

  table_back : table_of (t.table, table_data t) ≡ Ok t
  unfolding table_of
  table_back = rw (is.named, listed-items_of (map row_data t.created), listed-items_of (map string t.deleted), listed-items_of (map row_data t.updated), created_back, deleted_back, updated_back) refl

  table_tidy : IsTidy (table_data t)
  table_tidy =
      has_tidy-put (codes "updated") (rows_data t.updated) (put (codes "deleted") (ids_data t.deleted) (put (codes "created") (rows_data t.created) no_members)) (rows_tidy t.updated is.updated)
      (has_tidy-put (codes "deleted") (ids_data t.deleted) (put (codes "created") (rows_data t.created) no_members) ids_tidy
      (has_tidy-put (codes "created") (rows_data t.created) no_members (rows_tidy t.created is.created) tt))
    where
      rows_tidy : (rows : List Remote) → AllByRecursion IsSendable rows → IsTidy (rows_data rows)
      rows_tidy rows all = items_tidy row_data rows (all_map IsSendable (λ row. IsTidy (row_data row)) row_tidy rows all)

      ids_tidy : IsTidy (ids_data t.deleted)
      ids_tidy = items_tidy string t.deleted (all_true is_id (λ id. IsTidy (string id)) (λ id h. tt) t.deleted is.deleted)

rows_depth : (rows : List Remote) → depth (rows_data rows) ≤ 2
rows_depth rows = let e = items_flat row_data 1 rows row_depth in omega (arith, e)

ids_depth : (ids : List (List ℕ)) → depth (ids_data ids) ≤ 2
ids_depth ids = let e = items_flat string 0 ids (λ id. omega arith) in omega (arith, e)

table_depth : (t : TableChanges) → depth (table_data t) ≤ 3
table_depth t =
    let flat = members_depth-put (codes "updated") (rows_data t.updated) (put (codes "deleted") (ids_data t.deleted) (put (codes "created") (rows_data t.created) no_members)) 2 (rows_depth t.updated)
    (members_depth-put (codes "deleted") (ids_data t.deleted) (put (codes "created") (rows_data t.created) no_members) 2 (ids_depth t.deleted)
    (members_depth-put (codes "created") (rows_data t.created) no_members 2 (rows_depth t.created) (omega arith))) in
    omega (arith, flat)

table_float : (t : TableChanges) → has_float (table_data t) ≡ false
table_float t =
    no_float-put (codes "updated") (rows_data t.updated) (put (codes "deleted") (ids_data t.deleted) (put (codes "created") (rows_data t.created) no_members)) (items_float row_data t.updated row_float)
    (no_float-put (codes "deleted") (ids_data t.deleted) (put (codes "created") (rows_data t.created) no_members) (items_float string t.deleted (λ id. refl))
    (no_float-put (codes "created") (rows_data t.created) no_members (items_float row_data t.created row_float) refl))

-- ---- the whole

abbrev name_of : TableChanges → List ℕ
name_of t = t.table

abbrev any_name : List ℕ → Bool
any_name name = true

with_tables-puts : (ts : List TableChanges) (ms : Members) → with_tables ts ms ≡ puts any_name name_of table_data ts ms
unfolding puts
with_tables-puts [] ms = refl
with_tables-puts (t ∷ ts) ms = with_tables-puts ts (put t.table (table_data t) ms)

kept_all : (ms : List (List ℕ × Data)) → filter (λ m. true) ms ≡ ms
kept_all [] = refl
kept_all (m ∷ ms) = ap (λ (rest : List (List ℕ × Data)). m ∷ rest) (kept_all ms)

any_names : (ts : List TableChanges) → list_all (λ t. any_name (name_of t)) ts ≡ true
any_names [] = refl
any_names (t ∷ ts) = any_names ts

module _ (changes : Changes) (is : IsChanges changes) where
  tables_tidy : AllByRecursion (λ t. IsTidy (table_data t)) changes.tables
  tables_tidy = all_map IsTable (λ t. IsTidy (table_data t)) table_tidy changes.tables is.tables

  named_back : named (with_tables changes.tables no_members) ≡ map (λ t. (t.table, table_data t)) changes.tables
  named_back =
      ap named (with_tables-puts changes.tables no_members)
      ∙ sym (kept_all (named (puts any_name name_of table_data changes.tables no_members)))
      ∙ kept_puts any_name name_of table_data changes.tables no_members tables_tidy tt (any_names changes.tables) is.ascending (next_none any_name name_of table_data changes.tables)

  pub changes_back : changes_of (changes_data changes) ≡ Ok changes
  unfolding changes_of
  changes_back =
      ap (λ (ms : List (List ℕ × Data)). each_read table_of ms >>= λ tables. Ok (record { tables = tables })) named_back
      ∙ ap (λ (r : Result (List TableChanges) WireFault). r >>= λ tables. Ok (record { tables = tables }))
      (each_back table_of (λ (t : TableChanges). (t.table, table_data t)) changes.tables (all_map IsTable (λ t. table_of (t.table, table_data t) ≡ Ok t) table_back changes.tables is.tables))

  pub changes_tidy : IsTidy (changes_data changes)
  changes_tidy = subst HasTidy (sym (with_tables-puts changes.tables no_members)) (tidy_puts any_name name_of table_data changes.tables no_members tables_tidy tt)

pub changes_depth : (changes : Changes) → depth (changes_data changes) ≤ 4
changes_depth changes =
    let flat = depth_puts any_name name_of table_data 3 changes.tables no_members (all_depth changes.tables) (omega arith) in
    let same : members_depth (with_tables changes.tables no_members) ≡ members_depth (puts any_name name_of table_data changes.tables no_members) = ap members_depth (with_tables-puts changes.tables no_members) in
    omega (arith, flat, same)
  where
    all_depth : (ts : List TableChanges) → AllByRecursion (λ t. depth (table_data t) ≤ 3) ts
    all_depth [] = tt
    all_depth (t ∷ ts) = (table_depth t, all_depth ts)

pub changes_float : (changes : Changes) → has_float (changes_data changes) ≡ false
changes_float changes = ap members_have_float (with_tables-puts changes.tables no_members) ∙ floats_puts any_name name_of table_data changes.tables no_members table_float refl

count_back : (n : ℕ) → n ≤ 9007199254740991 → count_of (number (unsigned n)) ≡ Some n
count_back n h = let t : nat_le n 9007199254740991 ≡ true = grind (arith, h) in rw t refl

module _ (reply : PullReply) (is : IsReply reply) where
  pub reply_back : reply_of (reply_data reply) ≡ Ok reply
  unfolding reply_of
  reply_back = rw (changes_back reply.changes is.changes, count_back reply.timestamp is.timestamp) refl

  pub reply_tidy : IsTidy (reply_data reply)
  reply_tidy =
      has_tidy-put (codes "timestamp") (number (unsigned reply.timestamp)) (put (codes "changes") (changes_data reply.changes) no_members) (let t = is.timestamp in omega (arith, t))
      (has_tidy-put (codes "changes") (changes_data reply.changes) no_members (changes_tidy reply.changes is.changes) tt)

pub reply_depth : (reply : PullReply) → depth (reply_data reply) ≤ 5
reply_depth reply =
    let inner = changes_depth reply.changes in
    let flat = members_depth-put (codes "timestamp") (number (unsigned reply.timestamp)) (put (codes "changes") (changes_data reply.changes) no_members) 4 (omega arith)
    (members_depth-put (codes "changes") (changes_data reply.changes) no_members 4 inner (omega arith)) in
    omega (arith, flat)

pub reply_float : (reply : PullReply) → has_float (reply_data reply) ≡ false
reply_float reply =
    no_float-put (codes "timestamp") (number (unsigned reply.timestamp)) (put (codes "changes") (changes_data reply.changes) no_members) refl
    (no_float-put (codes "changes") (changes_data reply.changes) no_members (changes_float reply.changes) refl)

-- a tidy text is the JSON that was written
text_back : (d : Data) (bytes : List ℕ) → IsUtf8 bytes → compact_text d ≡ bytes → IsTidy d → depth d ≤ 127 → json_of bytes ≡ Some d
unfolding json_of
text_back d bytes utf8 is tidy shallow =
    ap (λ (b : Bool). cond b (read bytes) None) (is_utf8-from_IsUtf8 bytes utf8) ∙ ap (λ (bs : List ℕ). read bs) (sym is) ∙ read_compact d tidy shallow

pub changes_read : (changes : Changes) (bytes : List ℕ) → IsUtf8 bytes → bytes ≡ changes_text changes → IsChanges changes → changes_in bytes ≡ Ok changes
unfolding changes_text
changes_read changes bytes utf8 is form =
    let shallow = changes_depth changes in
    ap (λ (o : Option Data). or_fault o NotJson >>= changes_of) (text_back (changes_data changes) bytes utf8 (sym is) (changes_tidy changes form) (omega (arith, shallow)))
    ∙ changes_back changes form

pub reply_read : (reply : PullReply) (bytes : List ℕ) → IsUtf8 bytes → bytes ≡ reply_text reply → IsReply reply → reply_in bytes ≡ Ok reply
unfolding reply_text
reply_read reply bytes utf8 is form =
    let shallow = reply_depth reply in
    ap (λ (o : Option Data). or_fault o NotJson >>= reply_of) (text_back (reply_data reply) bytes utf8 (sym is) (reply_tidy reply form) (omega (arith, shallow)))
    ∙ reply_back reply form
