-- The tables of changes that are read ascend by name.
use Rattle.std.proofs.Common.{◌≡◌, ℕ, List, [], ◌∷◌, ◌++◌, map, Bool, true, false, ◌&&◌, cond, codes, Option, Some, None, option_map, Result, Ok, Ordering, Less, Equal, Greater, refl, sym, ap, ap₂, ◌∙◌, subst}
use Rattle.std.specs.Prelude.{option_and_then}
use Rattle.std.specs.List.{list_all}
use Rattle.std.specs.Str.{is_utf8}
use Rattle.std.specs.Ordering.{is_lt, ordering_reverse, match_ordering}
use Rattle.std.proofs.lemmas.Bool.{and_parts, and_from}
use Rattle.std.proofs.lemmas.Cmp.{nat_list_cmp_total}
use Rattle.json.specs.Json as json
use Rattle.json.specs.Lex.{tokens}
use Rattle.serde_json.specs.Data.{Data, object, Members, no_members, member, put, null, boolean, number, string, array}
use Rattle.serde_json.specs.Find.{as_object}
use Rattle.serde_json.specs.Read.{of_json, of_items, of_members, number_of, max_depth, read}
use Rattle.melon_schema.specs.Bytes.{json_of}
use Rattle.melon_schema.specs.Faults.{◌>>=◌, unless, or_fault, in_turn, each_read}
use Rattle.melon_schema.specs.Json.{named, has_only}
use Rattle.melon_schema.specs.Names.{is_name}
use Rattle.melon_raw.specs.Order.{id_cmp, is_below}
use Rattle.melon_wire.specs.declared.changes.TableChanges.{TableChanges}
use Rattle.melon_wire.specs.declared.changes.Changes.{Changes}
use Rattle.melon_wire.specs.declared.wire_fault.WireFault.{WireFault}
use Rattle.melon_wire.specs.declared.wire_fault.WireFault.TheVariants.{NotJson, Form, Name}
use Rattle.melon_wire.specs.Forms.{names_ascend}
use Rattle.melon_wire.specs.Reading.{items_at, row_of, id_of, table_of, changes_of}
use Rattle.melon_log.proofs.ById.{some_same, below_trans}
use Rattle.melon_backend.specs.Laws.{ReadTablesAscend}
use Rattle.melon_backend.proofs.OpenedRows.{bind_ok, ok_same}

-- ---- members in order

abbrev key_in : List ℕ × Data → List ℕ
key_in m = m.0

abbrev are_above : List ℕ → Members → Bool
are_above k ms = list_all (λ m. is_below k (key_in m)) (named ms)

abbrev do_rise : Members → Bool
do_rise ms = names_ascend key_in (named ms)

all_above : (k l : List ℕ) (ms : Members) → is_below k l ≡ true → are_above l ms ≡ true → are_above k ms ≡ true
all_above k l no_members h a = refl
all_above k l (member m d ms) h a =
    let t = and_parts (is_below l m) (are_above l ms) a in
    and_from (is_below k m) (are_above k ms) (below_trans k l m h t.0) (all_above k l ms h t.1)

above-put_at : (o : Ordering) (l k m : List ℕ) (d e : Data) (ms : Members) → is_below l k ≡ true → are_above l (member m e ms) ≡ true → are_above l (put k d ms) ≡ true
    → are_above l (match_ordering o (member k d (member m e ms)) (member m d ms) (member m e (put k d ms))) ≡ true
above-put_at Less l k m d e ms h a later = and_from (is_below l k) (are_above l (member m e ms)) h a
above-put_at Equal l k m d e ms h a later = a
above-put_at Greater l k m d e ms h a later = and_from (is_below l m) (are_above l (put k d ms)) (and_parts (is_below l m) (are_above l ms) a).0 later

above-put : (l k : List ℕ) (d : Data) (ms : Members) → is_below l k ≡ true → are_above l ms ≡ true → are_above l (put k d ms) ≡ true
above-put l k d no_members h a = and_from (is_below l k) true h refl
above-put l k d (member m e ms) h a = above-put_at _ l k m d e ms h a (above-put l k d ms h (and_parts (is_below l m) (are_above l ms) a).1)

turned : (k l : List ℕ) → id_cmp k l ≡ Greater → is_below l k ≡ true
turned k l h = ap is_lt (nat_list_cmp_total.antisymm l k) ∙ ap (λ (o : Ordering). is_lt (ordering_reverse o)) h

rise-put_at : (o : Ordering) (k l : List ℕ) (d e : Data) (ms : Members) → id_cmp k l ≡ o → do_rise (member l e ms) ≡ true → do_rise (put k d ms) ≡ true
    → do_rise (match_ordering o (member k d (member l e ms)) (member l d ms) (member l e (put k d ms))) ≡ true
rise-put_at Less k l d e ms is h later =
    let below : is_below k l ≡ true = ap is_lt is in
    let t = and_parts (are_above l ms) (do_rise ms) h in
    and_from (are_above k (member l e ms)) (do_rise (member l e ms)) (and_from (is_below k l) (are_above k ms) below (all_above k l ms below t.0)) h
rise-put_at Equal k l d e ms is h later = h
rise-put_at Greater k l d e ms is h later =
    let t = and_parts (are_above l ms) (do_rise ms) h in
    and_from (are_above l (put k d ms)) (do_rise (put k d ms)) (above-put l k d ms (turned k l is) t.0) later

rise-put : (k : List ℕ) (d : Data) (ms : Members) → do_rise ms ≡ true → do_rise (put k d ms) ≡ true
rise-put k d no_members h = refl
rise-put k d (member l e ms) h = rise-put_at _ k l d e ms refl h (rise-put k d ms (and_parts (are_above l ms) (do_rise ms) h).1)

-- ---- objects that are read

then_some : {X Y : Type 0} (f : X → Option Y) (o : Option X) (y : Y) → option_and_then f o ≡ Some y → (x : X) × (o ≡ Some x) × (f x ≡ Some y)
then_some f None y h = cc
then_some f (Some x) y h = (x, refl, h)

map_some : {X Y : Type 0} (f : X → Y) (o : Option X) (y : Y) → option_map f o ≡ Some y → (x : X) × (o ≡ Some x) × (f x ≡ y)
map_some f None y h = cc
map_some f (Some x) y h = let same : f x ≡ y = cc in (x, refl, same)

members_rise : (jms : json.Members) (found ms : Members) → of_members jms found ≡ Some ms → do_rise found ≡ true → do_rise ms ≡ true
members_rise json.no_members found ms h up = subst (λ (q : Members). do_rise q ≡ true) (some_same found ms h) up
members_rise (json.member k j jms) found ms h up =
    let d = then_some (λ d. of_members jms (put k d found)) (of_json j) ms h in
    members_rise jms (put k d.0 found) ms d.2 (rise-put k d.0 found up)

abbrev RisesIfObject : Data → Type 0
RisesIfObject d = (ms : Members) → as_object d ≡ Some ms → do_rise ms ≡ true

none_rises : (d : Data) → as_object d ≡ None → RisesIfObject d
none_rises d none ms h = let e : None ≡ Some ms = sym none ∙ h in cc

json_rises : (j : json.Json) (d : Data) → of_json j ≡ Some d → RisesIfObject d
json_rises json.null d h = subst RisesIfObject (some_same null d h) (none_rises null refl)
json_rises (json.boolean b) d h = subst RisesIfObject (some_same (boolean b) d h) (none_rises (boolean b) refl)
json_rises (json.number s) d h = let m = map_some number (number_of s) d h in subst RisesIfObject m.2 (none_rises (number m.0) refl)
json_rises (json.string s) d h = subst RisesIfObject (some_same (string s) d h) (none_rises (string s) refl)
json_rises (json.array js) d h = let m = map_some array (of_items js) d h in subst RisesIfObject m.2 (none_rises (array m.0) refl)
json_rises (json.object jms) d h =
    let m = map_some object (of_members jms no_members) d h in
    subst RisesIfObject m.2 (λ ms e. subst (λ (q : Members). do_rise q ≡ true) (some_same m.0 ms e) (members_rise jms no_members m.0 m.1 refl))

read_rises : (bytes : List ℕ) (d : Data) → json_of bytes ≡ Some d → RisesIfObject d
unfolding json_of
read_rises bytes d h = go (is_utf8 bytes) h
  where
    go : (b : Bool) → cond b (read bytes) None ≡ Some d → RisesIfObject d
    go true k = let j = then_some of_json (option_and_then (λ p. json.if_last p.0 p.1) (json.value max_depth (tokens bytes))) d k in json_rises j.0 d j.2
    go false k = cc

-- ---- tables

fault_ok : {X E : Type 0} (o : Option X) (e : E) (x : X) → or_fault o e ≡ Ok x → o ≡ Some x
fault_ok None e x h = cc
fault_ok (Some y) e x h = let same : y ≡ x = cc in ap Some same

table_name : (m : List ℕ × Data) (t : TableChanges) → table_of m ≡ Ok t → t.table ≡ m.0
unfolding table_of
table_name m t h =
    let good = bind_ok (unless (is_name m.0) Name) _ t h in
    let known = bind_ok (unless (has_only (codes "created" ∷ codes "deleted" ∷ codes "updated" ∷ []) m.1) Form) _ t good.2 in
    let members = bind_ok (or_fault (as_object m.1) Form) _ t known.2 in
    let new = bind_ok (items_at (codes "created") members.0) _ t members.2 in
    let gone = bind_ok (items_at (codes "deleted") members.0) _ t new.2 in
    let edited = bind_ok (items_at (codes "updated") members.0) _ t gone.2 in
    let created = bind_ok (each_read row_of new.0) _ t edited.2 in
    let deleted = bind_ok (each_read id_of gone.0) _ t created.2 in
    let updated = bind_ok (each_read row_of edited.0) _ t deleted.2 in
    sym (ap (λ (u : TableChanges). u.table) (ok_same (record { table = m.0; created = created.0; updated = updated.0; deleted = deleted.0 }) t updated.2))

abbrev name_of : TableChanges → List ℕ
name_of t = t.table

abbrev names : List TableChanges → List (List ℕ)
names ts = map name_of ts

names-end : (ts : List TableChanges) (t : TableChanges) → names (ts ++ t ∷ []) ≡ names ts ++ t.table ∷ []
names-end [] t = refl
names-end (u ∷ us) t = ap (λ (ns : List (List ℕ)). u.table ∷ ns) (names-end us t)

abbrev adding : List TableChanges → List ℕ × Data → Result (List TableChanges) WireFault
adding made m = table_of m >>= λ t. Ok (made ++ t ∷ [])

names_read : (ms : List (List ℕ × Data)) (made ts : List TableChanges) → in_turn adding made ms ≡ Ok ts → names ts ≡ names made ++ map key_in ms
names_read [] made ts h = sym (ap names (ok_same made ts h)) ∙ end (names made)
  where
    end : (ns : List (List ℕ)) → ns ≡ ns ++ []
    end [] = refl
    end (n ∷ ns) = ap (λ (rest : List (List ℕ)). n ∷ rest) (end ns)
names_read (m ∷ ms) made ts h =
    let more = bind_ok (adding made m) _ ts h in
    let one = bind_ok (table_of m) (λ t. Ok (made ++ t ∷ [])) more.0 more.1 in
    let is : made ++ one.0 ∷ [] ≡ more.0 = ok_same (made ++ one.0 ∷ []) more.0 one.2 in
    names_read ms more.0 ts more.2
    ∙ (ap (λ (us : List TableChanges). names us ++ map key_in ms) (sym is)
    ∙ (ap (λ (ns : List (List ℕ)). ns ++ map key_in ms) (names-end made one.0 ∙ ap (λ (n : List ℕ). names made ++ n ∷ []) (table_name m one.0 one.1))
    ∙ shift (names made) m.0 (map key_in ms)))
  where
    shift : (ns : List (List ℕ)) (n : List ℕ) (rest : List (List ℕ)) → (ns ++ n ∷ []) ++ rest ≡ ns ++ n ∷ rest
    shift [] n rest = refl
    shift (x ∷ xs) n rest = ap (λ (more : List (List ℕ)). x ∷ more) (shift xs n rest)

-- ---- names that ascend

all_of : {X : Type 0} (name : X → List ℕ) (k : List ℕ) (xs : List X) → list_all (λ x. is_below k (name x)) xs ≡ list_all (is_below k) (map name xs)
all_of name k [] = refl
all_of name k (x ∷ xs) = ap (λ (b : Bool). is_below k (name x) && b) (all_of name k xs)

ascend_of : {X : Type 0} (name : X → List ℕ) (xs : List X) → names_ascend name xs ≡ names_ascend (λ n. n) (map name xs)
ascend_of name [] = refl
ascend_of name (x ∷ xs) = ap₂ ◌&&◌ (all_of name (name x) xs) (ascend_of name xs)

pub tables_ascend : ReadTablesAscend
unfolding changes_of
tables_ascend bytes c h =
    let d = bind_ok (or_fault (json_of bytes) NotJson) changes_of c h in
    let members = bind_ok (or_fault (as_object d.0) Form) _ c d.2 in
    let tables = bind_ok (each_read table_of (named members.0)) _ c members.2 in
    let rise : do_rise members.0 ≡ true = read_rises bytes d.0 (fault_ok (json_of bytes) NotJson d.0 d.1) members.0 (fault_ok (as_object d.0) Form members.0 members.1) in
    let same : names tables.0 ≡ map key_in (named members.0) = names_read (named members.0) [] tables.0 tables.1 in
    let up : names_ascend name_of tables.0 ≡ true = ascend_of name_of tables.0 ∙ (ap (names_ascend (λ n. n)) same ∙ (sym (ascend_of key_in (named members.0)) ∙ rise)) in
    subst (λ (q : Changes). names_ascend name_of q.tables ≡ true) (ok_same (record { tables = tables.0 }) c tables.2) up
