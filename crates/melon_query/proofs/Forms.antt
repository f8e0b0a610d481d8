-- A condition is read from the lists under its keys.
use Rattle.std.proofs.Common.{◌≡◌, ℕ, List, [], ◌∷◌, Bool, Option, Some, None, option_map, zero, suc, ◌+◌, ◌<◌, ◌≤◌, max, length, map, get_or, refl, ap, ◌∙◌, arith}
use Rattle.std.specs.Ordering.{nat_cmp, match_ordering}
use Rattle.std.specs.Cmp.Lexicographic.{slice_cmp}
use Rattle.std.specs.declared.cmp.Ordering.{Ordering}
use Rattle.std.specs.declared.cmp.Ordering.TheVariants.{Less, Equal, Greater}
use Rattle.serde_json.specs.Data.{Data, null, boolean, number, string, array, object, Items, no_items, item, Members, no_members, member, depth, items_depth, members_depth}
use Rattle.serde_json.specs.Find.{get, get_member}
use Rattle.serde_json.specs.View.{view}
use Rattle.serde_json.specs.declared.value.Value.{Value}
use Rattle.melon_schema.specs.Json.{◌>>=◌, each, listed, list_of, list_at}
use Rattle.melon_query.specs.declared.cond_form.CondForm.{CondForm}
use Rattle.melon_query.specs.QueryForm.{cond_by, cond_form, conds_in, conds_under}

-- each of a list, where a value is one
abbrev parts_of : Bool → Data → Option (List CondForm)
parts_of may v = list_of v >>= each (λ c. cond_form c may)

items_read : (ds : Items) (may : Bool) → conds_in ds may ≡ each (λ c. cond_form c may) (listed ds)
unfolding conds_in
items_read no_items may = refl
items_read (item d ds) may = ap (λ cs. cond_form d may >>= λ c. option_map (λ rest. c ∷ rest) cs) (items_read ds may)

found : (o : Ordering) (may : Bool) (d : Data) (under : Option (List CondForm)) (rest : Option Data) → under ≡ (rest >>= parts_of may)
    → match_ordering o under (parts_of may d) under ≡ (match_ordering o rest (Some d) rest >>= parts_of may)
found Less may d under rest h = h
found Equal may d under rest h = refl
found Greater may d under rest h = h

under_read : (ms : Members) (key : List ℕ) (may : Bool) → conds_under ms key may ≡ (get_member key ms >>= parts_of may)
unfolding conds_under
under_read no_members key may = refl
under_read (member k (array ds) ms) key may =
    ap (λ cs. match_ordering (slice_cmp nat_cmp key k) (conds_under ms key may) cs (conds_under ms key may)) (items_read ds may)
    ∙ found (slice_cmp nat_cmp key k) may (array ds) _ _ (under_read ms key may)
under_read (member k null ms) key may = found (slice_cmp nat_cmp key k) may null _ _ (under_read ms key may)
under_read (member k (boolean b) ms) key may = found (slice_cmp nat_cmp key k) may (boolean b) _ _ (under_read ms key may)
under_read (member k (number n) ms) key may = found (slice_cmp nat_cmp key k) may (number n) _ _ (under_read ms key may)
under_read (member k (string s) ms) key may = found (slice_cmp nat_cmp key k) may (string s) _ _ (under_read ms key may)
under_read (member k (object os) ms) key may = found (slice_cmp nat_cmp key k) may (object os) _ _ (under_read ms key may)

pub cond_form_is : (d : Data) (may : Bool) → cond_form d may ≡ cond_by (λ key within. list_at (λ c. cond_form c within) key d) may d
unfolding cond_form cond_by
cond_form_is null may = refl
cond_form_is (boolean b) may = refl
cond_form_is (number n) may = refl
cond_form_is (string s) may = refl
cond_form_is (array ds) may = refl
cond_form_is (object ms) may =
    let same : (λ (key : List ℕ) (within : Bool). conds_under ms key within) ≡ (λ (key : List ℕ) (within : Bool). get_member key ms >>= parts_of within) = λ i key within. under_read ms key within i in
    ap (λ (parts : List ℕ → Bool → Option (List CondForm)). cond_by parts may (object ms)) same

-- ---- how deep a list is

abbrev pub list_depth : List Data → ℕ
list_depth [] = 0
list_depth (d ∷ ds) = max (depth d) (list_depth ds)

listed_depth : (ds : Items) → items_depth ds ≡ list_depth (listed ds)
listed_depth no_items = refl
listed_depth (item d ds) = ap (max (depth d)) (listed_depth ds)

some_none : {X : Type 0} (x : X) → None ≡ Some x → ⊥
some_none x h = cc

member_depth : (ms : Members) (key : List ℕ) (e : Data) → get_member key ms ≡ Some e → depth e ≤ members_depth ms
member_depth no_members key e h = absurd (some_none e h)
member_depth (member k d ms) key e h = by_order (slice_cmp nat_cmp key k) h (member_depth ms key e)
  where
    by_order : (o : Ordering) → match_ordering o (get_member key ms) (Some d) (get_member key ms) ≡ Some e → (get_member key ms ≡ Some e → depth e ≤ members_depth ms) → depth e ≤ max (depth d) (members_depth ms)
    by_order Less h below = let b : depth e ≤ members_depth ms = below h in omega arith
    by_order Equal h below = let same : d ≡ e = cc in let b : depth d ≡ depth e = ap depth same in omega arith
    by_order Greater h below = let b : depth e ≤ members_depth ms = below h in omega arith

list_in_depth : (e : Data) (ds : List Data) → list_of e ≡ Some ds → 1 + list_depth ds ≤ depth e
list_in_depth null ds h = absurd (some_none ds h)
list_in_depth (boolean b) ds h = absurd (some_none ds h)
list_in_depth (number n) ds h = absurd (some_none ds h)
list_in_depth (string s) ds h = absurd (some_none ds h)
list_in_depth (object ms) ds h = absurd (some_none ds h)
list_in_depth (array its) ds h =
    let same : listed its ≡ ds = cc in
    let b : list_depth (listed its) ≡ list_depth ds = ap list_depth same in
    let a : items_depth its ≡ list_depth (listed its) = listed_depth its in omega arith

-- a list under a key is less deep by two
pub under_depth : (d e : Data) (key : List ℕ) (ds : List Data) → get key d ≡ Some e → list_of e ≡ Some ds → 2 + list_depth ds ≤ depth d
under_depth null e key ds h k = absurd (some_none e h)
under_depth (boolean b) e key ds h k = absurd (some_none e h)
under_depth (number n) e key ds h k = absurd (some_none e h)
under_depth (string s) e key ds h k = absurd (some_none e h)
under_depth (array its) e key ds h k = absurd (some_none e h)
under_depth (object ms) e key ds h k =
    let a : depth e ≤ members_depth ms = member_depth ms key e h in
    let b : 1 + list_depth ds ≤ depth e = list_in_depth e ds k in omega arith

-- an item is no deeper than its list
pub item_depth : (vs : List Value) (i : ℕ) (v : Value) → i < length vs → v ≡ get_or vs i v → depth (view v) ≤ list_depth (map view vs)
item_depth [] i v h is = absurd (omega (arith, h))
item_depth (w ∷ vs) zero v h is = let same : depth (view v) ≡ depth (view w) = ap (λ x. depth (view x)) is in omega arith
item_depth (w ∷ vs) (suc i) v h is = let below : depth (view v) ≤ list_depth (map view vs) = item_depth vs i v (omega (arith, h)) is in omega arith
