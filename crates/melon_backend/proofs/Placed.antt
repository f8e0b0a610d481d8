-- Rows in their places: they ascend, are found, and are put.
use Rattle.std.proofs.Common.{◌≡◌, ℕ, List, [], ◌∷◌, String, string_bytes, Bool, true, false, cond, Option, Some, None, bytes_eq, is_some, Ordering, Less, Equal, Greater, nat_cmp, refl, sym, ap, ◌∙◌, subst}
use Rattle.std.specs.declared.alloc.Global.{Global}
use Rattle.std.specs.List.{list_all, AllByRecursion, cons_option}
use Rattle.std.specs.List.Sorted.{IsStrictlySortedBy}
use Rattle.std.specs.Ordering.{is_lt, is_eq, match_ordering}
use Rattle.std.specs.Cmp.Lexicographic.{slice_cmp}
use Rattle.std.specs.BTreeMap.{is_at, insert_entry}
use Rattle.std.specs.Map.{lookup, set_value, keys_of}
use Rattle.std.proofs.lemmas.Bool.{and_from}
use Rattle.std.proofs.lemmas.Map.Text.{is_eq-slice_cmp}
use Rattle.std.proofs.lemmas.Map.Keys.{sorted_head, sorted_tail}
use Rattle.melon_raw.specs.Order.{is_below}
use Rattle.melon_wire.specs.Forms.{names_ascend}
use Rattle.melon_wire.proofs.KeyOrder.{split, same_bytes}
use Rattle.melon_log.specs.declared.server_row.ServerRow.{ServerRow}
use Rattle.melon_log.specs.ServerRows.{id_of, at_id}
use Rattle.melon_log.proofs.ById.{none_above, same_rows}
use Rattle.melon_backend.specs.Rows.{put_row}
use Rattle.melon_backend.specs.Inside.{Place, id_order, string_cmp, shown, has_place, flat, is_own, AreOwn}
use Rattle.melon_backend.proofs.PutRows.{at_id-put, ascend-put}

abbrev pub Climbs : List Place → Type 0
Climbs es = IsStrictlySortedBy string_cmp (keys_of es)

-- a key is found by the id that it is
pub is_key_of : (id : List ℕ) (key : String Global) → is_at (id_order id) key ≡ bytes_eq id (string_bytes key)
is_key_of id key = is_eq-slice_cmp id (string_bytes key)

-- ---- they ascend

all_above : (id : List ℕ) (es : List Place) → AllByRecursion (λ q. slice_cmp nat_cmp id (string_bytes q) ≡ Less) (keys_of es) → AreOwn es → list_all (λ r. is_below id r.id) (shown es) ≡ true
all_above id [] all own = refl
all_above id (e ∷ es) all own = go e.1 own.0 (all_above id es all.1 own.1)
  where
    go : (o : Option ServerRow) → is_own e.0 o → list_all (λ r. is_below id r.id) (shown es) ≡ true → list_all (λ r. is_below id r.id) (cons_option o (shown es)) ≡ true
    go None own ih = ih
    go (Some row) own ih = and_from (is_below id row.id) (list_all (λ r. is_below id r.id) (shown es)) (ap (λ (i : List ℕ). is_below id i) own ∙ ap is_lt all.0) ih

pub ascend-shown : (es : List Place) → Climbs es → AreOwn es → names_ascend id_of (shown es) ≡ true
ascend-shown [] up own = refl
ascend-shown (e ∷ es) up own = go e.1 own.0 (ascend-shown es (sorted_tail string_cmp e.0 (keys_of es) up) own.1)
  where
    go : (o : Option ServerRow) → is_own e.0 o → names_ascend id_of (shown es) ≡ true → names_ascend id_of (cons_option o (shown es)) ≡ true
    go None own' ih = ih
    go (Some row) own' ih =
        and_from (list_all (λ r. is_below row.id r.id) (shown es)) (names_ascend id_of (shown es))
        (subst (λ (i : List ℕ). list_all (λ r. is_below i r.id) (shown es) ≡ true) (sym own') (all_above (string_bytes e.0) es (sorted_head string_cmp e.0 (keys_of es) up) own.1)) ih

-- ---- they are found

module _ (id : List ℕ) (e : Place) (es : List Place) (up : Climbs (e ∷ es)) (own : AreOwn (e ∷ es)) where
  here : bytes_eq id (string_bytes e.0) ≡ true → (o : Option ServerRow) → is_own e.0 o → at_id id (cons_option o (shown es)) ≡ o
  here same None own' = ap (λ (i : List ℕ). at_id i (shown es)) (same_bytes id (string_bytes e.0) same) ∙ none_above (string_bytes e.0) (shown es) (all_above (string_bytes e.0) es (sorted_head string_cmp e.0 (keys_of es) up) own.1)
  here same (Some row) own' = ap (λ (b : Bool). cond b (Some row) (at_id id (shown es))) (ap (λ (i : List ℕ). bytes_eq id i) own' ∙ same)

  later : bytes_eq id (string_bytes e.0) ≡ false → (o : Option ServerRow) → is_own e.0 o → at_id id (cons_option o (shown es)) ≡ at_id id (shown es)
  later apart None own' = refl
  later apart (Some row) own' = ap (λ (b : Bool). cond b (Some row) (at_id id (shown es))) (ap (λ (i : List ℕ). bytes_eq id i) own' ∙ apart)

pub at-shown : (id : List ℕ) (es : List Place) → Climbs es → AreOwn es → at_id id (shown es) ≡ flat (lookup (is_at (id_order id)) es)
at-shown id [] up own = refl
at-shown id (e ∷ es) up own =
    let ih : at_id id (shown es) ≡ flat (lookup (is_at (id_order id)) es) = at-shown id es (sorted_tail string_cmp e.0 (keys_of es) up) own.1 in
    split (bytes_eq id (string_bytes e.0))
    (λ same. here id e es up own same e.1 own.0 ∙ sym (ap (λ (b : Bool). flat (cond b (Some e.1) (lookup (is_at (id_order id)) es))) (is_key_of id e.0 ∙ same)))
    (λ apart. later id e es up own apart e.1 own.0 ∙ (ih ∙ sym (ap (λ (b : Bool). flat (cond b (Some e.1) (lookup (is_at (id_order id)) es))) (is_key_of id e.0 ∙ apart))))

-- ---- one is put

pub keys-set : (test : String Global → Bool) (es : List Place) (w : Option ServerRow) → keys_of (set_value test es w) ≡ keys_of es
keys-set test [] w = refl
keys-set test (e ∷ es) w = split (test e.0) (λ h. rw h refl) (λ h. rw h (ap (λ (ks : List (String Global)). e.0 ∷ ks) (keys-set test es w)))

pub own-set : (row : ServerRow) (es : List Place) → AreOwn es → AreOwn (set_value (is_at (id_order row.id)) es (Some row))
own-set row [] own = tt
own-set row (e ∷ es) own =
    let ih : AreOwn (set_value (is_at (id_order row.id)) es (Some row)) = own-set row es own.1 in
    split (is_at (id_order row.id) e.0)
    (λ h. rw h (same_bytes row.id (string_bytes e.0) (sym (is_key_of row.id e.0) ∙ h), own.1))
    (λ h. rw h (own.0, ih))

module _ (q id : List ℕ) (w : Option ServerRow) where
  off : (key : String Global) → bytes_eq q id ≡ false → is_at (id_order id) key ≡ true → is_at (id_order q) key ≡ false
  off key apart h = is_key_of q key ∙ (ap (λ (i : List ℕ). bytes_eq q i) (sym (same_bytes id (string_bytes key) (sym (is_key_of id key) ∙ h))) ∙ apart)

  on_it : (key : String Global) (b : Bool) → bytes_eq q id ≡ true → is_at (id_order id) key ≡ b → is_at (id_order q) key ≡ b
  on_it key b same h = ap (λ (i : List ℕ). is_at (id_order i) key) (same_bytes q id same) ∙ h

  pub lookup-set : (es : List Place) → has_place id es ≡ true → lookup (is_at (id_order q)) (set_value (is_at (id_order id)) es w) ≡ cond (bytes_eq q id) (Some w) (lookup (is_at (id_order q)) es)
  lookup-set [] has = cc
  lookup-set (e ∷ es) has =
      let ih : has_place id es ≡ true → lookup (is_at (id_order q)) (set_value (is_at (id_order id)) es w) ≡ cond (bytes_eq q id) (Some w) (lookup (is_at (id_order q)) es) = lookup-set es in
      split (is_at (id_order id) e.0)
      (λ h. split (bytes_eq q id)
      (λ same. rw (h, same, on_it e.0 true same h) refl)
      (λ apart. rw (h, apart, off e.0 apart h) refl))
      (λ h. let more : has_place id es ≡ true = rw h at has in
      split (bytes_eq q id)
      (λ same. rw (h, same, on_it e.0 false same h) (ih more ∙ rw same refl))
      (λ apart. rw (h, apart) (ap (λ (o : Option (Option ServerRow)). cond (is_at (id_order q) e.0) (Some e.1) o) (ih more ∙ rw apart refl))))

pub has_place-set : (q id : List ℕ) (es : List Place) (w : Option ServerRow) → has_place q (set_value (is_at (id_order id)) es w) ≡ has_place q es
has_place-set q id [] w = refl
has_place-set q id (e ∷ es) w =
    let ih : has_place q (set_value (is_at (id_order id)) es w) ≡ has_place q es = has_place-set q id es w in
    split (is_at (id_order id) e.0)
    (λ h. split (is_at (id_order q) e.0) (λ k. rw (h, k) refl) (λ k. rw (h, k) refl))
    (λ h. split (is_at (id_order q) e.0) (λ k. rw (h, k) refl) (λ k. rw (h, k) ih))

flat_either : (b : Bool) (row : ServerRow) (o : Option (Option ServerRow)) → flat (cond b (Some (Some row)) o) ≡ cond b (Some row) (flat o)
flat_either true row o = refl
flat_either false row o = refl

pub climbs-set : (test : String Global → Bool) (es : List Place) (w : Option ServerRow) → Climbs es → Climbs (set_value test es w)
climbs-set test es w up = subst (IsStrictlySortedBy string_cmp) (sym (keys-set test es w)) up

pub shown-put : (row : ServerRow) (es : List Place) → Climbs es → AreOwn es → has_place row.id es ≡ true → shown (set_value (is_at (id_order row.id)) es (Some row)) ≡ put_row row (shown es)
shown-put row es up own has =
    let new : List Place = set_value (is_at (id_order row.id)) es (Some row) in
    let up' : Climbs new = climbs-set (is_at (id_order row.id)) es (Some row) up in
    let own' : AreOwn new = own-set row es own in
    let was : names_ascend id_of (shown es) ≡ true = ascend-shown es up own in
    same_rows (shown new) (put_row row (shown es)) (ascend-shown new up' own') (ascend-put row (shown es) was)
    (λ id. at-shown id new up' own' ∙ (ap flat (lookup-set id row.id (Some row) es has) ∙ (flat_either (bytes_eq id row.id) row (lookup (is_at (id_order id)) es)
    ∙ (ap (λ (o : Option ServerRow). cond (bytes_eq id row.id) (Some row) o) (sym (at-shown id es up own)) ∙ sym (at_id-put row (shown es) was id)))))

-- ---- a place is made

pub shown-place : (key : String Global) (es : List Place) → lookup (is_at (string_cmp key)) es ≡ None → shown (insert_entry string_cmp es key None) ≡ shown es
shown-place k [] none = refl
shown-place k (e ∷ es) none = go (string_cmp k e.0) none (shown-place k es)
  where
    go : (o : Ordering) → cond (is_eq o) (Some e.1) (lookup (is_at (string_cmp k)) es) ≡ None → (lookup (is_at (string_cmp k)) es ≡ None → shown (insert_entry string_cmp es k None) ≡ shown es)
        → shown (match_ordering o ((k, None) ∷ e ∷ es) ((e.0, None) ∷ es) (e ∷ insert_entry string_cmp es k None)) ≡ cons_option e.1 (shown es)
    go Less h later = refl
    go Equal h later = cc
    go Greater h later = ap (cons_option e.1) (later h)

pub own-place : (key : String Global) (es : List Place) → AreOwn es → AreOwn (insert_entry string_cmp es key None)
own-place k [] own = (tt, tt)
own-place k (e ∷ es) own = go (string_cmp k e.0) (own-place k es own.1)
  where
    go : (o : Ordering) → AreOwn (insert_entry string_cmp es k None) → AreOwn (match_ordering o ((k, None) ∷ e ∷ es) ((e.0, None) ∷ es) (e ∷ insert_entry string_cmp es k None))
    go Less later = (tt, own)
    go Equal later = (tt, own.1)
    go Greater later = (own.0, later)

pub has_place-more : (q : List ℕ) (key : String Global) (es : List Place) → has_place q es ≡ true → has_place q (insert_entry string_cmp es key None) ≡ true
has_place-more q k [] has = cc
has_place-more q k (e ∷ es) has = go (string_cmp k e.0) (λ more. has_place-more q k es more)
  where
    go : (o : Ordering) → (has_place q es ≡ true → has_place q (insert_entry string_cmp es k None) ≡ true) → has_place q (match_ordering o ((k, None) ∷ e ∷ es) ((e.0, None) ∷ es) (e ∷ insert_entry string_cmp es k None)) ≡ true
    go Less later = split (is_at (id_order q) k) (λ h. rw h refl) (λ h. rw h has)
    go Equal later = split (is_at (id_order q) e.0) (λ h. rw h refl) (λ h. rw h (rw h at has))
    go Greater later = split (is_at (id_order q) e.0) (λ h. rw h refl) (λ h. rw h (later (rw h at has)))

pub none_there : (key : String Global) (id : List ℕ) (es : List Place) → string_bytes key ≡ id → has_place id es ≡ false → lookup (is_at (string_cmp key)) es ≡ None
none_there key id es same has = none (lookup (is_at (string_cmp key)) es) (ap (λ (i : List ℕ). has_place i es) same ∙ has)
  where
    none : (o : Option (Option ServerRow)) → is_some o ≡ false → o ≡ None
    none None h = refl
    none (Some x) h = cc
