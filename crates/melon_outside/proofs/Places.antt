-- What changes of the places do to the rows that stand in them.
use Rattle.std.proofs.Common.{◌≡◌, ℕ, Bool, true, false, cond, List, [], ◌∷◌, ◌++◌, filter, Ordering, Less, Equal, Greater, Option, Some, None, ◌+◌, drop, map, ◌&&◌, refl, sym, ap, ap₂, ◌∙◌, subst, rules}
use Rattle.std.specs.List.{AllByRecursion, list_all}
use Rattle.std.specs.List.Sorted.{IsStrictlySortedBy}
use Rattle.std.specs.Cmp.Lexicographic.{slice_cmp}
use Rattle.std.proofs.lemmas.Map.Text.{is_eq-slice_cmp}
use Rattle.std.proofs.lemmas.Slice.Eq.{bytes_eq-Decides}
use Rattle.std.specs.Prelude.{is_some}
use Rattle.std.specs.Ordering.{match_ordering, ordering_then, ordering_reverse, is_lt, is_eq, nat_cmp, on, then_cmp}
use Rattle.std.specs.Cmp.{IsTotalOrder}
use Rattle.std.specs.Cmp.Rules.{comparing}
use Rattle.std.specs.BTreeMap.{is_at, insert_entry}
use Rattle.std.specs.Map.{lookup, set_value, remove_entry, keys_of}
use Rattle.melon_outside.specs.declared.kept.KeptKey.{KeptKey}
use Rattle.melon_outside.specs.declared.kept.KeptRow.{KeptRow}
use Rattle.melon_outside.specs.Ascending.{below, above, with_item, without_key, with_items, without_keys}
use Rattle.melon_outside.specs.declared.shelf.Filing.{Filing}
use Rattle.melon_outside.specs.Kept.{key_cmp, key_of}
use Rattle.melon_outside.specs.Shelved.{Places, placed, shown, row_at, has_place, have_places, row_of}

pub key_total : IsTotalOrder key_cmp
key_total = search (comparing, rules)

and_parts : (a b : Bool) → (a && b) ≡ true → (a ≡ true) × (b ≡ true)
and_parts true b h = (refl, h)
and_parts false b h = cc

pub set_value-absent : {K X : Type 0} (test : K → Bool) (es : List (K × X)) (w : X) → lookup test es ≡ None → set_value test es w ≡ es
set_value-absent {K} {X} test [] w none = refl
set_value-absent {K} {X} test (e ∷ es) w none = go (test e.0) none (set_value-absent test es w)
  where
    go : (b : Bool) → cond b (Some e.1) (lookup test es) ≡ None → (lookup test es ≡ None → set_value test es w ≡ es) → cond b ((e.0, w) ∷ es) (e ∷ set_value test es w) ≡ e ∷ es
    go true h later = cc
    go false h later = ap (λ rest. e ∷ rest) (later h)

-- ---- a key and the keys above it

abbrev pub AllAbove : KeptKey → Places → Type 0
AllAbove k es = AllByRecursion (λ q. key_cmp k q ≡ Less) (keys_of es)

never_below : (a b : KeptKey) → key_cmp a b ≡ Less → is_lt (key_cmp b a) ≡ false
never_below a b h = ap is_lt (key_total.antisymm b a ∙ ap ordering_reverse h)

-- nothing of what stands above a key is below it
none_below : (k : KeptKey) (es : Places) → AllAbove k es → below key_cmp key_of k (shown es) ≡ []
none_below k [] all = refl
none_below k (e ∷ es) all = go e.1 (none_below k es all.1)
  where
    go : (body : Option (List ℕ)) → below key_cmp key_of k (shown es) ≡ [] → below key_cmp key_of k (placed e.0 body (shown es)) ≡ []
    go None later = later
    go (Some b) later = rw (never_below k e.0 all.0) later

-- all of what stands above a key is above it
all_above : (k : KeptKey) (es : Places) → AllAbove k es → above key_cmp key_of k (shown es) ≡ shown es
all_above k [] all = refl
all_above k (e ∷ es) all = go e.1 (all_above k es all.1)
  where
    go : (body : Option (List ℕ)) → above key_cmp key_of k (shown es) ≡ shown es → above key_cmp key_of k (placed e.0 body (shown es)) ≡ placed e.0 body (shown es)
    go None later = later
    go (Some b) later = rw (ap is_lt all.0) (ap (λ rest. row_at e.0 b ∷ rest) later)

-- each key is below those after it
abbrev pub Rises : Places → Type 0
Rises [] = Unit {0}
Rises (e ∷ es) = AllAbove e.0 es × Rises es

pub rises : (es : Places) → IsStrictlySortedBy key_cmp (keys_of es) → Rises es
unfolding IsStrictlySortedBy
rises [] up = tt
rises (e ∷ es) up = (up.0, rises es up.1)

above_tie : (k q : KeptKey) (es : Places) → key_cmp k q ≡ Equal → AllAbove q es → AllAbove k es
above_tie k q [] tie all = tt
above_tie k q (e ∷ es) tie all = (key_total.congr k q e.0 tie ∙ all.0, above_tie k q es tie all.1)

above_less : (k q : KeptKey) (es : Places) → key_cmp k q ≡ Less → AllAbove q es → AllAbove k es
above_less k q [] less all = tt
above_less k q (e ∷ es) less all = (key_total.trans k q e.0 less all.0, above_less k q es less all.1)

back : (a b : KeptKey) (o : Ordering) → key_cmp a b ≡ o → key_cmp b a ≡ ordering_reverse o
back a b o h = key_total.antisymm b a ∙ ap ordering_reverse h

both_none : (k : KeptKey) (es : Places) → AllAbove k es → without_key key_cmp key_of k (shown es) ≡ shown es
both_none k es all = ap₂ ◌++◌ (none_below k es all) (all_above k es all)

-- ---- a row taken out

pub shown-emptied : (k : KeptKey) (es : Places) → Rises es → shown (set_value (is_at (key_cmp k)) es None) ≡ without_key key_cmp key_of k (shown es)
shown-emptied k [] up = refl
shown-emptied k (e ∷ es) up = go (key_cmp k e.0) refl (shown-emptied k es up.1)
  where
    tied : (body : Option (List ℕ)) → key_cmp k e.0 ≡ Equal → shown es ≡ without_key key_cmp key_of k (placed e.0 body (shown es))
    tied None tie = sym (both_none k es (above_tie k e.0 es tie up.0))
    tied (Some b) tie = rw (ap is_lt (back k e.0 Equal tie), ap is_lt tie) (sym (both_none k es (above_tie k e.0 es tie up.0)))

    later : (body : Option (List ℕ)) → key_cmp k e.0 ≡ Greater → placed e.0 body (without_key key_cmp key_of k (shown es)) ≡ without_key key_cmp key_of k (placed e.0 body (shown es))
    later None more = refl
    later (Some b) more = rw (ap is_lt (back k e.0 Greater more), ap is_lt more) refl

    go : (o : Ordering) → key_cmp k e.0 ≡ o → shown (set_value (is_at (key_cmp k)) es None) ≡ without_key key_cmp key_of k (shown es)
        → shown (cond (is_eq o) ((e.0, None) ∷ es) (e ∷ set_value (is_at (key_cmp k)) es None)) ≡ without_key key_cmp key_of k (placed e.0 e.1 (shown es))
    go Equal tie ih = tied e.1 tie
    go Less less ih =
        let all = above_less k e.0 es less up.0 in
        ap (placed e.0 e.1) (ih ∙ both_none k es all) ∙ sym (both_none k (e ∷ es) (less, all))
    go Greater more ih = ap (placed e.0 e.1) ih ∙ later e.1 more

-- ---- a row put in

both_equal : (o p : Ordering) → ordering_then o p ≡ Equal → (o ≡ Equal) × (p ≡ Equal)
both_equal Less p h = cc
both_equal Equal p h = (refl, h)
both_equal Greater p h = cc

same_bytes : (a b : List ℕ) → slice_cmp nat_cmp a b ≡ Equal → a ≡ b
same_bytes a b e = (bytes_eq-Decides a b).0 (sym (is_eq-slice_cmp a b) ∙ ap is_eq e)

pub same_key : (a b : KeptKey) → key_cmp a b ≡ Equal → a ≡ b
same_key a b e =
    let both = both_equal (slice_cmp nat_cmp a.table b.table) (slice_cmp nat_cmp a.id b.id) e in
    ap₂ (λ (t i : List ℕ). let k : KeptKey = record { table = t; id = i } in k) (same_bytes a.table b.table both.0) (same_bytes a.id b.id both.1)

no_place : (k : KeptKey) (es : Places) → AllAbove k es → has_place k es ≡ false
no_place k [] all = refl
no_place k (e ∷ es) all = rw (ap is_eq all.0) (no_place k es all.1)

pub shown-filled : (k : KeptKey) (b : List ℕ) (es : Places) → Rises es → has_place k es ≡ true
    → shown (set_value (is_at (key_cmp k)) es (Some b)) ≡ with_item key_cmp key_of (row_at k b) (shown es)
shown-filled k b [] up is = cc
shown-filled k b (e ∷ es) up is = go (key_cmp k e.0) refl is (shown-filled k b es up.1)
  where
    tied : (body : Option (List ℕ)) → key_cmp k e.0 ≡ Equal → row_at e.0 b ∷ shown es ≡ with_item key_cmp key_of (row_at k b) (placed e.0 body (shown es))
    tied None tie =
        let all = above_tie k e.0 es tie up.0 in
        ap₂ (λ (q : KeptKey) rest. row_at q b ∷ rest) (sym (same_key k e.0 tie)) (sym (all_above k es all)) ∙ ap (λ front. front ++ row_at k b ∷ above key_cmp key_of k (shown es)) (sym (none_below k es all))
    tied (Some c) tie =
        let all = above_tie k e.0 es tie up.0 in
        rw (ap is_lt (back k e.0 Equal tie), ap is_lt tie) (
        ap₂ (λ (q : KeptKey) rest. row_at q b ∷ rest) (sym (same_key k e.0 tie)) (sym (all_above k es all)) ∙ ap (λ front. front ++ row_at k b ∷ above key_cmp key_of k (shown es)) (sym (none_below k es all))
        )

    later : (body : Option (List ℕ)) → key_cmp k e.0 ≡ Greater → placed e.0 body (with_item key_cmp key_of (row_at k b) (shown es)) ≡ with_item key_cmp key_of (row_at k b) (placed e.0 body (shown es))
    later None more = refl
    later (Some c) more = rw (ap is_lt (back k e.0 Greater more), ap is_lt more) refl

    go : (o : Ordering) → key_cmp k e.0 ≡ o → is_some (cond (is_eq o) (Some e.1) (lookup (is_at (key_cmp k)) es)) ≡ true
        → (has_place k es ≡ true → shown (set_value (is_at (key_cmp k)) es (Some b)) ≡ with_item key_cmp key_of (row_at k b) (shown es))
        → shown (cond (is_eq o) ((e.0, Some b) ∷ es) (e ∷ set_value (is_at (key_cmp k)) es (Some b))) ≡ with_item key_cmp key_of (row_at k b) (placed e.0 e.1 (shown es))
    go Equal tie here ih = tied e.1 tie
    go Less less here ih = absurd (let none = no_place k es (above_less k e.0 es less up.0) in cc)
    go Greater more here ih = ap (placed e.0 e.1) (ih here) ∙ later e.1 more

-- ---- places made and taken away

pub shown-place : (k : KeptKey) (es : Places) → has_place k es ≡ false → shown (insert_entry key_cmp es k None) ≡ shown es
shown-place k [] none = refl
shown-place k (e ∷ es) none = go (key_cmp k e.0) none (shown-place k es)
  where
    go : (o : Ordering) → is_some (cond (is_eq o) (Some e.1) (lookup (is_at (key_cmp k)) es)) ≡ false → (has_place k es ≡ false → shown (insert_entry key_cmp es k None) ≡ shown es)
        → shown (match_ordering o ((k, None) ∷ e ∷ es) ((e.0, None) ∷ es) (e ∷ insert_entry key_cmp es k None)) ≡ placed e.0 e.1 (shown es)
    go Less h later = refl
    go Equal h later = cc
    go Greater h later = ap (placed e.0 e.1) (later h)

pub shown-swept : (k : KeptKey) (es : Places) → lookup (is_at (key_cmp k)) es ≡ Some None → shown (remove_entry (is_at (key_cmp k)) es) ≡ shown es
shown-swept k [] found = cc
shown-swept k (e ∷ es) found = go (is_at (key_cmp k) e.0) found (shown-swept k es)
  where
    go : (b : Bool) → cond b (Some e.1) (lookup (is_at (key_cmp k)) es) ≡ Some None → (lookup (is_at (key_cmp k)) es ≡ Some None → shown (remove_entry (is_at (key_cmp k)) es) ≡ shown es)
        → shown (cond b es (e ∷ remove_entry (is_at (key_cmp k)) es)) ≡ placed e.0 e.1 (shown es)
    go true h later = let none : e.1 ≡ None = cc in sym (ap (λ body. placed e.0 body (shown es)) none)
    go false h later = ap (placed e.0 e.1) (later h)

pub has_place-set : (q : KeptKey) (test : KeptKey → Bool) (es : Places) (w : Option (List ℕ)) → has_place q (set_value test es w) ≡ has_place q es
has_place-set q test [] w = refl
has_place-set q test (e ∷ es) w = go (test e.0) (is_at (key_cmp q) e.0) (has_place-set q test es w)
  where
    go : (b c : Bool) → has_place q (set_value test es w) ≡ has_place q es
        → is_some (lookup (is_at (key_cmp q)) (cond b ((e.0, w) ∷ es) (e ∷ set_value test es w))) ≡ is_some (cond (is_at (key_cmp q) e.0) (Some e.1) (lookup (is_at (key_cmp q)) es))
    go true c ih = elim (is_at (key_cmp q) e.0) as (λ d. is_some (cond d (Some w) (lookup (is_at (key_cmp q)) es)) ≡ is_some (cond d (Some e.1) (lookup (is_at (key_cmp q)) es))) [ true ↦ refl | false ↦ refl ]
    go false c ih = elim (is_at (key_cmp q) e.0) as (λ d. is_some (cond d (Some e.1) (lookup (is_at (key_cmp q)) (set_value test es w))) ≡ is_some (cond d (Some e.1) (lookup (is_at (key_cmp q)) es))) [ true ↦ refl | false ↦ ih ]

pub has_place-updated : (b : Bool) (v : Option (List ℕ)) (old new : Option (Option (List ℕ))) → new ≡ cond b (Some v) old → is_some old ≡ true → is_some new ≡ true
has_place-updated true v old new is has = ap is_some is
has_place-updated false v old new is has = ap is_some is ∙ has

pub places-keep : (fs : List Filing) (old new : Places) → ((q : KeptKey) → has_place q old ≡ true → has_place q new ≡ true) → have_places fs old ≡ true → have_places fs new ≡ true
places-keep [] old new keeps all = refl
places-keep (f ∷ fs) old new keeps all =
    let both = and_parts (has_place f.key old) (have_places fs old) all in
    rw (keeps f.key both.0) (places-keep fs old new keeps both.1)

pub places-more : (fs : List Filing) (f : Filing) (es : Places) → have_places fs es ≡ true → has_place f.key es ≡ true → have_places (fs ++ f ∷ []) es ≡ true
places-more [] f es all is = rw is refl
places-more (g ∷ fs) f es all is =
    let both = and_parts (has_place g.key es) (have_places fs es) all in
    rw both.0 (places-more fs f es both.1 is)

pub places-same : (fs : List Filing) (old new : Places) → ((q : KeptKey) → has_place q new ≡ has_place q old) → have_places fs old ≡ true → have_places fs new ≡ true
places-same fs old new same all = places-keep fs old new (λ q has. same q ∙ has) all

-- one key more is taken out
pub emptied_more : (keys : List KeptKey) (i : ℕ) (k : KeptKey) (old new : Places) (was : List KeptRow) → drop i keys ≡ k ∷ drop (i + 1) keys → Rises old → new ≡ set_value (is_at (key_cmp k)) old None
    → without_keys key_cmp key_of (drop i keys) (shown old) ≡ was → without_keys key_cmp key_of (drop (i + 1) keys) (shown new) ≡ was
emptied_more keys i k old new was next up is so =
    ap (without_keys key_cmp key_of (drop (i + 1) keys)) (ap shown is ∙ shown-emptied k old up) ∙ ap (λ ks. without_keys key_cmp key_of ks (shown old)) (sym next) ∙ so

-- one row more is put in
pub filled_more : (rest : List Filing) (f : Filing) (old new : Places) (was : List KeptRow) → Rises old → have_places (f ∷ rest) old ≡ true → new ≡ set_value (is_at (key_cmp f.key)) old (Some f.body)
    → with_items key_cmp key_of (map row_of (f ∷ rest)) (shown old) ≡ was
    → (have_places rest new ≡ true) × (with_items key_cmp key_of (map row_of rest) (shown new) ≡ was)
filled_more rest f old new was up has is so =
    let both = and_parts (has_place f.key old) (have_places rest old) has in (
      places-same rest old new (λ q. ap (has_place q) is ∙ has_place-set q (is_at (key_cmp f.key)) old (Some f.body)) both.1,
      ap (with_items key_cmp key_of (map row_of rest)) (ap shown is ∙ shown-filled f.key f.body old up both.0) ∙ so,
    )
