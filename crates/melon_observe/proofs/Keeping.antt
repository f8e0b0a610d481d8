-- What members keep when one is put or removed, and what is found among them.
use Rattle.std.proofs.Common.{◌≡◌, ℕ, List, [], ◌∷◌, ◌++◌, length, map, filter, Bool, true, false, cond, ◌&&◌, eqb, Some, slice_get, take, ◌+◌, refl, sym, ap, ◌∙◌}
use Rattle.std.specs.List.{list_all}
use Rattle.std.proofs.lemmas.Bool.{eq-eqb, eqb-true}
use Rattle.std.proofs.lemmas.List.{nil_from_length, length-map, map-append}
use Rattle.std.proofs.lemmas.List.Elements.{filter-append}
use Rattle.melon_eval.proofs.Steps.{taken_at}
use Rattle.melon_query.specs.declared.query.Cond.{Cond}
use Rattle.melon_raw.specs.declared.raw.Raw.{Raw}
use Rattle.melon_raw.specs.Order.{is_below}
use Rattle.melon_raw.specs.Rows.{Rows, cell}
use Rattle.melon_raw.specs.Rows as rows
use Rattle.melon_table.proofs.Order.{below_trans, and_left, and_right, both, all_filter, all_append, all_mono, filter_passes}
use Rattle.melon_query.specs.declared.query.Query.{Query}
use Rattle.melon_query.specs.Tuples.{rows_of}
use Rattle.melon_query.specs.Simple.{is_simple}
use Rattle.melon_views.specs.declared.emission.Shape.{Shape}
use Rattle.melon_views.specs.declared.emission.Shape.TheVariants.{Ids, Columns}
use Rattle.melon_query.specs.declared.shown.Shown.{Shown}
use Rattle.melon_views.specs.Views.{shown}
use Rattle.melon_query.specs.Shown.{shown_row}
use Rattle.melon_views.specs.Members.{columns_of, chooses, told}
use Rattle.melon_views.proofs.Same.{shown_path}
use Rattle.melon_views.proofs.Chosen.{members, bare, shown_told}
use Rattle.melon_observe.specs.Members.{is_ascending, below, above, put_member, without_member, have_cells}
use Rattle.melon_observe.specs.Patches.{patched, all_patched}
use Rattle.melon_observe.specs.declared.patching.Patch.{Patch}
use Rattle.melon_observe.specs.declared.patching.Patch.TheVariants.{Put, Remove}

-- ---- members stay in order

ascending_choice : (m : Shown) (q : Shown → Bool) (ms : List Shown) (b : Bool) → list_all (λ n. is_below m.id n.id) ms ≡ true → is_ascending (filter q ms) ≡ true → is_ascending (cond b (m ∷ filter q ms) (filter q ms)) ≡ true
ascending_choice m q ms true all asc = both _ _ (all_filter (λ n. is_below m.id n.id) q ms all) asc
ascending_choice m q ms false all asc = asc

ascending_filter : (q : Shown → Bool) (ms : List Shown) → is_ascending ms ≡ true → is_ascending (filter q ms) ≡ true
ascending_filter q [] asc = refl
ascending_filter q (m ∷ ms) asc = ascending_choice m q ms (q m) (and_left (list_all (λ n. is_below m.id n.id) ms) _ asc) (ascending_filter q ms (and_right (list_all (λ n. is_below m.id n.id) ms) _ asc))

-- members below an id, and then members that aren't, ascend
ascending_append : (ms ns : List Shown) (id : List ℕ) → is_ascending ms ≡ true → is_ascending ns ≡ true → list_all (λ m. is_below m.id id) ms ≡ true
    → ((m : Shown) → is_below m.id id ≡ true → list_all (λ n. is_below m.id n.id) ns ≡ true) → is_ascending (ms ++ ns) ≡ true
ascending_append [] ns id p q low over = q
ascending_append (m ∷ ms) ns id p q low over = both _ _
    (all_append (λ n. is_below m.id n.id) ms ns (and_left (list_all (λ n. is_below m.id n.id) ms) _ p) (over m (and_left (is_below m.id id) _ low)))
    (ascending_append ms ns id (and_right (list_all (λ n. is_below m.id n.id) ms) _ p) q (and_right (is_below m.id id) _ low) over)

over_above : (id : List ℕ) (ms : List Shown) (m : Shown) → is_below m.id id ≡ true → list_all (λ n. is_below m.id n.id) (above id ms) ≡ true
over_above id ms m l = all_mono (λ n. is_below id n.id) (λ n. is_below m.id n.id) (above id ms) (filter_passes (λ n. is_below id n.id) ms) (λ n h. below_trans m.id id n.id l h)

ascending-put : (m : Shown) (ms : List Shown) → is_ascending ms ≡ true → is_ascending (put_member m ms) ≡ true
ascending-put m ms asc = ascending_append (below m.id ms) (m ∷ above m.id ms) m.id
    (ascending_filter (λ n. is_below n.id m.id) ms asc)
    (both _ _ (filter_passes (λ n. is_below m.id n.id) ms) (ascending_filter (λ n. is_below m.id n.id) ms asc))
    (filter_passes (λ n. is_below n.id m.id) ms)
    (λ n l. both _ _ l (over_above m.id ms n l))

ascending-without : (id : List ℕ) (ms : List Shown) → is_ascending ms ≡ true → is_ascending (without_member id ms) ≡ true
ascending-without id ms asc = ascending_append (below id ms) (above id ms) id
    (ascending_filter (λ n. is_below n.id id) ms asc)
    (ascending_filter (λ n. is_below id n.id) ms asc)
    (filter_passes (λ n. is_below n.id id) ms)
    (λ n l. over_above id ms n l)

pub ascending-patched : (p : Patch) (ms : List Shown) → is_ascending ms ≡ true → is_ascending (patched p ms) ≡ true
ascending-patched (Put m) ms asc = ascending-put m ms asc
ascending-patched (Remove id) ms asc = ascending-without id ms asc

pub ascending-all_patched : (ps : List Patch) (ms : List Shown) → is_ascending ms ≡ true → is_ascending (all_patched ms ps) ≡ true
ascending-all_patched [] ms asc = asc
ascending-all_patched (p ∷ ps) ms asc = ascending-all_patched ps (patched p ms) (ascending-patched p ms asc)

above_row : (columns : List ℕ) (id : List ℕ) (rs : List Raw) → list_all (λ (m : Shown). is_below id m.id) (map (shown_row columns) rs) ≡ list_all (λ (r : Raw). is_below id r.id) rs
above_row columns id [] = refl
above_row columns id (r ∷ rs) = ap (λ b. is_below id r.id && b) (above_row columns id rs)

-- shown rows ascend as the rows do
pub ascending-shown : (columns : List ℕ) (rs : List Raw) → is_ascending (map (shown_row columns) rs) ≡ rows.is_ascending rs
ascending-shown columns [] = refl
ascending-shown columns (r ∷ rs) =
    ap (λ b. b && is_ascending (map (shown_row columns) rs)) (above_row columns r.id rs) ∙ ap (λ b. list_all (λ (x : Raw). is_below r.id x.id) rs && b) (ascending-shown columns rs)

-- ---- members have their cells

pub cells-shown : (s : Shape) (rs : List Raw) → have_cells s (map (shown_row (columns_of s)) rs) ≡ true
cells-shown s [] = refl
cells-shown s (r ∷ rs) = both _ _ (eq-eqb _ _ (length-map (columns_of s) (cell r))) (cells-shown s rs)

-- members are what they show, since each has its cells
bare_is : (ms : List Shown) → have_cells Ids ms ≡ true → ms ≡ map bare (map (λ (m : Shown). m.id) ms)
bare_is [] h = refl
bare_is (m ∷ ms) h =
    let none : m.cells ≡ [] = nil_from_length m.cells (eqb-true (length m.cells) 0 (and_left (eqb (length m.cells) 0) (have_cells Ids ms) h)) in
    ap (λ (n : Shown). n ∷ ms) (shown_path m (bare m.id) refl none) ∙ ap (λ (ns : List Shown). bare m.id ∷ ns) (bare_is ms (and_right (eqb (length m.cells) 0) (have_cells Ids ms) h))

told_is : (s : Shape) (ms ns : List Shown) → have_cells s ms ≡ true → have_cells s ns ≡ true → told s ms ≡ told s ns → ms ≡ ns
told_is Ids ms ns h k e =
    let ids : map (λ (m : Shown). m.id) ms ≡ map (λ (m : Shown). m.id) ns = cc in
    bare_is ms h ∙ ap (map bare) ids ∙ sym (bare_is ns k)
told_is (Columns columns) ms ns h k e = cc

-- what is kept as the view of some rows are their members
pub kept_members : (q : Query) (s : Shape) (ms : List Shown) (now : Rows) → is_simple q ≡ true → rows.is_ascending (rows_of q.table now) ≡ true → have_cells s ms ≡ true → told s ms ≡ shown q s now → ms ≡ members q (columns_of s) now
kept_members q s ms now simple asc cells e =
    told_is s ms (members q (columns_of s) now) cells (cells-shown s (filter (chooses q.conds) (rows_of q.table now))) (e ∙ shown_told q s now simple asc)

-- one row more
pub members_more : (columns : List ℕ) (conds : List Cond) (rs : List Raw) (i : ℕ) (r : Raw) → slice_get rs i ≡ Some r
    → map (shown_row columns) (filter (chooses conds) (take i rs)) ++ map (shown_row columns) (filter (chooses conds) (r ∷ [])) ≡ map (shown_row columns) (filter (chooses conds) (take (i + 1) rs))
members_more columns conds rs i r here =
    sym (
    ap (λ (xs : List Raw). map (shown_row columns) (filter (chooses conds) xs)) (taken_at rs i r here)
    ∙ ap (map (shown_row columns)) (filter-append (chooses conds) (take i rs) (r ∷ []))
    ∙ map-append (shown_row columns) (filter (chooses conds) (take i rs)) (filter (chooses conds) (r ∷ []))
    )
