-- The answer of a simple query: its members, as they lie.
use Rattle.std.proofs.Common.{◌≡◌, ℕ, List, [], ◌∷◌, ◌++◌, length, Bool, true, false, ◌&&◌, ◌||◌, not, cond, Option, Some, None, is_none, eqb, map, filter, take, drop, refl, sym, ap, ◌∙◌, subst}
use Rattle.std.specs.List.{AllByRecursion, list_all, list_any}
use Rattle.std.proofs.lemmas.Bool.{false≢true, and_parts, or_parts, not-true, eqb-true}
use Rattle.std.proofs.lemmas.List.{nil_from_length}
use Rattle.std.proofs.lemmas.List.Elements.{filter_agree}
use Rattle.melon_raw.specs.declared.raw.Raw.{Raw}
use Rattle.melon_raw.specs.Order.{is_below}
use Rattle.melon_raw.specs.Rows.{Rows, is_ascending, is_visible, at_id}
use Rattle.melon_table.proofs.Order.{bytes_same, below_apart, below_asym, and_left, and_right}
use Rattle.melon_table.proofs.ById.{is_ascending-filter}
use Rattle.melon_query.specs.declared.query.Cond.{Cond, map-Cond}
use Rattle.melon_query.specs.declared.query.Cond.TheOpen.{Cond-F}
use Rattle.melon_query.specs.declared.query.Cond.TheFolds.{fold-roll-Cond, ind-Cond}
use Rattle.melon_query.specs.declared.query.Query.{Query}
use Rattle.melon_query.specs.declared.query.SortKey.{SortKey}
use Rattle.melon_query.specs.declared.query.Joined.{Joined}
use Rattle.melon_query.specs.Tuples.{alone, members_over, rows_of}
use Rattle.melon_query.specs.Meaning.{all_hold, ons, ons_step, ons_of_each}
use Rattle.melon_query.specs.Order.{placed, in_order, comes_before}
use Rattle.melon_query.specs.Fresh.{all_ons, with_tables, joined_tables, some_members, is_chosen, at_most, fresh}
use Rattle.melon_query.specs.Simple.{one_true, has_on, has_on_step, one_has_on, is_simple}
use Rattle.melon_query.specs.declared.shown.Shown.{Shown}
use Rattle.melon_views.specs.declared.emission.Shape.{Shape}
use Rattle.melon_views.specs.declared.emission.Shape.TheVariants.{Ids, Columns}
use Rattle.melon_views.specs.declared.emission.Emission.TheVariants as emission
use Rattle.melon_views.specs.Views.{cell_of, shown_at, shown_rows, shown}
use Rattle.melon_query.specs.Shown.{shown_row}
use Rattle.melon_views.specs.Members.{columns_of, chooses, told}

-- ---- a query without `on`

abbrev IsBare : Cond → Type 0
IsBare c = has_on c ≡ false → ons c ≡ []

none_in : (cs : List ((c : Cond) × IsBare c)) → one_true (map has_on (map (λ e. e.0) cs)) ≡ false → ons_of_each (map ons (map (λ e. e.0) cs)) ≡ []
none_in [] h = refl
none_in (c ∷ cs) h =
    let parts = or_parts (has_on c.0) (one_true (map has_on (map (λ e. e.0) cs))) h in
    ap (λ js. js ++ ons_of_each (map ons (map (λ e. e.0) cs))) (c.1 parts.0) ∙ none_in cs parts.1

bare_step : (y : Cond-F ((c : Cond) × IsBare c)) → has_on_step (map-Cond Cond Bool has_on (map-Cond ((c : Cond) × IsBare c) Cond (λ e. e.0) y)) ≡ false
    → ons_step (map-Cond Cond (List Joined) ons (map-Cond ((c : Cond) × IsBare c) Cond (λ e. e.0) y)) ≡ []
bare_step (Cond-F.Compare by) h = refl
bare_step (Cond-F.All parts) h = none_in parts h
bare_step (Cond-F.Any parts) h = none_in parts h
bare_step (Cond-F.On table join parts) h = absurd (false≢true (sym h))

no_ons : (c : Cond) → IsBare c
no_ons = ind-Cond IsBare (λ x y is h.
    fold-roll-Cond (List Joined) ons_step x
    ∙ subst (λ z. has_on_step (map-Cond Cond Bool has_on z) ≡ false → ons_step (map-Cond Cond (List Joined) ons z) ≡ []) is (bare_step y) (sym (fold-roll-Cond Bool has_on_step x) ∙ h))

no_all_ons : (conds : List Cond) → one_has_on conds ≡ false → all_ons conds ≡ []
no_all_ons [] h = refl
no_all_ons (c ∷ cs) h = let parts = or_parts (has_on c) (one_has_on cs) h in ap (λ js. js ++ all_ons cs) (no_ons c parts.0) ∙ no_all_ons cs parts.1

or_false : (b : Bool) → b || false ≡ b
or_false true = refl
or_false false = refl

-- it is chosen by itself
pub chosen_alone : (conds : List Cond) (tables : List (List Raw)) (main : Raw) → one_has_on conds ≡ false → is_chosen conds tables main ≡ chooses conds main
unfolding joined_tables some_members members_over
chosen_alone conds tables main none =
    ap (λ js. is_visible main.status && some_members conds tables main [] (with_tables [] js)) (no_all_ons conds none)
    ∙ ap (λ b. is_visible main.status && b) (or_false (all_hold conds (alone main)))

-- ---- a simple query

pub record IsPlain (q : Query) : Type 0 where
  pub no_on : one_has_on q.conds ≡ false
  pub unsorted : q.sort ≡ []
  pub untaken : q.take ≡ None
  pub unskipped : q.skip ≡ 0

none_from : {X : Type 0} (o : Option X) → is_none o ≡ true → o ≡ None
none_from None h = refl
none_from (Some x) h = cc

pub plain : (q : Query) → is_simple q ≡ true → IsPlain q
unfolding is_simple
plain q h =
    let a = and_parts (not (one_has_on q.conds)) (eqb (length q.sort) 0 && (is_none q.take && eqb q.skip 0)) h in
    let b = and_parts (eqb (length q.sort) 0) (is_none q.take && eqb q.skip 0) a.1 in
    let c = and_parts (is_none q.take) (eqb q.skip 0) b.1 in
    record {
      no_on = not-true (one_has_on q.conds) a.0;
      unsorted = nil_from_length q.sort (eqb-true (length q.sort) 0 b.0);
      untaken = none_from q.take c.0;
      unskipped = eqb-true q.skip 0 c.1;
    }

placed_first : (r : Raw) (rs : List Raw) → list_all (λ x. is_below r.id x.id) rs ≡ true → placed (comes_before []) r rs ≡ r ∷ rs
placed_first r [] all = refl
placed_first r (x ∷ xs) all =
    ap (λ b. cond b (x ∷ placed (comes_before []) r xs) (r ∷ x ∷ xs)) (below_asym r.id x.id (and_left (is_below r.id x.id) _ all))

in_order_already : (rows : List Raw) → is_ascending rows ≡ true → in_order (comes_before []) rows ≡ rows
in_order_already [] asc = refl
in_order_already (r ∷ rs) asc =
    ap (placed (comes_before []) r) (in_order_already rs (and_right (list_all (λ x. is_below r.id x.id) rs) _ asc))
    ∙ placed_first r rs (and_left (list_all (λ x. is_below r.id x.id) rs) _ asc)

-- the ids of those that are chosen, as they lie
pub fresh_simple : (q : Query) (rows : Rows) → is_simple q ≡ true → is_ascending (rows_of q.table rows) ≡ true
    → fresh q rows ≡ map (λ (row : Raw). row.id) (filter (chooses q.conds) (rows_of q.table rows))
unfolding fresh
fresh_simple q rows simple asc =
    let p = plain q simple in
    let kept = filter (chooses q.conds) (rows_of q.table rows) in
    let agree : filter (is_chosen q.conds rows) (rows_of q.table rows) ≡ kept = filter_agree (is_chosen q.conds rows) (chooses q.conds) (λ row. chosen_alone q.conds rows row p.no_on) (rows_of q.table rows) in
    let ordered : in_order (comes_before q.sort) kept ≡ kept =
    ap (λ (keys : List SortKey). in_order (comes_before keys) kept) p.unsorted ∙ in_order_already kept (is_ascending-filter (chooses q.conds) (rows_of q.table rows) asc) in
    ap (λ (passed : List Raw). map (λ (row : Raw). row.id) (at_most q.take (drop q.skip (in_order (comes_before q.sort) passed)))) agree
    ∙ ap (λ (passed : List Raw). map (λ (row : Raw). row.id) (at_most q.take (drop q.skip passed))) ordered
    ∙ ap (λ (n : ℕ). map (λ (row : Raw). row.id) (at_most q.take (drop n kept))) p.unskipped
    ∙ ap (λ (most : Option ℕ). map (λ (row : Raw). row.id) (at_most most kept)) p.untaken

-- ---- their cells

later : (x : Raw) (xs some : List Raw) → list_all (λ y. is_below x.id y.id) some ≡ true → AllByRecursion (λ r. at_id r.id xs ≡ Some r) some → AllByRecursion (λ r. at_id r.id (x ∷ xs) ≡ Some r) some
later x xs [] all h = tt
later x xs (r ∷ rs) all h = (rw (below_apart x.id r.id (and_left (is_below x.id r.id) _ all)) h.0, later x xs rs (and_right (is_below x.id r.id) _ all) h.1)

-- each row is that of its id
own_rows : (rows : List Raw) → is_ascending rows ≡ true → AllByRecursion (λ r. at_id r.id rows ≡ Some r) rows
own_rows [] asc = tt
own_rows (x ∷ xs) asc = (
  rw (bytes_same x.id x.id refl) refl,
  later x xs xs (and_left (list_all (λ y. is_below x.id y.id) xs) _ asc) (own_rows xs (and_right (list_all (λ y. is_below x.id y.id) xs) _ asc)),
)

kept_choice : (P : Raw → Type 0) (r : Raw) (kept : List Raw) (b : Bool) → P r → AllByRecursion P kept → AllByRecursion P (cond b (r ∷ kept) kept)
kept_choice P r kept true h k = (h, k)
kept_choice P r kept false h k = k

all_kept : (P : Raw → Type 0) (p : Raw → Bool) (xs : List Raw) → AllByRecursion P xs → AllByRecursion P (filter p xs)
all_kept P p [] h = tt
all_kept P p (x ∷ xs) h = kept_choice P x (filter p xs) (p x) h.0 (all_kept P p xs h.1)

shown_of : (columns : List ℕ) (rows some : List Raw) → AllByRecursion (λ r. at_id r.id rows ≡ Some r) some → map (shown_at columns rows) (map (λ (r : Raw). r.id) some) ≡ map (shown_row columns) some
shown_of columns rows [] h = refl
shown_of columns rows (r ∷ rs) h =
    ap (λ (o : Option Raw). record { id = r.id; cells = map (cell_of o) columns } ∷ map (shown_at columns rows) (map (λ (x : Raw). x.id) rs)) h.0
    ∙ ap (λ (l : List Shown). shown_row columns r ∷ l) (shown_of columns rows rs h.1)

-- the members of a simple query's answer
abbrev pub members : Query → List ℕ → Rows → List Shown
members q columns rows = map (shown_row columns) (filter (chooses q.conds) (rows_of q.table rows))

pub shown_simple : (q : Query) (columns : List ℕ) (rows : Rows) → is_simple q ≡ true → is_ascending (rows_of q.table rows) ≡ true → shown_rows q columns rows ≡ members q columns rows
shown_simple q columns rows simple asc =
    ap (map (shown_at columns (rows_of q.table rows))) (fresh_simple q rows simple asc)
    ∙ shown_of columns (rows_of q.table rows) (filter (chooses q.conds) (rows_of q.table rows))
    (all_kept (λ r. at_id r.id (rows_of q.table rows) ≡ Some r) (chooses q.conds) (rows_of q.table rows) (own_rows (rows_of q.table rows) asc))

-- ---- what they show

ids_of_map : (columns : List ℕ) (rows : List Raw) → map (λ (r : Raw). r.id) rows ≡ map (λ (m : Shown). m.id) (map (shown_row columns) rows)
ids_of_map columns [] = refl
ids_of_map columns (r ∷ rs) = ap (λ (l : List (List ℕ)). r.id ∷ l) (ids_of_map columns rs)

pub shown_told : (q : Query) (s : Shape) (rows : Rows) → is_simple q ≡ true → is_ascending (rows_of q.table rows) ≡ true → shown q s rows ≡ told s (members q (columns_of s) rows)
shown_told q Ids rows simple asc = ap emission.Ids (fresh_simple q rows simple asc ∙ ids_of_map [] (filter (chooses q.conds) (rows_of q.table rows)))
shown_told q (Columns columns) rows simple asc = ap emission.Rows (shown_simple q columns rows simple asc)

abbrev pub bare : List ℕ → Shown
bare id = record { id = id; cells = [] }

bare_map : (rows : List Raw) → map (shown_row []) rows ≡ map bare (map (λ (m : Shown). m.id) (map (shown_row []) rows))
bare_map [] = refl
bare_map (r ∷ rs) = ap (λ (l : List Shown). shown_row [] r ∷ l) (bare_map rs)

-- members that show the same are the same
pub told_same : (s : Shape) (xs ys : List Raw) → told s (map (shown_row (columns_of s)) xs) ≡ told s (map (shown_row (columns_of s)) ys) → map (shown_row (columns_of s)) xs ≡ map (shown_row (columns_of s)) ys
told_same Ids xs ys h =
    let ids : map (λ (m : Shown). m.id) (map (shown_row []) xs) ≡ map (λ (m : Shown). m.id) (map (shown_row []) ys) = cc in
    bare_map xs ∙ ap (map bare) ids ∙ sym (bare_map ys)
told_same (Columns columns) xs ys h = cc
