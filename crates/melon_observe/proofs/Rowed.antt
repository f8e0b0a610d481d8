-- Each id of an answer has its row, so no id is left out of the rows that are shown.
use Rattle.std.proofs.Common.{◌≡◌, ℕ, zero, suc, List, [], ◌∷◌, Bool, true, false, cond, Option, Some, None, bytes_eq, map, filter, take, drop, refl, sym, ap, ◌∙◌, subst}
use Rattle.std.specs.List.{AllByRecursion, cons_option}
use Rattle.std.specs.Option.{option_map}
use Rattle.std.proofs.lemmas.Slice.Eq.{bytes_eq-Decides}
use Rattle.melon_raw.specs.declared.raw.Raw.{Raw}
use Rattle.melon_raw.specs.Rows.{Rows, at_id}
use Rattle.melon_query.specs.declared.query.Query.{Query}
use Rattle.melon_query.specs.declared.shown.Shown.{Shown}
use Rattle.melon_query.specs.Tuples.{rows_of}
use Rattle.melon_query.specs.Order.{placed, in_order, comes_before}
use Rattle.melon_query.specs.Fresh.{is_chosen, at_most, fresh}
use Rattle.melon_query.specs.Shown.{shown_row}
use Rattle.melon_eval.specs.Projected.{projected}
use Rattle.melon_views.specs.declared.emission.Shape.{Shape}
use Rattle.melon_views.specs.declared.emission.Shape.TheVariants.{Columns}
use Rattle.melon_views.specs.declared.emission.Emission.TheVariants as emission
use Rattle.melon_views.specs.Views.{cell_of, shown_at, shown_rows, shown}

-- one of the rows is that of the id
abbrev HasRow : List Raw → List ℕ → Type 0
HasRow rows id = (r : Raw) × (at_id id rows ≡ Some r) × (r.id ≡ id)

has_more : (x : Raw) (xs : List Raw) (id : List ℕ) (b : Bool) → bytes_eq x.id id ≡ b → HasRow xs id → HasRow (x ∷ xs) id
has_more x xs id true e has = (x, rw e refl, (bytes_eq-Decides x.id id).0 e)
has_more x xs id false e has = (has.0, rw e has.1, has.2)

all_more : (x : Raw) (xs some : List Raw) → AllByRecursion (λ r. HasRow xs r.id) some → AllByRecursion (λ r. HasRow (x ∷ xs) r.id) some
all_more x xs [] h = tt
all_more x xs (r ∷ rs) h = (has_more x xs r.id (bytes_eq x.id r.id) refl h.0, all_more x xs rs h.1)

own_rows : (rows : List Raw) → AllByRecursion (λ r. HasRow rows r.id) rows
own_rows [] = tt
own_rows (x ∷ xs) = ((x, rw ((bytes_eq-Decides x.id x.id).1 refl) refl, refl), all_more x xs xs (own_rows xs))

-- ---- of what all rows have, all rows of an answer have it

module _ (P : Raw → Type 0) where
  choice : (x : Raw) (xs : List Raw) (b : Bool) → P x → AllByRecursion P xs → AllByRecursion P (cond b (x ∷ xs) xs)
  choice x xs true h all = (h, all)
  choice x xs false h all = all

  all_filtered : (p : Raw → Bool) (xs : List Raw) → AllByRecursion P xs → AllByRecursion P (filter p xs)
  all_filtered p [] all = tt
  all_filtered p (x ∷ xs) all = choice x (filter p xs) (p x) all.0 (all_filtered p xs all.1)

  place : (x y : Raw) (ys zs : List Raw) (b : Bool) → P x → P y → AllByRecursion P ys → AllByRecursion P zs → AllByRecursion P (cond b (y ∷ zs) (x ∷ y ∷ ys))
  place x y ys zs true h k all more = (k, more)
  place x y ys zs false h k all more = (h, (k, all))

  all_placed : (before : Raw → Raw → Bool) (x : Raw) (xs : List Raw) → P x → AllByRecursion P xs → AllByRecursion P (placed before x xs)
  all_placed before x [] h all = (h, tt)
  all_placed before x (y ∷ ys) h all = place x y ys (placed before x ys) (before y x) h all.0 all.1 (all_placed before x ys h all.1)

  all_ordered : (before : Raw → Raw → Bool) (xs : List Raw) → AllByRecursion P xs → AllByRecursion P (in_order before xs)
  all_ordered before [] all = tt
  all_ordered before (x ∷ xs) all = all_placed before x (in_order before xs) all.0 (all_ordered before xs all.1)

  all_dropped : (n : ℕ) (xs : List Raw) → AllByRecursion P xs → AllByRecursion P (drop n xs)
  all_dropped zero xs all = all
  all_dropped (suc n) [] all = tt
  all_dropped (suc n) (x ∷ xs) all = all_dropped n xs all.1

  all_taken : (n : ℕ) (xs : List Raw) → AllByRecursion P xs → AllByRecursion P (take n xs)
  all_taken zero xs all = tt
  all_taken (suc n) [] all = tt
  all_taken (suc n) (x ∷ xs) all = (all.0, all_taken n xs all.1)

  all_at_most : (most : Option ℕ) (xs : List Raw) → AllByRecursion P xs → AllByRecursion P (at_most most xs)
  all_at_most None xs all = all
  all_at_most (Some n) xs all = all_taken n xs all

all_ids : (rows some : List Raw) → AllByRecursion (λ r. HasRow rows r.id) some → AllByRecursion (HasRow rows) (map (λ (r : Raw). r.id) some)
all_ids rows [] all = tt
all_ids rows (r ∷ rs) all = (all.0, all_ids rows rs all.1)

answered : (q : Query) (tables : Rows) → AllByRecursion (HasRow (rows_of q.table tables)) (fresh q tables)
unfolding fresh
answered q tables =
    let rows = rows_of q.table tables in
    let P = λ (r : Raw). HasRow rows r.id in
    let chosen = filter (is_chosen q.conds tables) rows in
    let ordered = in_order (comes_before q.sort) chosen in
    all_ids rows (at_most q.take (drop q.skip ordered))
    (all_at_most P q.take (drop q.skip ordered) (all_dropped P q.skip ordered (all_ordered P (comes_before q.sort) chosen (all_filtered P (is_chosen q.conds tables) rows (own_rows rows)))))

-- ---- what is shown of them

shown_one : (columns : List ℕ) (id : List ℕ) (o : Option Raw) (r : Raw) (rest others : List Shown) → o ≡ Some r → r.id ≡ id → rest ≡ others
    → cons_option (option_map (shown_row columns) o) rest ≡ record { id = id; cells = map (cell_of o) columns } ∷ others
shown_one columns id o r rest others is own same =
    ap (λ (p : Option Raw). cons_option (option_map (shown_row columns) p) rest) is
    ∙ ((λ i. record { id = own i; cells = map (cell_of (Some r)) columns } ∷ same i)
    ∙ ap (λ (p : Option Raw). record { id = id; cells = map (cell_of p) columns } ∷ others) (sym is))

all_shown : (columns : List ℕ) (rows : List Raw) (ids : List (List ℕ)) → AllByRecursion (HasRow rows) ids → projected columns ids rows ≡ map (shown_at columns rows) ids
unfolding projected
all_shown columns rows [] all = refl
all_shown columns rows (id ∷ ids) all = shown_one columns id (at_id id rows) all.0.0 (projected columns ids rows) (map (shown_at columns rows) ids) all.0.1 all.0.2 (all_shown columns rows ids all.1)

-- the rows of an answer's ids, each with these cells
projected_answer : (q : Query) (columns : List ℕ) (tables : Rows) → projected columns (fresh q tables) (rows_of q.table tables) ≡ shown_rows q columns tables
projected_answer q columns tables = all_shown columns (rows_of q.table tables) (fresh q tables) (answered q tables)

none_shown : (columns : List ℕ) (ids : List (List ℕ)) → AllByRecursion (HasRow []) ids → [] ≡ map (shown_at columns []) ids
none_shown columns [] all = refl
none_shown columns (id ∷ ids) all = let e : None ≡ Some all.0.0 = all.0.1 in cc

-- of a table that isn't there nothing is shown
no_answer : (q : Query) (columns : List ℕ) (tables : Rows) → rows_of q.table tables ≡ [] → [] ≡ shown_rows q columns tables
no_answer q columns tables none =
    none_shown columns (fresh q tables) (subst (λ (rows : List Raw). AllByRecursion (HasRow rows) (fresh q tables)) none (answered q tables))
    ∙ ap (λ (rows : List Raw). map (shown_at columns rows) (fresh q tables)) (sym none)

pub shown_there : (q : Query) (s : Shape) (columns : List ℕ) (tables : Rows) (ids : List (List ℕ)) (rows : List Raw) (given : List Shown)
    → s ≡ Columns columns → ids ≡ fresh q tables → rows ≡ rows_of q.table tables → given ≡ projected columns ids rows → emission.Rows given ≡ shown q s tables
shown_there q s columns tables ids rows given named answer there is =
    ap emission.Rows (is ∙ (ap (λ (l : List (List ℕ)). projected columns l rows) answer ∙ (ap (projected columns (fresh q tables)) there ∙ projected_answer q columns tables)))
    ∙ ap (λ (t : Shape). shown q t tables) (sym named)

pub shown_nowhere : (q : Query) (s : Shape) (columns : List ℕ) (tables : Rows) (given : List Shown)
    → s ≡ Columns columns → rows_of q.table tables ≡ [] → given ≡ [] → emission.Rows given ≡ shown q s tables
shown_nowhere q s columns tables given named none is = ap emission.Rows (is ∙ no_answer q columns tables none) ∙ ap (λ (t : Shape). shown q t tables) (sym named)
