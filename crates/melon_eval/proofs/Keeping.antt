-- What is kept of the choices of a table covers all of them, and is among them.
use Rattle.std.proofs.Common.{◌≡◌, ℕ, List, [], ◌∷◌, ◌++◌, Bool, true, false, ◌&&◌, ◌||◌, not, cond, Option, Some, None, nat_eq, map, filter, ap, sym, ◌∙◌, refl, ◌⊎◌, inl, inr, eq-eqb}
use Rattle.std.specs.List.{AllByRecursion, list_any, flat_map}
use Rattle.std.proofs.lemmas.Bool.{false≢true}
use Rattle.melon_raw.specs.declared.raw.Raw.{Raw}
use Rattle.melon_query.specs.declared.query.Cond.{Cond}
use Rattle.melon_query.specs.declared.query.Joined.{Joined}
use Rattle.melon_query.specs.Tuples.{or_absent, choices, is_choice, rows_of, with_each}
use Rattle.melon_query.specs.Meaning.{all_hold, every_of}
use Rattle.melon_query.specs.Fresh.{some_members}
use Rattle.melon_eval.specs.Asking.{Asked, asks_of, meets_any, is_below}
use Rattle.melon_eval.specs.Offers.{with_row, kept_rows, offer_at, members_of}
use Rattle.melon_eval.proofs.Covers.{product, IsBelow, SomeByRecursion, IsCovered}
use Rattle.melon_eval.proofs.Covered.{kept_suffice}

and_parts : (a b : Bool) → a && b ≡ true → (a ≡ true) × (b ≡ true)
and_parts true b e = (refl, e)
and_parts false b e = absurd (false≢true e)

or_parts : (a b : Bool) → a || b ≡ false → (a ≡ false) × (b ≡ false)
or_parts true b e = absurd (false≢true (sym e))
or_parts false b e = (refl, e)

-- ---- what the tests say

implied : (x y : Bool) → x || not y ≡ true → y ≡ true → x ≡ true
implied true y h e = refl
implied false true h e = absurd (false≢true h)
implied false false h e = e

below_by : (a : Asked) (rest : List Asked) (table : ℕ) (row other : Option Raw) (b : Bool) → nat_eq a.table table ≡ b
    → cond b ((every_of a.parts other || not (every_of a.parts row)) && is_below rest table row other) (is_below rest table row other) ≡ true
    → (a.table ≡ table → every_of a.parts row ≡ true → every_of a.parts other ≡ true) × (is_below rest table row other ≡ true)
below_by a rest table row other true e h = let both = and_parts _ _ h in ((λ same met. implied _ _ both.0 met), both.1)
below_by a rest table row other false e h = ((λ same met. absurd (false≢true (sym e ∙ eq-eqb a.table table same))), h)

below_is : (asks : List Asked) (table : ℕ) (row other : Option Raw) → is_below asks table row other ≡ true → IsBelow asks table row other
below_is [] table row other h = tt
below_is (a ∷ rest) table row other h =
    let parts = below_by a rest table row other (nat_eq a.table table) refl h in
    (parts.0, below_is rest table row other parts.1)

-- a row that meets nothing is below every one
nothing_by : (a : Asked) (rest : List Asked) (table : ℕ) (row : Option Raw) (b : Bool) → nat_eq a.table table ≡ b → cond b (every_of a.parts row || meets_any rest table row) (meets_any rest table row) ≡ false → (a.table ≡ table → every_of a.parts row ≡ false) × (meets_any rest table row ≡ false)
nothing_by a rest table row true e h = let both = or_parts _ _ h in ((λ same. both.0), both.1)
nothing_by a rest table row false e h = ((λ same. absurd (false≢true (sym e ∙ eq-eqb a.table table same))), h)

below_any : (asks : List Asked) (table : ℕ) (row other : Option Raw) → meets_any asks table row ≡ false → IsBelow asks table row other
below_any [] table row other h = tt
below_any (a ∷ rest) table row other h =
    let parts = nothing_by a rest table row (nat_eq a.table table) refl h in
    ((λ same met. absurd (false≢true (sym (parts.0 same) ∙ met))), below_any rest table row other parts.1)

absent_below : (asks : List Asked) (table : ℕ) (other : Option Raw) → IsBelow asks table None other
absent_below [] table other = tt
absent_below (a ∷ rest) table other = ((λ same met. absurd (false≢true met)), absent_below rest table other)

below_itself : (asks : List Asked) (table : ℕ) (row : Option Raw) → IsBelow asks table row row
below_itself [] table row = tt
below_itself (a ∷ rest) table row = ((λ same met. met), below_itself rest table row)

-- ---- lists

module _ {X : Type 0} (P : X → Type 0) where
  some_left : (xs ys : List X) → SomeByRecursion P xs → SomeByRecursion P (xs ++ ys)
  some_left [] ys h = absurd h
  some_left (x ∷ xs) ys (inl p) = inl p
  some_left (x ∷ xs) ys (inr h) = inr (some_left xs ys h)

  some_last : (xs : List X) (y : X) → P y → SomeByRecursion P (xs ++ y ∷ [])
  some_last [] y p = inl p
  some_last (x ∷ xs) y p = inr (some_last xs y p)

  all_last : (xs : List X) (y : X) → AllByRecursion P xs → P y → AllByRecursion P (xs ++ y ∷ [])
  all_last [] y h p = (p, tt)
  all_last (x ∷ xs) y h p = (h.0, all_last xs y h.1 p)

-- ---- what is kept

module _ (asks : List Asked) (table : ℕ) where
  -- the row is below one of these
  abbrev Under : Raw → List Raw → Type 0
  Under row others = SomeByRecursion (λ other. IsBelow asks table (Some row) (Some other)) others

  found_by : (row x : Raw) (xs : List Raw) (b : Bool) → is_below asks table (Some row) (Some x) ≡ b → b || list_any (λ other. is_below asks table (Some row) (Some other)) xs ≡ true
      → (list_any (λ other. is_below asks table (Some row) (Some other)) xs ≡ true → Under row xs) → Under row (x ∷ xs)
  found_by row x xs true e h later = inl (below_is asks table (Some row) (Some x) e)
  found_by row x xs false e h later = inr (later h)

  found : (row : Raw) (xs : List Raw) → list_any (λ other. is_below asks table (Some row) (Some other)) xs ≡ true → Under row xs
  found row [] h = absurd (false≢true h)
  found row (x ∷ xs) h = found_by row x xs (is_below asks table (Some row) (Some x)) refl h (found row xs)

  more_by : (row r : Raw) (kept : List Raw) (m l : Bool) → Under row kept → Under row (cond m (cond l kept (kept ++ r ∷ [])) kept)
  more_by row r kept true true h = h
  more_by row r kept true false h = some_left _ kept (r ∷ []) h
  more_by row r kept false l h = h

  stays : (row : Raw) (rows kept : List Raw) → Under row kept → Under row (kept_rows asks table kept rows)
  unfolding kept_rows
  stays row [] kept h = h
  stays row (r ∷ rs) kept h = stays row rs (with_row asks table kept r) (more_by row r kept (meets_any asks table (Some r)) (list_any (λ other. is_below asks table (Some r) (Some other)) kept) h)

  taken : (r : Raw) (kept : List Raw) (m l : Bool) → meets_any asks table (Some r) ≡ m → list_any (λ other. is_below asks table (Some r) (Some other)) kept ≡ l
      → (meets_any asks table (Some r) ≡ false) ⊎ Under r (cond m (cond l kept (kept ++ r ∷ [])) kept)
  taken r kept true true e f = inr (found r kept f)
  taken r kept true false e f = inr (some_last _ kept r (below_itself asks table (Some r)))
  taken r kept false l e f = inl e

  later : (r : Raw) (rs kept : List Raw) → (meets_any asks table (Some r) ≡ false) ⊎ Under r kept → (meets_any asks table (Some r) ≡ false) ⊎ Under r (kept_rows asks table kept rs)
  later r rs kept (inl e) = inl e
  later r rs kept (inr u) = inr (stays r rs kept u)

  each : (rows kept : List Raw) → AllByRecursion (λ r. (meets_any asks table (Some r) ≡ false) ⊎ Under r (kept_rows asks table kept rows)) rows
  unfolding kept_rows
  each [] kept = tt
  each (r ∷ rs) kept = (
    later r rs (with_row asks table kept r) (taken r kept (meets_any asks table (Some r)) (list_any (λ other. is_below asks table (Some r) (Some other)) kept) refl refl),
    each rs (with_row asks table kept r),
  )

  -- what holds of all rows holds of those that are kept
  with_by : (P : Raw → Type 0) (r : Raw) (kept : List Raw) (m l : Bool) → AllByRecursion P kept → P r → AllByRecursion P (cond m (cond l kept (kept ++ r ∷ [])) kept)
  with_by P r kept true true h p = h
  with_by P r kept true false h p = all_last P kept r h p
  with_by P r kept false l h p = h

  kept_from : (P : Raw → Type 0) (rows kept : List Raw) → AllByRecursion P kept → AllByRecursion P rows → AllByRecursion P (kept_rows asks table kept rows)
  unfolding kept_rows
  kept_from P [] kept h all = h
  kept_from P (r ∷ rs) kept h all = kept_from P rs (with_row asks table kept r) (with_by P r kept (meets_any asks table (Some r)) (list_any (λ other. is_below asks table (Some r) (Some other)) kept) h all.0) all.1

  under_more : (x : Raw) (rows others : List Raw) → AllByRecursion (λ r. Under r others) rows → AllByRecursion (λ r. Under r (x ∷ others)) rows
  under_more x [] others h = tt
  under_more x (r ∷ rs) others h = (inr h.0, under_more x rs others h.1)

  under_themselves : (rows : List Raw) → AllByRecursion (λ r. Under r rows) rows
  under_themselves [] = tt
  under_themselves (r ∷ rs) = (inl (below_itself asks table (Some r)), under_more r rs rs (under_themselves rs))

  -- ---- choices

  abbrev Covers : List (Option Raw) → List (Option Raw) → Type 0
  Covers some others = AllByRecursion (λ row. SomeByRecursion (λ other. IsBelow asks table row other) others) some

  under_choices : (r : Raw) (others : List Raw) → Under r others → SomeByRecursion (λ other. IsBelow asks table (Some r) other) (map Some others)
  under_choices r [] u = absurd u
  under_choices r (x ∷ xs) (inl p) = inl p
  under_choices r (x ∷ xs) (inr u) = inr (under_choices r xs u)

  absent_within : (rows : List Raw) → SomeByRecursion (λ other. IsBelow asks table None other) (or_absent rows)
  absent_within [] = inl (absent_below asks table None)
  absent_within (r ∷ rs) = inl (absent_below asks table (Some r))

  one_covered : (r : Raw) (kept : List Raw) → (meets_any asks table (Some r) ≡ false) ⊎ Under r kept → SomeByRecursion (λ other. IsBelow asks table (Some r) other) (or_absent kept)
  one_covered r [] (inl e) = inl (below_any asks table (Some r) None e)
  one_covered r [] (inr u) = absurd u
  one_covered r (k ∷ ks) (inl e) = inl (below_any asks table (Some r) (Some k) e)
  one_covered r (k ∷ ks) (inr u) = under_choices r (k ∷ ks) u

  rows_covered : (rows kept : List Raw) → AllByRecursion (λ r. (meets_any asks table (Some r) ≡ false) ⊎ Under r kept) rows → Covers (map Some rows) (or_absent kept)
  rows_covered [] kept h = tt
  rows_covered (r ∷ rs) kept h = (one_covered r kept h.0, rows_covered rs kept h.1)

  covers_by : (rows kept : List Raw) → AllByRecursion (λ r. (meets_any asks table (Some r) ≡ false) ⊎ Under r kept) rows → Covers (or_absent rows) (or_absent kept)
  covers_by [] kept h = (absent_within kept, tt)
  covers_by (r ∷ rs) kept h = rows_covered (r ∷ rs) kept h

  one_within : (r : Raw) (rows : List Raw) → Under r rows → SomeByRecursion (λ other. IsBelow asks table (Some r) other) (or_absent rows)
  one_within r [] u = absurd u
  one_within r (x ∷ xs) u = under_choices r (x ∷ xs) u

  rows_within : (kept rows : List Raw) → AllByRecursion (λ r. Under r rows) kept → Covers (map Some kept) (or_absent rows)
  rows_within [] rows h = tt
  rows_within (k ∷ ks) rows h = (one_within k rows h.0, rows_within ks rows h.1)

  within_by : (kept rows : List Raw) → AllByRecursion (λ r. Under r rows) kept → Covers (or_absent kept) (or_absent rows)
  within_by [] rows h = (absent_within rows, tt)
  within_by (k ∷ ks) rows h = rows_within (k ∷ ks) rows h

module _ (asks : List Asked) (tables : List (List Raw)) (main : Raw) where
  abbrev keep : Joined → List (Option Raw)
  keep j = (offer_at asks tables main j).rows

  abbrev chosen : Joined → List Raw
  chosen j = filter (is_choice j.join main) (rows_of j.table tables)

  all_cover : (js : List Joined) → AllByRecursion (IsCovered asks (choices tables main) keep) js
  all_cover [] = tt
  all_cover (j ∷ js) = (covers_by asks j.table (chosen j) (kept_rows asks j.table [] (chosen j)) (each asks j.table (chosen j) []), all_cover js)

  all_within : (js : List Joined) → AllByRecursion (IsCovered asks keep (choices tables main)) js
  all_within [] = tt
  all_within (j ∷ js) = (
    within_by asks j.table (kept_rows asks j.table [] (chosen j)) (chosen j) (kept_from asks j.table (λ r. Under asks j.table r (chosen j)) (chosen j) [] tt (under_themselves asks j.table (chosen j))),
    all_within js,
  )

  product_is : (js : List Joined) → product keep js ≡ members_of (map (offer_at asks tables main) js)
  product_is [] = refl
  product_is (j ∷ js) = ap (λ later. flat_map (with_each j later) (keep j)) (product_is js)

-- what is offered makes true what all choices do
pub offers_suffice : (conds : List Cond) (tables : List (List Raw)) (main : Raw) (js : List Joined)
    → some_members conds tables main [] js ≡ list_any (λ ms. all_hold conds (record { main = main; members = ms })) (members_of (map (offer_at (asks_of conds) tables main) js))
unfolding some_members
offers_suffice conds tables main js =
    kept_suffice conds tables main (keep (asks_of conds) tables main) js (all_cover (asks_of conds) tables main js) (all_within (asks_of conds) tables main js)
    ∙ ap (list_any (λ ms. all_hold conds (record { main = main; members = ms }))) (product_is (asks_of conds) tables main js)
