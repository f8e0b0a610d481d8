-- The front of a list that is as long as asked for, and the page that is left of it.
use Rattle.std.proofs.Common.{◌≡◌, ℕ, ◌+◌, ◌<◌, ◌≤◌, List, [], ◌∷◌, ◌++◌, length, take, drop, filter, Bool, true, false, cond, Option, Some, None, slice_get, nat_le, ap, sym, subst, ◌∙◌, refl, arith, length-append}
use Rattle.std.specs.List.{list_all}
use Rattle.std.specs.Ordering.{is_lt}
use Rattle.std.proofs.lemmas.Bool.{false≢true, leb-true, leb-false}
use Rattle.std.proofs.lemmas.List.{take-append-drop, take-append-le, take-take, take_all, drop-take}
use Rattle.std.proofs.lemmas.List.Elements.{filter-append}
use Rattle.melon_raw.specs.declared.raw.Raw.{Raw}
use Rattle.melon_raw.specs.Order.{id_cmp, is_below}
use Rattle.melon_raw.specs.Rows.{is_ascending}
use Rattle.melon_table.proofs.Order.{below_asym, and_left, and_right}
use Rattle.melon_table.proofs.ById.{is_ascending-filter}
use Rattle.melon_query.specs.declared.query.Query.{Query}
use Rattle.melon_query.specs.declared.query.SortKey.{SortKey}
use Rattle.melon_query.specs.Fresh.{at_most}
use Rattle.melon_query.specs.Order.{placed, in_order, comes_before}
use Rattle.melon_eval.specs.Pages.{page_of, ordered, is_filled, IsLimit}
use Rattle.melon_eval.proofs.Steps.{taken_at}

-- ---- the front

-- all of these, which are no more than asked for
abbrev pub IsFront : Option ℕ → List Raw → List Raw → Type 0
IsFront None passed rows = rows ≡ passed
IsFront (Some most) passed rows = (rows ≡ passed) × (length passed ≤ most)

pub front_none : (most : Option ℕ) (rows : List Raw) → rows ≡ [] → IsFront most [] rows
front_none None rows e = e
front_none (Some most) rows e = (e, omega arith)

at_most_one : (row : Raw) (b : Bool) → length (cond b (row ∷ []) []) ≤ 1
at_most_one row true = omega arith
at_most_one row false = omega arith

module _ (test : Raw → Bool) (rows : List Raw) (i : ℕ) where
  abbrev passed : List Raw
  passed = filter test (take i rows)

  all_passed : filter test rows ≡ passed ++ filter test (drop i rows)
  all_passed = ap (filter test) (sym (take-append-drop i rows)) ∙ filter-append test (take i rows) (drop i rows)

  enough_by : (most : ℕ) (chosen : List Raw) → chosen ≡ passed → length passed ≤ most → most ≤ length passed → chosen ≡ take most (filter test rows)
  enough_by most chosen is few many =
      is ∙ sym (ap (take most) all_passed ∙ take-append-le most passed (filter test (drop i rows)) many ∙ take_all most passed few)

  -- so many that no others are wanted
  pub enough : (most : Option ℕ) (chosen : List Raw) (n : ℕ) → IsFront most passed chosen → n ≡ length chosen → is_filled most n ≡ true → chosen ≡ at_most most (filter test rows)
  enough None chosen n front long full = absurd (false≢true full)
  enough (Some most) chosen n front long full =
      enough_by most chosen front.0 front.1 (omega (arith, leb-true most n full, long, ap (length {A = Raw}) front.0))

  module _ (row : Raw) (here : slice_get rows i ≡ Some row) where
    one_more : filter test (take (i + 1) rows) ≡ passed ++ filter test (row ∷ [])
    one_more = ap (filter test) (taken_at rows i row here) ∙ filter-append test (take i rows) (row ∷ [])

    pub front_more : (most : Option ℕ) (old new : List Raw) (n : ℕ) → new ≡ old ++ filter test (row ∷ []) → n ≡ length old → is_filled most n ≡ false → IsFront most passed old → IsFront most (filter test (take (i + 1) rows)) new
    front_more None old new n added long open_ front = added ∙ ap (λ l. l ++ filter test (row ∷ [])) front ∙ sym one_more
    front_more (Some most) old new n added long open_ front = (
      added ∙ ap (λ l. l ++ filter test (row ∷ [])) front.0 ∙ sym one_more,
      omega (arith, ap (length {A = Raw}) one_more, length-append passed (filter test (row ∷ [])), at_most_one row (test row), leb-false most n open_, long, ap (length {A = Raw}) front.0),
    )

all_by : (most : Option ℕ) (rows all : List Raw) → IsFront most all rows → rows ≡ at_most most all
all_by None rows all front = front
all_by (Some most) rows all front = front.0 ∙ sym (take_all most all front.1)

-- none is left
pub front_all : (test : Raw → Bool) (rows : List Raw) (i : ℕ) (most : Option ℕ) (chosen : List Raw) → length rows ≤ i → IsFront most (filter test (take i rows)) chosen → chosen ≡ at_most most (filter test rows)
front_all test rows i most chosen past front = all_by most chosen (filter test (take i rows)) front ∙ ap (λ rs. at_most most (filter test rs)) (take_all i rows past)

-- ---- the page

page_by : {X : Type 0} (take_ : Option ℕ) (n skip : ℕ) (xs : List X) → take_ ≡ Some n → at_most take_ (drop skip (take (skip + n) xs)) ≡ at_most take_ (drop skip xs)
page_by take_ n skip xs e =
    ap (λ t. at_most t (drop skip (take (skip + n) xs))) e ∙ ap (take n) (drop-take skip n xs) ∙ take-take n n (drop skip xs) (omega arith) ∙ sym (ap (λ t. at_most t (drop skip xs)) e)

-- what lies behind those skipped and taken isn't asked for
pub page_limited : {X : Type 0} (q : Query) (most : Option ℕ) (xs : List X) → IsLimit q most → page_of q (at_most most xs) ≡ page_of q xs
page_limited q None xs limit = refl
page_limited q (Some most) xs limit = ap (λ m. page_of q (take m xs)) limit.2 ∙ page_by q.take limit.0 q.skip xs limit.1

-- ---- rows that ascend are in order

placed_first : (r : Raw) (rs : List Raw) → list_all (λ x. is_below r.id x.id) rs ≡ true → placed (comes_before []) r rs ≡ r ∷ rs
placed_first r [] all = refl
placed_first r (x ∷ xs) all =
    ap (λ b. cond b (x ∷ placed (comes_before []) r xs) (r ∷ x ∷ xs)) (below_asym r.id x.id (and_left (is_below r.id x.id) _ all))

pub in_order_already : (rows : List Raw) → is_ascending rows ≡ true → in_order (comes_before []) rows ≡ rows
in_order_already [] asc = refl
in_order_already (r ∷ rs) asc =
    ap (placed (comes_before []) r) (in_order_already rs (and_right (list_all (λ x. is_below r.id x.id) rs) _ asc))
    ∙ placed_first r rs (and_left (list_all (λ x. is_below r.id x.id) rs) _ asc)

pub ordered_already : (q : Query) (test : Raw → Bool) (rows chosen : List Raw) (most : Option ℕ) → q.sort ≡ [] → is_ascending rows ≡ true → IsLimit q most → chosen ≡ at_most most (filter test rows)
    → page_of q chosen ≡ page_of q (ordered q test rows)
ordered_already q test rows chosen most unsorted asc limit is =
    ap (page_of q) is ∙ page_limited q most (filter test rows) limit
    ∙ ap (page_of q) (sym (ap (λ (keys : List SortKey). in_order (comes_before keys) (filter test rows)) unsorted ∙ in_order_already (filter test rows) (is_ascending-filter test rows asc)))
