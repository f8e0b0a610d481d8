-- The first of rows in order, put into their places one after another.
use Rattle.std.proofs.Common.{◌≡◌, ℕ, zero, suc, ◌+◌, ◌-◌, ◌<◌, ◌≤◌, List, [], ◌∷◌, ◌++◌, length, take, drop, get_or, map, filter, Bool, true, false, ◌&&◌, cond, Option, Some, None, slice_get, option_map, nat_le, Bor, subst, ap, sym, ◌∙◌, refl, arith, length-append, add-one}
use Rattle.std.specs.List.{AllByRecursion, insert}
use Rattle.std.specs.List.Sorted.{IsPartitionedBy, IsPartitionPoint}
use Rattle.std.specs.Option.{option_map_or}
use Rattle.std.specs.Cmp.{IsStrictWeakOrder}
use Rattle.std.specs.Ordering.{is_lt}
use Rattle.std.proofs.lemmas.Bool.{false≢true, leb-true}
use Rattle.std.proofs.lemmas.List.{take-take, take-map, take-append-le, take_all, length-take, length-map}
use Rattle.std.proofs.lemmas.List.Sorted.{ranks_by}
use Rattle.std.proofs.lemmas.Option.{slice_get-map}
use Rattle.melon_raw.specs.declared.raw.Raw.{Raw}
use Rattle.melon_query.specs.declared.query.SortKey.{SortKey}
use Rattle.melon_query.specs.Order.{row_cmp, placed, in_order, comes_before}
use Rattle.melon_eval.specs.Seen.{rows_at}
use Rattle.melon_eval.specs.Pages.{is_behind}
use Rattle.melon_eval.proofs.Ordering.{row_cmp_total}
use Rattle.melon_eval.proofs.Sorting.{Ascends, ascends_in_order, map_placed}

and_parts : (a b : Bool) → a && b ≡ true → (a ≡ true) × (b ≡ true)
and_parts true b e = (refl, e)
and_parts false b e = absurd (false≢true e)

slice_get_at : {X : Type 0} (xs : List X) (i : ℕ) (d : X) → i < length xs → slice_get xs i ≡ Some (get_or xs i d)
slice_get_at [] i d in_ = absurd (omega (arith, in_))
slice_get_at (x ∷ xs) zero d in_ = refl
slice_get_at (x ∷ xs) (suc i) d in_ = slice_get_at xs i d (omega (arith, in_))

-- ---- putting one in its place among the first n

take_again : {X : Type 0} (n : ℕ) (y : X) (ys : List X) → take n (y ∷ take n ys) ≡ take n (y ∷ ys)
take_again zero y ys = refl
take_again (suc n) y ys = ap (λ l. y ∷ l) (take-take n (suc n) ys (omega arith))

module _ {X : Type 0} (lt : X → X → Bool) where
  placed_by : (n : ℕ) (x y : X) (ys : List X) (b : Bool) → take n (placed lt x (take n ys)) ≡ take n (placed lt x ys)
      → take (suc n) (cond b (y ∷ placed lt x (take n ys)) (x ∷ y ∷ take n ys)) ≡ take (suc n) (cond b (y ∷ placed lt x ys) (x ∷ y ∷ ys))
  placed_by n x y ys true h = ap (λ l. y ∷ l) h
  placed_by n x y ys false h = ap (λ l. x ∷ l) (take_again n y ys)

  pub take-placed : (n : ℕ) (x : X) (ys : List X) → take n (placed lt x (take n ys)) ≡ take n (placed lt x ys)
  take-placed zero x ys = refl
  take-placed (suc n) x [] = refl
  take-placed (suc n) x (y ∷ ys) = placed_by n x y ys (lt y x) (take-placed n x ys)

  -- where those before a place come before x, and the one there doesn't
  placed_at : (k : ℕ) (x : X) (ys : List X) → k ≤ length ys → ((i : ℕ) (d : X) → i < k → lt (get_or ys i d) x ≡ true) → ((d : X) → k < length ys → lt (get_or ys k d) x ≡ false) → placed lt x ys ≡ insert ys k x
  placed_at zero x [] within before from = refl
  placed_at zero x (y ∷ ys) within before from = ap (λ b. cond b (y ∷ placed lt x ys) (x ∷ y ∷ ys)) (from y (omega arith))
  placed_at (suc k) x [] within before from = absurd (omega (arith, within))
  placed_at (suc k) x (y ∷ ys) within before from =
      ap (λ b. cond b (y ∷ placed lt x ys) (x ∷ y ∷ ys)) (before 0 y (omega arith))
      ∙ ap (λ l. y ∷ l) (placed_at k x ys (omega (arith, within)) (λ i d below. before (suc i) d (omega (arith, below))) (λ d in_. from d (omega (arith, in_))))

  module _ (o : IsStrictWeakOrder lt) where
    all_take : (P : X → Type 0) (n : ℕ) (xs : List X) → AllByRecursion P xs → AllByRecursion P (take n xs)
    all_take P zero xs h = tt
    all_take P (suc n) [] h = tt
    all_take P (suc n) (x ∷ xs) h = (h.0, all_take P n xs h.1)

    pub ascends_take : (n : ℕ) (xs : List X) → Ascends lt o xs → Ascends lt o (take n xs)
    ascends_take zero xs h = tt
    ascends_take (suc n) [] h = tt
    ascends_take (suc n) (x ∷ xs) h = (all_take (λ y. lt y x ≡ false) n xs h.0, ascends_take n xs h.1)

    all_at : (P : X → Type 0) (xs : List X) (i : ℕ) (d : X) → AllByRecursion P xs → i < length xs → P (get_or xs i d)
    all_at P [] i d h in_ = absurd (omega (arith, in_))
    all_at P (x ∷ xs) zero d h in_ = h.0
    all_at P (x ∷ xs) (suc i) d h in_ = all_at P xs i d h.1 (omega (arith, in_))

    sooner_by : (x y z : X) → lt z y ≡ false → lt z x ≡ true → (b : Bool) → lt y x ≡ b → lt y x ≡ true
    sooner_by x y z after less true e = e
    sooner_by x y z after less false e = absurd (false≢true (sym (o.chain z y x after e) ∙ less))

    -- of elements in order none that comes before x stands behind one that doesn't
    pub partitioned : (x : X) (ys : List X) → Ascends lt o ys → IsPartitionedBy (λ y. lt y x) ys
    partitioned x [] up i j d order in_ less = absurd (omega (arith, in_))
    partitioned x (y ∷ ys) up zero zero d order in_ less = less
    partitioned x (y ∷ ys) up zero (suc j) d order in_ less = sooner_by x y (get_or ys j d) (all_at (λ e. lt e y ≡ false) ys j d up.0 (omega (arith, in_))) less (lt y x) refl
    partitioned x (y ∷ ys) up (suc i) zero d order in_ less = absurd (omega (arith, order))
    partitioned x (y ∷ ys) up (suc i) (suc j) d order in_ less = partitioned x ys up.1 i j d (omega (arith, order)) (omega (arith, in_)) less

    pub placed_is : (x : X) (ys : List X) (k : ℕ) → k ≤ length ys → IsPartitionPoint (λ y. lt y x ≡ true) (λ y. lt y x ≡ false) ys k → placed lt x ys ≡ insert ys k x
    placed_is x ys k within point = placed_at k x ys within (λ i d below. point.0 i d (omega arith) below) (λ d in_. point.1 k d (omega arith) in_)

-- ---- borrowed rows

module _ (keys : List SortKey) where
  abbrev before : Raw → Raw → Bool
  before = comes_before keys

  abbrev before_now : Bor Raw → Bor Raw → Bool
  before_now a b = comes_before keys a.now b.now

  weak : IsStrictWeakOrder before
  weak = ranks_by (row_cmp_total keys) (λ (r : Raw). r)

  weak_now : IsStrictWeakOrder before_now
  weak_now = ranks_by (row_cmp_total keys) (λ (r : Bor Raw). r.now)

  all_now : (r : Bor Raw) (rs : List (Bor Raw)) → AllByRecursion (λ y. before y r.now ≡ false) (rows_at rs) → AllByRecursion (λ y. before_now y r ≡ false) rs
  all_now r [] h = tt
  all_now r (x ∷ xs) h = (h.0, all_now r xs h.1)

  ascends_now : (rs : List (Bor Raw)) → Ascends before weak (rows_at rs) → Ascends before_now weak_now rs
  ascends_now [] h = tt
  ascends_now (r ∷ rs) h = (all_now r rs h.0, ascends_now rs h.1)

  module _ (most : ℕ) (kept : List (Bor Raw)) (row : Bor Raw) (later : List Raw) (is : rows_at kept ≡ take most (in_order before later)) where
    up : Ascends before_now weak_now kept
    up = ascends_now kept (subst_ascends (sym is) (ascends_take before weak most (in_order before later) (ascends_in_order before weak later)))
      where
        subst_ascends : {xs ys : List Raw} → xs ≡ ys → Ascends before weak xs → Ascends before weak ys
        subst_ascends e h = subst (λ (l : List Raw). Ascends before weak l) e h

    few : length kept ≤ most
    few = omega (arith, sym (length-map kept (λ (r : Bor Raw). r.now)) ∙ ap (length {A = Raw}) is, length-take most (in_order before later))

    pub sorted_so : IsPartitionedBy (λ other. comes_before keys other.now row.now) kept
    sorted_so = partitioned before_now weak_now row kept up

    -- what the first of one row more are
    wanted : take most (in_order before (row.now ∷ later)) ≡ rows_at (take most (placed before_now row kept))
    wanted =
        sym (take-placed before most row.now (in_order before later)) ∙ ap (λ (rs : List Raw). take most (placed before row.now rs)) (sym is)
        ∙ ap (take most) (sym (map_placed (λ (r : Bor Raw). r.now) before row kept)) ∙ take-map (λ (r : Bor Raw). r.now) most (placed before_now row kept)

    pub kept_with : (k : ℕ) → k ≤ length kept → IsPartitionPoint (λ other. comes_before keys other.now row.now ≡ true) (λ other. comes_before keys other.now row.now ≡ false) kept k
        → rows_at (take most (insert kept k row)) ≡ take most (in_order before (row.now ∷ later))
    kept_with k within point = sym (wanted ∙ ap (λ l. rows_at (take most l)) (placed_is before_now weak_now row kept k within point))

    -- where all that are kept come before the row
    behind_all : most ≤ length kept → ((i : ℕ) (d : Bor Raw) → i < length kept → before_now (get_or kept i d) row ≡ true) → rows_at kept ≡ take most (in_order before (row.now ∷ later))
    behind_all many all =
        sym (wanted ∙ ap (λ l. rows_at (take most l)) (placed_at before_now (length kept) row kept (omega arith) all (λ d in_. absurd (omega (arith, in_))))
        ∙ ap (λ l. rows_at (take most (l ++ row ∷ drop (length kept) kept))) (take_all (length kept) kept (omega arith))
        ∙ ap rows_at (take-append-le most kept (row ∷ drop (length kept) kept) many ∙ take_all most kept few))

    last_less : (d : Bor Raw) → 0 < length kept → option_map_or (λ last. before last row.now) (slice_get (rows_at kept) (length (rows_at kept) - 1)) true ≡ true → before_now (get_or kept (length kept - 1) d) row ≡ true
    last_less d some h =
        sym (ap (λ (o : Option Raw). option_map_or (λ last. before last row.now) o true) (
        ap (λ n. slice_get (rows_at kept) (n - 1)) (length-map kept (λ (r : Bor Raw). r.now))
        ∙ slice_get-map (λ (r : Bor Raw). r.now) kept (length kept - 1)
        ∙ ap (option_map (λ (r : Bor Raw). r.now)) (slice_get_at kept (length kept - 1) d (omega arith))
        )) ∙ h

    -- a row behind as many as are asked for isn't wanted
    pub behind : is_behind keys most row.now (rows_at kept) ≡ true → rows_at kept ≡ take most (in_order before (row.now ∷ later))
    behind h =
        let parts : (nat_le most (length (rows_at kept)) ≡ true) × (option_map_or (λ last. before last row.now) (slice_get (rows_at kept) (length (rows_at kept) - 1)) true ≡ true) = and_parts _ _ h in
        behind_all (omega (arith, leb-true most (length (rows_at kept)) parts.0, length-map kept (λ (r : Bor Raw). r.now)))
        (λ (i : ℕ) (d : Bor Raw) (in_ : i < length kept). sorted_so i (length kept - 1) d (omega (arith, in_)) (omega (arith, in_)) (last_less d (omega (arith, in_)) parts.1))

-- ---- one row more

module _ (keys : List SortKey) (test : Raw → Bool) (most : ℕ) (row : Raw) (later : List Raw) where
  abbrev first_of : List Raw → List Raw
  first_of rows = take most (in_order (comes_before keys) (filter test rows))

  pub passes : test row ≡ true → take most (in_order (comes_before keys) (row ∷ filter test later)) ≡ first_of (row ∷ later)
  passes e = sym (ap (λ b. take most (in_order (comes_before keys) (cond b (row ∷ filter test later) (filter test later)))) e)

  pub fails : test row ≡ false → first_of later ≡ first_of (row ∷ later)
  fails e = sym (ap (λ b. take most (in_order (comes_before keys) (cond b (row ∷ filter test later) (filter test later)))) e)
