-- A stable sort gives the list that is put in order one element after another.
use Rattle.std.proofs.Common.{◌≡◌, suc, List, [], ◌∷◌, Bool, true, false, ◌&&◌, not, cond, filter, map, ap, sym, ◌∙◌, refl, subst, add-one, arith}
use Rattle.std.specs.Bool.{⊤}
use Rattle.std.specs.Cmp.{IsStrictWeakOrder, IsTotalOrder}
use Rattle.std.specs.Fn.{Called, ComparesAs}
use Rattle.std.specs.Ordering.{is_lt}
use Rattle.std.specs.declared.cmp.Ordering.{Ordering}
use Rattle.std.proofs.lemmas.Fn.{always_returns_same}
use Rattle.std.proofs.lemmas.List.Sorted.{ranks_by}
use denote.Ref.{Bor}
use denote.Param.Members.{Mut}
use Rattle.std.specs.List.{AllByRecursion}
use Rattle.std.specs.List.Sorted.{IsSortedBy, IsStableBy, ties}
use Rattle.std.proofs.lemmas.Bool.{false≢true}
use Rattle.melon_query.specs.Order.{placed, in_order}

module _ {X : Type 0} (lt : X → X → Bool) (o : IsStrictWeakOrder lt) where
  -- none is less than one before it
  abbrev pub Ascends : List X → Type 0
  Ascends [] = ⊤
  Ascends (x ∷ xs) = AllByRecursion (λ y. lt y x ≡ false) xs × Ascends xs

  not_itself_by : (x : X) (b : Bool) → lt x x ≡ b → lt x x ≡ false
  not_itself_by x true e = o.one_way x x e
  not_itself_by x false e = e

  not_itself : (x : X) → lt x x ≡ false
  not_itself x = not_itself_by x (lt x x) refl

  ties_itself : (x : X) → ties lt x x ≡ true
  ties_itself x = ap (λ b. not b && not b) (not_itself x)

  tied : (x y : X) → lt x y ≡ false → lt y x ≡ false → ties lt x y ≡ true
  tied x y e f = ap (λ b. not b && not (lt y x)) e ∙ ap (λ b. not b) f

  untied_after : (x y : X) → lt x y ≡ true → ties lt x y ≡ false
  untied_after x y e = ap (λ b. not b && not (lt y x)) e

  and_not : (a b : Bool) → b ≡ true → not a && not b ≡ false
  and_not true b e = refl
  and_not false b e = ap not e

  untied_before : (x y : X) → lt y x ≡ true → ties lt x y ≡ false
  untied_before x y e = and_not (lt x y) (lt y x) e

  parts_of_tie : (a b : Bool) → not a && not b ≡ true → (a ≡ false) × (b ≡ false)
  parts_of_tie true b e = absurd (false≢true e)
  parts_of_tie false true e = absurd (false≢true e)
  parts_of_tie false false e = (refl, refl)

  -- what comes before y comes before all that aren't less than y
  before_by : (z y e : X) → lt z y ≡ true → lt e y ≡ false → (b : Bool) → lt z e ≡ b → lt z e ≡ true
  before_by z y e less above true is = is
  before_by z y e less above false is = absurd (false≢true (sym (o.chain z e y is above) ∙ less))

  before : (z y e : X) → lt z y ≡ true → lt e y ≡ false → lt z e ≡ true
  before z y e less above = before_by z y e less above (lt z e) refl

  -- nothing ties with what comes before all
  none_tied : (z y : X) (es : List X) → lt z y ≡ true → AllByRecursion (λ e. lt e y ≡ false) es → filter (ties lt z) es ≡ []
  none_tied z y [] less all = refl
  none_tied z y (e ∷ es) less all = ap (λ b. cond b (e ∷ filter (ties lt z) es) (filter (ties lt z) es)) (untied_after z e (before z y e less all.0)) ∙ none_tied z y es less all.1

  none_tied_with : (z y : X) (ys : List X) → lt z y ≡ true → AllByRecursion (λ e. lt e y ≡ false) ys → filter (ties lt z) (y ∷ ys) ≡ []
  none_tied_with z y ys less all = ap (λ b. cond b (y ∷ filter (ties lt z) ys) (filter (ties lt z) ys)) (untied_after z y less) ∙ none_tied z y ys less all

  own_first : (z : X) (zs : List X) → filter (ties lt z) (z ∷ zs) ≡ z ∷ filter (ties lt z) zs
  own_first z zs = ap (λ b. cond b (z ∷ filter (ties lt z) zs) (filter (ties lt z) zs)) (ties_itself z)

  abbrev AgreeOn : List X → List X → Type 0
  AgreeOn ys zs = (x : X) → filter (ties lt x) ys ≡ filter (ties lt x) zs

  tail_by : (y : X) (a b : List X) (t : Bool) → cond t (y ∷ a) a ≡ cond t (y ∷ b) b → a ≡ b
  tail_by y a b true e = cc
  tail_by y a b false e = e

  same_tails : (y : X) (ys zs : List X) → AgreeOn (y ∷ ys) (y ∷ zs) → AgreeOn ys zs
  same_tails y ys zs agree x = tail_by y _ _ (ties lt x y) (agree x)

  same_heads : (y z : X) (ys zs : List X) → lt y z ≡ false → lt z y ≡ false → AgreeOn (y ∷ ys) (z ∷ zs) → y ≡ z
  same_heads y z ys zs e f agree =
      let both = sym (own_first y ys) ∙ agree y ∙ ap (λ b. cond b (z ∷ filter (ties lt y) zs) (filter (ties lt y) zs)) (tied y z e f) in cc

  not_before : (y z : X) (ys zs : List X) → AllByRecursion (λ e. lt e z ≡ false) zs → AgreeOn (y ∷ ys) (z ∷ zs) → (b : Bool) → lt y z ≡ b → lt y z ≡ false
  not_before y z ys zs all agree true e = let none = sym (own_first y ys) ∙ agree y ∙ none_tied_with y z zs e all in cc
  not_before y z ys zs all agree false e = e

  -- two lists in order, whose tied elements stand alike, are one list
  unique : (ys zs : List X) → Ascends ys → Ascends zs → AgreeOn ys zs → ys ≡ zs
  unique [] [] up down agree = refl
  unique [] (z ∷ zs) up down agree = let none = agree z ∙ own_first z zs in cc
  unique (y ∷ ys) [] up down agree = let none = sym (agree y) ∙ own_first y ys in cc
  unique (y ∷ ys) (z ∷ zs) up down agree =
      let e = not_before y z ys zs down.0 agree (lt y z) refl in
      let f = not_before z y zs ys up.0 (λ x. sym (agree x)) (lt z y) refl in
      let same = same_heads y z ys zs e f agree in
      let rest = unique ys zs up.1 down.1 (same_tails y ys zs (subst (λ (w : X). AgreeOn (y ∷ ys) (w ∷ zs)) (sym same) agree)) in
      cc

  -- putting one in its place
  all_placed_by : (P : X → Type 0) (x y : X) (ys : List X) → P x → P y → AllByRecursion P ys → AllByRecursion P (placed lt x ys) → (b : Bool) → AllByRecursion P (cond b (y ∷ placed lt x ys) (x ∷ y ∷ ys))
  all_placed_by P x y ys px py all rest true = (py, rest)
  all_placed_by P x y ys px py all rest false = (px, (py, all))

  all_placed : (P : X → Type 0) (x : X) (ys : List X) → P x → AllByRecursion P ys → AllByRecursion P (placed lt x ys)
  all_placed P x [] px all = (px, tt)
  all_placed P x (y ∷ ys) px all = all_placed_by P x y ys px all.0 all.1 (all_placed P x ys px all.1) (lt y x)

  none_less : (x y : X) (ys : List X) → lt y x ≡ false → AllByRecursion (λ e. lt e y ≡ false) ys → AllByRecursion (λ e. lt e x ≡ false) ys
  none_less x y [] h all = tt
  none_less x y (e ∷ es) h all = (o.chain e y x all.0 h, none_less x y es h all.1)

  ascends_placed_by : (x y : X) (ys : List X) → Ascends (y ∷ ys) → Ascends (placed lt x ys) → (b : Bool) → lt y x ≡ b → Ascends (cond b (y ∷ placed lt x ys) (x ∷ y ∷ ys))
  ascends_placed_by x y ys up rest true e = (all_placed (λ e. lt e y ≡ false) x ys (o.one_way y x e) up.0, rest)
  ascends_placed_by x y ys up rest false e = ((e, none_less x y ys e up.0), up)

  ascends_placed : (x : X) (ys : List X) → Ascends ys → Ascends (placed lt x ys)
  ascends_placed x [] up = (tt, tt)
  ascends_placed x (y ∷ ys) up = ascends_placed_by x y ys up (ascends_placed x ys up.1) (lt y x) refl

  pub ascends_in_order : (xs : List X) → Ascends (in_order lt xs)
  ascends_in_order [] = tt
  ascends_in_order (x ∷ xs) = ascends_placed x (in_order lt xs) (ascends_in_order xs)

  -- at most one of two that aren't tied with one another ties with z
  swapped : (x y : X) (rest : List X) (s t : Bool) → (s ≡ true → t ≡ true → ⊥) → cond s (y ∷ cond t (x ∷ rest) rest) (cond t (x ∷ rest) rest) ≡ cond t (x ∷ cond s (y ∷ rest) rest) (cond s (y ∷ rest) rest)
  swapped x y rest true true apart = absurd (apart refl refl)
  swapped x y rest true false apart = refl
  swapped x y rest false true apart = refl
  swapped x y rest false false apart = refl

  apart_of : (z x y : X) → lt y x ≡ true → ties lt z y ≡ true → ties lt z x ≡ true → ⊥
  apart_of z x y less e f =
      let a = parts_of_tie (lt z y) (lt y z) e in
      let b = parts_of_tie (lt z x) (lt x z) f in
      false≢true (sym (o.chain y z x a.1 b.0) ∙ less)

  filter_placed_by : (z x y : X) (ys : List X) → filter (ties lt z) (placed lt x ys) ≡ filter (ties lt z) (x ∷ ys) → (b : Bool) → lt y x ≡ b → filter (ties lt z) (cond b (y ∷ placed lt x ys) (x ∷ y ∷ ys)) ≡ filter (ties lt z) (x ∷ y ∷ ys)
  filter_placed_by z x y ys h true e =
      ap (λ (l : List X). cond (ties lt z y) (y ∷ l) l) h ∙ swapped x y (filter (ties lt z) ys) (ties lt z y) (ties lt z x) (apart_of z x y e)
  filter_placed_by z x y ys h false e = refl

  filter_placed : (z x : X) (ys : List X) → filter (ties lt z) (placed lt x ys) ≡ filter (ties lt z) (x ∷ ys)
  filter_placed z x [] = refl
  filter_placed z x (y ∷ ys) = filter_placed_by z x y ys (filter_placed z x ys) (lt y x) refl

  filter_in_order : (z : X) (xs : List X) → filter (ties lt z) (in_order lt xs) ≡ filter (ties lt z) xs
  filter_in_order z [] = refl
  filter_in_order z (x ∷ xs) = filter_placed z x (in_order lt xs) ∙ ap (λ (l : List X). cond (ties lt z x) (x ∷ l) l) (filter_in_order z xs)

  -- from what a sort says of neighbours
  sorted_tail : (x : X) (xs : List X) → IsSortedBy lt (x ∷ xs) → IsSortedBy lt xs
  sorted_tail x xs up k d low high =
      let h = up (suc k) d (omega arith) (omega arith) in rw (add-one k) (rw (add-one (suc k)) at h)

  rises_from : (x : X) (xs : List X) → IsSortedBy lt (x ∷ xs) → AllByRecursion (λ y. lt y x ≡ false) xs
  rises_from x [] up = tt
  rises_from x (y ∷ ys) up =
      let first : lt y x ≡ false = up 0 x (omega arith) (omega arith) in
      (first, none_less x y ys first (rises_from y ys (sorted_tail x (y ∷ ys) up)))

  ascends_from_sorted : (xs : List X) → IsSortedBy lt xs → Ascends xs
  ascends_from_sorted [] up = tt
  ascends_from_sorted (x ∷ xs) up = (rises_from x xs up, ascends_from_sorted xs (sorted_tail x xs up))

  pub sorted_is : (xs ys : List X) → IsSortedBy lt ys → IsStableBy lt xs ys → ys ≡ in_order lt xs
  sorted_is xs ys up stable = unique ys (in_order lt xs) (ascends_from_sorted ys up) (ascends_in_order xs) (λ x. stable x ∙ sym (filter_in_order x xs))

-- through a function
module _ {X Y : Type 0} (f : X → Y) (lt : Y → Y → Bool) where
  map_placed_by : (x y : X) (ys : List X) → map f (placed (λ a b. lt (f a) (f b)) x ys) ≡ placed lt (f x) (map f ys) → (b : Bool) → map f (cond b (y ∷ placed (λ a b. lt (f a) (f b)) x ys) (x ∷ y ∷ ys)) ≡ cond b (f y ∷ placed lt (f x) (map f ys)) (f x ∷ f y ∷ map f ys)
  map_placed_by x y ys h true = ap (λ l. f y ∷ l) h
  map_placed_by x y ys h false = refl

  pub map_placed : (x : X) (ys : List X) → map f (placed (λ a b. lt (f a) (f b)) x ys) ≡ placed lt (f x) (map f ys)
  map_placed x [] = refl
  map_placed x (y ∷ ys) = map_placed_by x y ys (map_placed x ys) (lt (f y) (f x))

  pub map_in_order : (xs : List X) → map f (in_order (λ a b. lt (f a) (f b)) xs) ≡ in_order lt (map f xs)
  map_in_order [] = refl
  map_in_order (x ∷ xs) = map_placed x (in_order (λ a b. lt (f a) (f b)) xs) ∙ ap (placed lt (f x)) (map_in_order xs)

-- what `sort_by` ensures, where each call compares what now shows of the two elements
pub in_order_from_sort_by : {X K : Type 0} (now : X → K) (R : K → K → Ordering) → IsTotalOrder R → {F : Type 0} {g : Mut F (Bor X × (Bor X × Unit {0})) Ordering} {f : F} (xs ys : List X)
    → ((lt : X → X → Bool) → IsStrictWeakOrder lt → ComparesAs g lt f → IsSortedBy lt ys)
    → ((lt : X → X → Bool) → IsStrictWeakOrder lt → ComparesAs g lt f → IsStableBy lt xs ys)
    → ((a : Bor X × (Bor X × Unit {0})) (r : Ordering) (f' : F) → Called g f a r f' → (r ≡ R (now a.0.now) (now a.1.0.now)) × (f' ≡ f))
    → map now ys ≡ in_order (λ a b. is_lt (R a b)) (map now xs)
in_order_from_sort_by {X} now R total {g = g} {f = f} xs ys sorted stable calls =
    let lt = λ (x y : X). is_lt (R (now x) (now y)) in
    let weak = ranks_by total now in
    let compares : ComparesAs g lt f = always_returns_same g (λ a r. is_lt r ≡ lt a.0.now a.1.0.now) f (λ a r f' h. let both = calls a r f' h in (ap is_lt both.0, both.1)) in
    ap (map now) (sorted_is lt weak xs ys (sorted lt weak compares) (stable lt weak compares)) ∙ map_in_order now (λ a b. is_lt (R a b)) xs
