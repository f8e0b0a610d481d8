-- What a query of one store's rows shows, in order.
use Rattle.std.proofs.Common.{◌≡◌, inl, inr, ℕ, suc, ◌+◌, ◌<◌, ◌≤◌, Bool, true, false, cond, List, [], ◌∷◌, length, map, filter, Ordering, Less, Equal, Greater, is_lt, is_eq, refl, sym, ap, ap₂, ◌∙◌, subst, bytes_eq, add-one, arith, true≢false}
use Rattle.std.specs.List.{AllByRecursion}
use Rattle.std.specs.List.Sorted.{IsPermutation, IsSorted}
use Rattle.std.specs.Cmp.{IsTotalOrder}
use Rattle.std.proofs.lemmas.Cmp.{tied_itself, tied_back}
use Rattle.std.proofs.lemmas.List.Sorted.{IsPermutation-map, IsPermutation-sym, Contains-permutation, length_permutation}
use Rattle.std.proofs.lemmas.Slice.Eq.{bytes_eq-Decides}
use Rattle.sqlite_value.specs.Order.{Row}
use Rattle.sqlite_trees.specs.Tree.{IsAscending, IsTable, rowid}
use Rattle.sqlite_trees.proofs.ListLemmas.{IsPermutation-filter, all-permutation, all-map, all_weaker, filter_none, ascending-filter, map-map}
use Rattle.sqlite_trees.proofs.TreeLemmas.{above}
use Rattle.sqlite_sql.specs.Query.{Query, Output, output, output_cmp}
use Rattle.sqlite_rules.specs.Lists.{Has}
use Rattle.sqlite_rules.proofs.ListLemmas.{all_has, all_from, has_filtered, has_kept, has_contained, contains_had}
use Rattle.melon_sqlite.specs.Contents.{store_of}
use Rattle.melon_sqlite.proofs.Sorted.{Rises, has_mapped, mapped_from, same_list, own, own_total, of, AreApart, rises-of, of_from, of_has}
use Rattle.melon_sqlite.proofs.Queries.{IsAnswerOf}

-- no element is below the one before it
pub Steps : {X : Type 0} → (X → X → Ordering) → List X → Type 0
Steps cmp [] = Unit {0}
Steps cmp (x ∷ []) = Unit {0}
Steps cmp (x ∷ y ∷ more) = (is_lt (cmp y x) ≡ false) × Steps cmp (y ∷ more)

map_each : {A B : Type 0} (f g : A → B) → ((x : A) → f x ≡ g x) → (xs : List A) → map f xs ≡ map g xs
map_each f g same [] = refl
map_each f g same (x ∷ xs) = ap₂ ◌∷◌ (same x) (map_each f g same xs)

module _ {X : Type 0} (cmp : X → X → Ordering) where
  later : (x : X) (xs : List X) → IsSorted cmp (x ∷ xs) → IsSorted cmp xs
  later x xs h k d a b = rw (add-one k) (rw (add-one k, add-one (suc k)) at (h (k + 1) d (omega arith) (omega (arith, b))))

  steps : (xs : List X) → IsSorted cmp xs → Steps cmp xs
  unfolding Steps
  steps [] h = tt
  steps (x ∷ []) h = tt
  steps (x ∷ y ∷ more) h = (h 0 x (omega arith) (omega arith), steps (y ∷ more) (later x (y ∷ more) h))

module _ {X : Type 0} (cmp : X → X → Ordering) (total : IsTotalOrder cmp) where
  not_below : (z y x : X) (o p : Ordering) → cmp z y ≡ o → cmp y x ≡ p → is_lt o ≡ false → is_lt p ≡ false → is_lt (cmp z x) ≡ false
  not_below z y x Less p a b h k = absurd (true≢false h)
  not_below z y x Equal p a b h k = ap is_lt (total.congr z y x a ∙ b) ∙ k
  not_below z y x Greater p a b h k = go (cmp z x) refl
    where
      go : (r : Ordering) → cmp z x ≡ r → is_lt r ≡ false
      go Less e = absurd (true≢false (sym (ap is_lt (total.trans y z x (above total z y a) e)) ∙ ap is_lt b ∙ k))
      go Equal e = refl
      go Greater e = refl

  all_above : (x : X) (xs : List X) → Steps cmp (x ∷ xs) → AllByRecursion (λ y. is_lt (cmp y x) ≡ false) xs
  unfolding Steps
  all_above x [] h = tt
  all_above x (y ∷ more) h = (h.0, all_weaker _ (λ z. is_lt (cmp z x) ≡ false) (λ z below. not_below z y x _ _ refl refl below h.0) more (all_above y more h.1))

  -- as often as something like this comes
  abbrev pub alike : X → List X → List X
  alike k = filter (λ y. is_eq (cmp y k))

  longer : {Y : Type 0} (xs : List Y) (x : Y) → Has xs x → 0 < length xs
  longer [] x h = absurd h
  longer (y ∷ xs) x h = omega arith

  rises : (xs : List X) → Steps cmp xs → ((k : X) → length (alike k xs) ≤ 1) → Rises cmp xs
  unfolding Steps
  rises [] h once = tt
  rises (x ∷ xs) h once = (
    all_from _ xs (λ y there. go y there (cmp y x) refl (all_has _ xs y (all_above x xs h) there)),
    rises xs (rest xs h) (λ k. fewer k (is_eq (cmp x k)) refl (once k)),
  )
    where
      rest : (ys : List X) → Steps cmp (x ∷ ys) → Steps cmp ys
      rest [] k = tt
      rest (y ∷ ys) k = k.1

      fewer : (k : X) (b : Bool) → is_eq (cmp x k) ≡ b → length (cond b (x ∷ alike k xs) (alike k xs)) ≤ 1 → length (alike k xs) ≤ 1
      fewer k true e l = omega (arith, l)
      fewer k false e l = l

      go : (y : X) → Has xs y → (o : Ordering) → cmp y x ≡ o → is_lt (cmp y x) ≡ false → cmp x y ≡ Less
      go y there Less e below = absurd (true≢false (sym (ap is_lt e) ∙ below))
      go y there Greater e below = above total y x e
      go y there Equal e below = absurd (
          let itself : length (x ∷ alike x xs) ≤ 1 = rw (tied_itself total x) at (once x) in
          let some = longer (alike x xs) y (has_kept _ xs y there (ap is_eq e)) in omega (arith, itself, some))

  abbrev pub AllApart : {R : Type 0} → (R → X) → List R → Type 0
  AllApart shown = IsAscending (λ a b. cmp (shown a) (shown b) ≡ Equal → ⊥)

  eq_from : (o : Ordering) → is_eq o ≡ true → o ≡ Equal
  eq_from Less h = absurd (true≢false (sym h))
  eq_from Equal h = refl
  eq_from Greater h = absurd (true≢false (sym h))

  not_eq : (o : Ordering) → (o ≡ Equal → ⊥) → is_eq o ≡ false
  not_eq Less h = refl
  not_eq Equal h = absurd (h refl)
  not_eq Greater h = refl

  once_each : {R : Type 0} (shown : R → X) (rows : List R) → AllApart shown rows → (k : X) → length (alike k (map shown rows)) ≤ 1
  once_each shown [] apart k = omega arith
  once_each shown (r ∷ rows) apart k = go (is_eq (cmp (shown r) k)) refl (once_each shown rows apart.1 k)
    where
      go : (b : Bool) → is_eq (cmp (shown r) k) ≡ b → length (alike k (map shown rows)) ≤ 1 → length (cond b (shown r ∷ alike k (map shown rows)) (alike k (map shown rows))) ≤ 1
      go false e l = l
      go true e l =
          let none : alike k (map shown rows) ≡ [] = filter_none _ (map shown rows) (all-map _ shown rows (all_weaker _ _ (λ x other. not_eq _ (λ tie.
          other (total.congr (shown r) k (shown x) (eq_from _ e) ∙ tied_back total (shown x) k tie))) rows apart.0)) in
          rw none (omega arith)

module _ {K X : Type 0} (cmp : K → K → Ordering) (key : X → K) (total : IsTotalOrder cmp) where
  abbrev ranks : X → X → Ordering
  ranks = own cmp key total

  ranks_total : IsTotalOrder ranks
  ranks_total = own_total cmp key total

  module _ (shown : Row → X) (shows : Row → X) (rows : List Row) (store : List ℕ) (table : IsTable rows) (apart : AreApart cmp key total shown rows)
      (q : Query) (given : Row) (p : Row → Bool) (picks : (r : Row) → Has rows r → p r ≡ bytes_eq (store_of r) store)
      (shape : (r : Row) → shows (output q (given ∷ r ∷ [])).1 ≡ shown r)
      (agrees : (a b : Row) → Has rows a → Has rows b → output_cmp q (output q (given ∷ a ∷ [])) (output q (given ∷ b ∷ [])) ≡ ranks (shown a) (shown b)) where
    abbrev F : List Row
    F = filter p rows

    abbrev out : Row → Output
    out r = output q (given ∷ r ∷ [])

    abbrev seen : Output → X
    seen o = shows o.1

    of_ours : (r : Row) → Has F r → Has rows r × (store_of r ≡ store)
    of_ours r h = let f = has_filtered p rows r h in (f.0, (bytes_eq-Decides (store_of r) store).0 (sym (picks r f.0) ∙ f.1))

    no_two : (xs : List Row) → IsTable xs → ((r : Row) → Has xs r → Has F r) → AllApart ranks ranks_total shown xs
    no_two [] up inside = tt
    no_two (x ∷ xs) up inside = (
      all_from _ xs (λ y there tie.
          let a = of_ours x (inside x (inl refl)) in
          let b = of_ours y (inside y (inr there)) in
          let same = apart x y a.0 b.0 (a.1 ∙ sym b.1) tie in
          let lower = rw (← same) at (all_has _ xs y up.0 there) in
          let level = tied_itself Rattle.sqlite_value.proofs.OrderLemmas.value_cmp_total (rowid x) in cc),
      no_two xs up.1 (λ r h. inside r (inr h)),
    )

    abbrev IsOut : Output → Type 0
    IsOut o = (r : Row) × Has F r × (o ≡ out r)

    moved : (os : List Output) → AllByRecursion IsOut os → Steps (output_cmp q) os → Steps ranks (map seen os)
    unfolding Steps
    moved [] all h = tt
    moved (a ∷ []) all h = tt
    moved (a ∷ b ∷ more) all h =
        let ra = all.0 in
        let rb = all.1.0 in
        let same : output_cmp q b a ≡ ranks (seen b) (seen a) =
        ap₂ (output_cmp q) rb.2 ra.2 ∙ agrees rb.0 ra.0 (of_ours rb.0 rb.1).0 (of_ours ra.0 ra.1).0 ∙ ap₂ ranks (sym (shape rb.0) ∙ ap seen (sym rb.2)) (sym (shape ra.0) ∙ ap seen (sym ra.2)) in
        (ap is_lt (sym same) ∙ h.0, moved (b ∷ more) all.1 h.1)

    pub answered : (got : List Row) → IsAnswerOf q given F got → map shows got ≡ of cmp key total shown store rows
    answered got a =
        let os = a.ordered in
        let all = all-permutation IsOut (map out F) os a.same (all-map IsOut out F (all_from _ F (λ r h. (r, h, refl)))) in
        let seen_rows : map seen (map out F) ≡ map shown F = map-map seen out F ∙ map_each (λ r. seen (out r)) shown shape F in
        let perm : IsPermutation (map shown F) (map seen os) = subst (λ l. IsPermutation l (map seen os)) seen_rows (IsPermutation-map seen (map out F) os a.same) in
        let up : Rises ranks (map seen os) = rises ranks ranks_total (map seen os) (moved os all (steps (output_cmp q) os a.sorted))
        (λ k. rw (length_permutation _ _ (IsPermutation-filter (λ y. is_eq (ranks y k)) (map shown F) (map seen os) perm)) (once_each ranks ranks_total shown F (no_two F (ascending-filter _ p rows table) (λ r h. h)) k)) in
        let is : map seen os ≡ of cmp key total shown store rows = same_list ranks ranks_total (map seen os) _ up (rises-of cmp key total shown store rows)
        (λ x h. let r = mapped_from shown F x (has_contained _ x (Contains-permutation _ _ x (IsPermutation-sym _ _ perm) (contains_had _ x h))) in
        let o = of_ours r.0 r.1 in subst (Has (of cmp key total shown store rows)) (sym r.2) (of_has cmp key total shown store rows r.0 apart o.0 o.1))
        (λ x h. let r = of_from cmp key total shown store rows x h in
        has_contained _ x (Contains-permutation _ _ x perm (contains_had _ x (subst (Has (map shown F)) (sym r.3) (has_mapped shown F r.0 (has_kept p rows r.0 r.1 (picks r.0 r.1 ∙ (bytes_eq-Decides (store_of r.0) store).1 r.2))))))) in
        ap (map shows) a.shown ∙ map-map shows (λ (o : Output). o.1) os ∙ is

    -- each row of the store is shown
    pub answer_has : (got : List Row) → IsAnswerOf q given F got → (r : Row) → Has rows r → store_of r ≡ store → Has got (out r).1
    answer_has got a r h same =
        let there = has_kept p rows r h (picks r h ∙ (bytes_eq-Decides (store_of r) store).1 same) in
        let listed = has_contained _ (out r) (Contains-permutation _ _ (out r) a.same (contains_had _ (out r) (has_mapped out F r there))) in
        subst (λ l. Has l (out r).1) (sym a.shown) (has_mapped (λ (o : Output). o.1) a.ordered (out r) listed)
