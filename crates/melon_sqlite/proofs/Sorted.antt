-- Lists in order: two with the same members are one, and what a tree has of one store.
use Rattle.std.proofs.Common.{◌≡◌, ◌⊎◌, ℕ, Bool, true, false, List, [], ◌∷◌, map, Ordering, Less, Equal, Greater, is_lt, refl, sym, ap, ap₂, ◌∙◌, subst, inl, inr, bytes_eq}
use Rattle.std.specs.List.{AllByRecursion}
use Rattle.std.specs.Ordering.{ordering_reverse, on}
use Rattle.std.specs.Cmp.{IsTotalOrder}
use Rattle.std.proofs.lemmas.Cmp.{on_total, tied_back}
use Rattle.std.proofs.lemmas.Slice.Eq.{bytes_eq-Decides}
use Rattle.sqlite_value.specs.Order.{Row}
use Rattle.sqlite_trees.specs.Tree.{IsAscending}
use Rattle.sqlite_trees.proofs.TreeLemmas.{above}
use Rattle.sqlite_rules.specs.Lists.{Has}
use Rattle.sqlite_rules.proofs.ListLemmas.{all_has, has_filtered, has_kept, has_left, has_right, has_either}
use Rattle.melon_outside.specs.Ascending as ascending
use Rattle.melon_outside.specs.Ascending.{with_item, without_key, with_items}
use Rattle.melon_outside.proofs.Order.{Up, up_with, up_without, up_withs}
use Rattle.melon_sqlite.specs.Contents.{of_store, store_of}

abbrev pub Rises : {X : Type 0} → (X → X → Ordering) → List X → Type 0
Rises cmp = IsAscending (λ a b. cmp a b ≡ Less)

pub has_mapped : {A B : Type 0} (f : A → B) (xs : List A) (x : A) → Has xs x → Has (map f xs) (f x)
has_mapped f [] x h = absurd h
has_mapped f (y ∷ xs) x (inl e) = inl (ap f e)
has_mapped f (y ∷ xs) x (inr h) = inr (has_mapped f xs x h)

pub mapped_from : {A B : Type 0} (f : A → B) (xs : List A) (y : B) → Has (map f xs) y → (x : A) × Has xs x × (y ≡ f x)
mapped_from f [] y h = absurd h
mapped_from f (x ∷ xs) y (inl e) = (x, inl refl, e)
mapped_from f (x ∷ xs) y (inr h) = let r = mapped_from f xs y h in (r.0, inr r.1, r.2)

module _ {X : Type 0} (cmp : X → X → Ordering) (total : IsTotalOrder cmp) where
  never_both : (a b : X) → cmp a b ≡ Less → cmp b a ≡ Less → ⊥
  never_both a b p q = let e = total.antisymm b a ∙ ap ordering_reverse p in cc

  pub same_list : (xs ys : List X) → Rises cmp xs → Rises cmp ys → ((r : X) → Has xs r → Has ys r) → ((r : X) → Has ys r → Has xs r) → xs ≡ ys
  same_list [] [] p q a b = refl
  same_list [] (y ∷ ys) p q a b = absurd (b y (inl refl))
  same_list (x ∷ xs) [] p q a b = absurd (a x (inl refl))
  same_list (x ∷ xs) (y ∷ ys) p q a b =
      let first : x ≡ y = elim (a x (inl refl)) [
        | inl e ↦ e
        | inr later ↦ elim (b y (inl refl)) [ inl e ↦ sym e | inr also ↦ absurd (never_both x y (all_has _ xs y p.0 also) (all_has _ ys x q.0 later)) ]
      ] in
      let past = λ (z : X) (zs : List X) (up : AllByRecursion (λ r. cmp z r ≡ Less) zs) (r : X) (h : Has zs r) (e : r ≡ z).
      let lower = rw e at (all_has _ zs r up h) in never_both z z lower lower in
      ap₂ ◌∷◌ first (same_list xs ys p.1 q.1
      (λ r h. elim (a r (inr h)) [ inl e ↦ absurd (past x xs p.0 r h (e ∙ sym first)) | inr later ↦ later ])
      (λ r h. elim (b r (inr h)) [ inl e ↦ absurd (past y ys q.0 r h (e ∙ first)) | inr later ↦ later ]))

module _ {K X : Type 0} (cmp : K → K → Ordering) (key : X → K) (total : IsTotalOrder cmp) where
  abbrev pub IsTie : X → X → Type 0
  IsTie x y = cmp (key x) (key y) ≡ Equal

  abbrev pub own : X → X → Ordering
  own = on key cmp

  pub own_total : IsTotalOrder own
  own_total = on_total key total

  pub rises_up : (xs : List X) → Up cmp key total xs → Rises own xs
  rises_up [] h = tt
  rises_up (x ∷ xs) h = (h.0, rises_up xs h.1)

  -- ---- one put in its place, and one taken out

  abbrev lows : K → List X → List X
  lows = ascending.below cmp key

  abbrev highs : K → List X → List X
  highs = ascending.above cmp key

  pub has_with : (x : X) (xs : List X) → Has (with_item cmp key x xs) x
  has_with x xs = has_right (lows (key x) xs) (x ∷ highs (key x) xs) x (inl refl)

  without_has : (k : K) (xs : List X) (y : X) → Has (lows k xs) y ⊎ Has (highs k xs) y → Has xs y × (cmp (key y) k ≡ Equal → ⊥)
  without_has k xs y (inl low) = let f = has_filtered (λ z. is_lt (cmp (key z) k)) xs y low in (f.0, λ tie. let e = ap is_lt tie in cc)
  without_has k xs y (inr high) = let f = has_filtered (λ z. is_lt (cmp k (key z))) xs y high in (f.0, λ tie. let e = ap is_lt (tied_back total (key y) k tie) in cc)

  has_without : (k : K) (xs : List X) (y : X) (o : Ordering) → cmp (key y) k ≡ o → (o ≡ Equal → ⊥) → Has xs y → Has (lows k xs) y ⊎ Has (highs k xs) y
  has_without k xs y Less e apart h = inl (has_kept (λ z. is_lt (cmp (key z) k)) xs y h (ap is_lt e))
  has_without k xs y Equal e apart h = absurd (apart refl)
  has_without k xs y Greater e apart h = inr (has_kept (λ z. is_lt (cmp k (key z))) xs y h (ap is_lt (above total (key y) k e)))

  pub removed_has : (k : K) (xs : List X) (y : X) → Has (without_key cmp key k xs) y → Has xs y × (cmp (key y) k ≡ Equal → ⊥)
  removed_has k xs y h = without_has k xs y (has_either (lows k xs) (highs k xs) y h)

  pub removed_keeps : (k : K) (xs : List X) (y : X) → (cmp (key y) k ≡ Equal → ⊥) → Has xs y → Has (without_key cmp key k xs) y
  removed_keeps k xs y apart h = elim (has_without k xs y (cmp (key y) k) refl apart h) [
    | inl low ↦ has_left (lows k xs) (highs k xs) y low
    | inr high ↦ has_right (lows k xs) (highs k xs) y high
  ]

  pub with_has : (x : X) (xs : List X) (y : X) → Has (with_item cmp key x xs) y → (y ≡ x) ⊎ (Has xs y × (IsTie y x → ⊥))
  with_has x xs y h = elim (has_either (lows (key x) xs) (x ∷ highs (key x) xs) y h) [
    | inl low ↦ inr (without_has (key x) xs y (inl low))
    | inr more ↦ elim more [ inl same ↦ inl same | inr high ↦ inr (without_has (key x) xs y (inr high)) ]
  ]

  pub with_keeps : (x : X) (xs : List X) (y : X) → (IsTie y x → ⊥) → Has xs y → Has (with_item cmp key x xs) y
  with_keeps x xs y apart h = elim (has_without (key x) xs y (cmp (key y) (key x)) refl apart h) [
    | inl low ↦ has_left (lows (key x) xs) (x ∷ highs (key x) xs) y low
    | inr high ↦ has_right (lows (key x) xs) (x ∷ highs (key x) xs) y (inr high)
  ]

  -- ---- several put in their places

  pub withs_from : (news xs : List X) (y : X) → Has (with_items cmp key news xs) y → Has news y ⊎ Has xs y
  withs_from [] xs y h = inr h
  withs_from (n ∷ news) xs y h = elim (withs_from news (with_item cmp key n xs) y h) [
    | inl later ↦ inl (inr later)
    | inr here ↦ elim (with_has n xs y here) [ inl same ↦ inl (inl same) | inr was ↦ inr was.0 ]
  ]

  -- it ties with none of these but itself
  abbrev IsAlone : List X → X → Type 0
  IsAlone news y = (n : X) → Has news n → IsTie y n → n ≡ y

  kept_once : (n : X) (xs : List X) (y : X) (o : Ordering) → cmp (key y) (key n) ≡ o → (IsTie y n → n ≡ y) → Has xs y → Has (with_item cmp key n xs) y
  kept_once n xs y Equal tie alone h = subst (Has (with_item cmp key n xs)) (alone tie) (has_with n xs)
  kept_once n xs y Less e alone h = with_keeps n xs y (λ tie. cc) h
  kept_once n xs y Greater e alone h = with_keeps n xs y (λ tie. cc) h

  withs_keep : (news xs : List X) (y : X) → IsAlone news y → Has xs y → Has (with_items cmp key news xs) y
  withs_keep [] xs y alone h = h
  withs_keep (n ∷ news) xs y alone h = withs_keep news (with_item cmp key n xs) y (λ m k. alone m (inr k)) (kept_once n xs y (cmp (key y) (key n)) refl (alone n (inl refl)) h)

  withs_have : (news xs : List X) (y : X) → IsAlone news y → Has news y → Has (with_items cmp key news xs) y
  withs_have [] xs y alone h = absurd h
  withs_have (n ∷ news) xs y alone (inl same) = withs_keep news (with_item cmp key n xs) y (λ m k. alone m (inr k)) (subst (Has (with_item cmp key n xs)) (sym same) (has_with n xs))
  withs_have (n ∷ news) xs y alone (inr later) = withs_have news (with_item cmp key n xs) y (λ m k. alone m (inr k)) later

  -- ---- what the rows of a tree have of one store

  module _ (shown : Row → X) where
    abbrev pub of : List ℕ → List Row → List X
    of store rows = with_items cmp key (map shown (of_store store rows)) []

    pub up-of : (store : List ℕ) (rows : List Row) → Up cmp key total (of store rows)
    up-of store rows = up_withs cmp key total (map shown (of_store store rows)) [] tt

    pub rises-of : (store : List ℕ) (rows : List Row) → Rises own (of store rows)
    rises-of store rows = rises_up (of store rows) (up-of store rows)

    ours : (store : List ℕ) (rows : List Row) (r : Row) → Has (of_store store rows) r → Has rows r × (store_of r ≡ store)
    ours store rows r h = let f = has_filtered (λ q. bytes_eq (store_of q) store) rows r h in (f.0, (bytes_eq-Decides (store_of r) store).0 f.1)

    pub of_from : (store : List ℕ) (rows : List Row) (x : X) → Has (of store rows) x → (r : Row) × Has rows r × (store_of r ≡ store) × (x ≡ shown r)
    of_from store rows x h = elim (withs_from (map shown (of_store store rows)) [] x h) [
      | inl there ↦ let m = mapped_from shown (of_store store rows) x there in let o = ours store rows m.0 m.1 in (m.0, o.0, o.1, m.2)
      | inr none ↦ absurd none
    ]

    -- no two rows of one store tie
    abbrev pub AreApart : List Row → Type 0
    AreApart rows = (a b : Row) → Has rows a → Has rows b → store_of a ≡ store_of b → IsTie (shown a) (shown b) → a ≡ b

    pub of_has : (store : List ℕ) (rows : List Row) (r : Row) → AreApart rows → Has rows r → store_of r ≡ store → Has (of store rows) (shown r)
    of_has store rows r apart h same =
        let there = has_kept (λ q. bytes_eq (store_of q) store) rows r h ((bytes_eq-Decides (store_of r) store).1 same) in
        withs_have (map shown (of_store store rows)) [] (shown r) (λ n k tie.
        let m = mapped_from shown (of_store store rows) n k in
        let o = ours store rows m.0 m.1 in
        m.2 ∙ ap shown (sym (apart r m.0 h o.0 (same ∙ sym o.1) (subst (IsTie (shown r)) m.2 tie))))
        (has_mapped shown (of_store store rows) r there)

    -- this row stands in the place of what tied with it, and the others are as they were
    pub record PutsOver (rows : List Row) (new : Row) (now : List Row) : Type 0 where
      pub from : (r : Row) → Has now r → (r ≡ new) ⊎ (Has rows r × (store_of r ≡ store_of new → IsTie (shown r) (shown new) → ⊥))
      pub there : Has now new
      pub kept : (r : Row) → Has rows r → (store_of r ≡ store_of new → IsTie (shown r) (shown new) → ⊥) → Has now r

    pub put_law : (rows now : List Row) (new : Row) → AreApart rows → AreApart now → PutsOver rows new now → of (store_of new) now ≡ with_item cmp key (shown new) (of (store_of new) rows)
    put_law rows now new was is over =
        let store = store_of new in
        let before = of store rows in
        same_list own own_total _ _ (rises-of store now) (rises_up _ (up_with cmp key total (shown new) before (up-of store rows)))
        (λ x h. let r = of_from store now x h in elim (over.from r.0 r.1) [
          | inl same ↦ subst (Has (with_item cmp key (shown new) before)) (sym (r.3 ∙ ap shown same)) (has_with (shown new) before)
          | inr old ↦ subst (Has (with_item cmp key (shown new) before)) (sym r.3) (with_keeps (shown new) before (shown r.0) (old.1 r.2) (of_has store rows r.0 was old.0 r.2))
        ])
        (λ x h. elim (with_has (shown new) before x h) [
          | inl same ↦ subst (Has (of store now)) (sym same) (of_has store now new is over.there refl)
          | inr old ↦ let r = of_from store rows x old.0 in
              subst (Has (of store now)) (sym r.3) (of_has store now r.0 is (over.kept r.0 r.1 (λ e tie. old.1 (ap (λ z. cmp (key z) (key (shown new))) r.3 ∙ tie))) r.2)
        ])

    pub put_law_other : (rows now : List Row) (new : Row) (store : List ℕ) → AreApart rows → AreApart now → PutsOver rows new now → (store_of new ≡ store → ⊥) → of store now ≡ of store rows
    put_law_other rows now new store was is over other =
        same_list own own_total _ _ (rises-of store now) (rises-of store rows)
        (λ x h. let r = of_from store now x h in elim (over.from r.0 r.1) [
          | inl same ↦ absurd (other (ap store_of (sym same) ∙ r.2))
          | inr old ↦ subst (Has (of store rows)) (sym r.3) (of_has store rows r.0 was old.0 r.2)
        ])
        (λ x h. let r = of_from store rows x h in
        subst (Has (of store now)) (sym r.3) (of_has store now r.0 is (over.kept r.0 r.1 (λ e tie. other (sym e ∙ r.2))) r.2))

    -- the rows that are left are those that pass
    pub record Leaves (rows : List Row) (keeps : Row → Bool) (now : List Row) : Type 0 where
      pub from : (r : Row) → Has now r → Has rows r × (keeps r ≡ true)
      pub kept : (r : Row) → Has rows r → keeps r ≡ true → Has now r

    -- these are in order, and they are what passes the test
    pub record ArePassing (xs : List X) (test : X → Bool) (left : List X) : Type 0 where
      pub rising : Rises own left
      pub from : (x : X) → Has left x → Has xs x × (test x ≡ true)
      pub kept : (x : X) → Has xs x → test x ≡ true → Has left x

    pub leave_law : (rows now : List Row) (keeps : Row → Bool) (test : X → Bool) (store : List ℕ) (left : List X) → AreApart rows → AreApart now → Leaves rows keeps now
        → ((r : Row) → Has rows r → store_of r ≡ store → keeps r ≡ test (shown r)) → ArePassing (of store rows) test left → of store now ≡ left
    leave_law rows now keeps test store left was is leaves agrees passing =
        same_list own own_total _ _ (rises-of store now) passing.rising
        (λ x h.
        let r = of_from store now x h in
        let old = leaves.from r.0 r.1 in
        passing.kept x (subst (Has (of store rows)) (sym r.3) (of_has store rows r.0 was old.0 r.2)) (ap test r.3 ∙ sym (agrees r.0 old.0 r.2) ∙ old.1))
        (λ x h.
        let f = passing.from x h in
        let r = of_from store rows x f.0 in
        subst (Has (of store now)) (sym r.3) (of_has store now r.0 is (leaves.kept r.0 r.1 (agrees r.0 r.1 r.2 ∙ sym (ap test r.3) ∙ f.1)) r.2))

    pub all_pass : (store : List ℕ) (rows : List Row) → ArePassing (of store rows) (λ _. true) (of store rows)
    all_pass store rows = record { rising = rises-of store rows; from = λ x h. (h, refl); kept = λ x h _. h }

    pub none_pass : (xs : List X) → ArePassing xs (λ _. false) []
    none_pass xs = record { rising = tt; from = λ x none. absurd none; kept = λ x h passes. absurd (let e : false ≡ true = passes in cc) }

    pub others_pass : (k : K) (test : X → Bool) (store : List ℕ) (rows : List Row) → ((x : X) → (test x ≡ true → cmp (key x) k ≡ Equal → ⊥) × ((cmp (key x) k ≡ Equal → ⊥) → test x ≡ true))
        → ArePassing (of store rows) test (without_key cmp key k (of store rows))
    others_pass k test store rows tests = record {
      rising = rises_up _ (up_without cmp key total k (of store rows) (up-of store rows));
      from = λ x h. let r = removed_has k (of store rows) x h in (r.0, (tests x).1 r.1);
      kept = λ x h passes. removed_keeps k (of store rows) x ((tests x).0 passes) h;
    }
