-- The parts of an answer, put together.
use Rattle.std.proofs.Common.{◌≡◌, ℕ, zero, suc, List, [], ◌∷◌, Bool, cond, Option, Some, None, Bor, map, filter, take, drop, ap, sym, ◌∙◌, refl}
use Rattle.std.proofs.lemmas.List.{take-map, drop-map}
use Rattle.melon_raw.specs.declared.raw.Raw.{Raw}
use Rattle.melon_query.specs.declared.query.Query.{Query}
use Rattle.melon_query.specs.Tuples.{rows_of}
use Rattle.melon_query.specs.Order.{in_order, comes_before}
use Rattle.melon_query.specs.Fresh.{fresh, at_most, is_chosen}
use Rattle.melon_eval.specs.Seen.{rows_at}
use Rattle.melon_eval.specs.Pages.{page_of, ordered}

at_most-map : {X Y : Type 0} (f : X → Y) (most : Option ℕ) (xs : List X) → map f (at_most most xs) ≡ at_most most (map f xs)
at_most-map f None xs = refl
at_most-map f (Some n) xs = sym (take-map f n xs)

page_of-map : {X Y : Type 0} (f : X → Y) (q : Query) (xs : List X) → map f (page_of q xs) ≡ page_of q (map f xs)
page_of-map f q xs = at_most-map f q.take (drop q.skip xs) ∙ ap (at_most q.take) (sym (drop-map f q.skip xs))

filter-same : {X : Type 0} (f g : X → Bool) → ((x : X) → f x ≡ g x) → (xs : List X) → filter f xs ≡ filter g xs
filter-same f g e [] = refl
filter-same f g e (x ∷ xs) = ap (λ b. cond b (x ∷ filter f xs) (filter f xs)) (e x) ∙ ap (λ l. cond (g x) (x ∷ l) l) (filter-same f g e xs)

take-nil : {X : Type 0} (n : ℕ) → take {A = X} n [] ≡ []
take-nil zero = refl
take-nil (suc n) = refl

drop-nil : {X : Type 0} (n : ℕ) → drop {A = X} n [] ≡ []
drop-nil zero = refl
drop-nil (suc n) = refl

at_most-nil : {X : Type 0} (most : Option ℕ) → at_most {X = X} most [] ≡ []
at_most-nil None = refl
at_most-nil (Some n) = take-nil n

module _ (q : Query) (tables : List (List Raw)) where
  -- of no rows none is answered
  pub none_answered : [] ≡ rows_of q.table tables → [] ≡ fresh q tables
  unfolding fresh
  none_answered none =
      sym (ap (λ (rows : List Raw). map (λ (row : Raw). row.id) (page_of q (ordered q (is_chosen q.conds tables) rows))) (sym none)
      ∙ ap (λ (rows : List Raw). map (λ (row : Raw). row.id) (at_most q.take rows)) (drop-nil q.skip) ∙ ap (map (λ (row : Raw). row.id)) (at_most-nil q.take))

  pub answered : (test : Raw → Bool) (rows : List Raw) (sorted page : List (Bor Raw))
      → ((main : Raw) → test main ≡ is_chosen q.conds tables main) → rows ≡ rows_of q.table tables
      → page_of q (rows_at sorted) ≡ page_of q (ordered q test rows) → page ≡ page_of q sorted
      → map (λ row. row.id) (rows_at page) ≡ fresh q tables
  unfolding fresh
  answered test rows sorted page chosen from in_place cut =
      ap (map (λ (row : Raw). row.id)) (
      ap rows_at cut ∙ page_of-map (λ (r : Bor Raw). r.now) q sorted ∙ in_place
      ∙ ap (λ passed. page_of q (in_order (comes_before q.sort) passed)) (filter-same test (is_chosen q.conds tables) chosen rows)
      ∙ ap (λ rs. page_of q (ordered q (is_chosen q.conds tables) rs)) from
      )
