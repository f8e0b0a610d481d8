-- What a query of one table shows.
use Rattle.std.proofs.Common.{◌≡◌, ℕ, Bool, true, false, cond, List, [], ◌∷◌, map, filter, refl, ap, ◌∙◌, subst}
use Rattle.std.specs.List.{list_all, flat_map}
use Rattle.std.specs.List.Sorted.{IsPermutation, IsSorted}
use Rattle.sqlite_value.specs.Order.{Row}
use Rattle.sqlite_trees.specs.Tree.{Trees}
use Rattle.sqlite_sql.specs.Term.{Term, holds}
use Rattle.sqlite_sql.specs.Query.{Query, Output, IsAnswer, output, output_cmp}
use Rattle.sqlite_sql.specs.Program.{overlay}
use Rattle.melon_sqlite.proofs.Texts.{on_table}

abbrev pub picks : Row → List Term → Row → Bool
picks given tests r = list_all (holds (given ∷ r ∷ [])) tests

picked : (given : Row) (tests : List Term) (rows : List Row)
    → flat_map (λ r. cond (picks given tests r) ((given ∷ r ∷ []) ∷ []) []) rows ≡ map (λ r. given ∷ r ∷ []) (filter (picks given tests) rows)
picked given tests [] = refl
picked given tests (r ∷ rows) = go (picks given tests r) refl (picked given tests rows)
  where
    go : (b : Bool) → picks given tests r ≡ b → flat_map (λ r. cond (picks given tests r) ((given ∷ r ∷ []) ∷ []) []) rows ≡ map (λ r. given ∷ r ∷ []) (filter (picks given tests) rows)
        → flat_map (λ r. cond (picks given tests r) ((given ∷ r ∷ []) ∷ []) []) (r ∷ rows) ≡ map (λ r. given ∷ r ∷ []) (filter (picks given tests) (r ∷ rows))
    go true e more = rw (e, more) refl
    go false e more = rw (e, more) refl

-- the rows that pass, each with what it is sorted by and what it shows, are put in order
pub record IsAnswerOf (q : Query) (given : Row) (rows out : List Row) : Type 0 where
  pub ordered : List Output
  pub same : IsPermutation (map (λ r. output q (given ∷ r ∷ [])) rows) ordered
  pub sorted : IsSorted (output_cmp q) ordered
  pub shown : out ≡ map (λ o. o.1) ordered

module _ (tree : ℕ) (db : Trees) (plain : overlay db [] tree ≡ db tree) (given : Row) (tests project order : List Term) (out : List Row) where
  pub from_rows : IsAnswer (on_table tree tests project order) (overlay db []) given out → IsAnswerOf (on_table tree tests project order) given (filter (picks given tests) (db tree)) out
  from_rows a =
      let q = on_table tree tests project order in
      let staged = a.grouped ∙ picked given tests (overlay db [] tree) ∙ ap (λ rows. map (λ r. given ∷ r ∷ []) (filter (picks given tests) rows)) plain in
      record {
        ordered = a.ordered;
        same = subst (λ k. IsPermutation k a.ordered) (a.distinct ∙ ap (map (output q)) staged ∙ Rattle.sqlite_trees.proofs.ListLemmas.map-map (output q) (λ r. given ∷ r ∷ []) (filter (picks given tests) (db tree))) a.same;
        sorted = a.sorted;
        shown = a.shown;
      }
