-- The equations of `cond_in`, one for each kind of condition.
use Rattle.std.proofs.Common.{◌≡◌, ℕ, List, [], ◌∷◌, ◌++◌, Result, Ok, Err, map, ap, ◌∙◌, refl}
use Rattle.melon_schema.specs.declared.schema.ColumnSchema.{ColumnSchema}
use Rattle.melon_schema.specs.Faults.{◌>>=◌, in_turn, each_read}
use Rattle.melon_query.specs.declared.query.Cond.{Cond}
use Rattle.melon_query.specs.declared.query_fault.QueryFault.{QueryFault}
use Rattle.melon_query.specs.declared.resolve.Reach.{Reach}
use Rattle.melon_query.specs.declared.resolve.Reach.TheVariants.{Within}
use Rattle.melon_query.specs.Reading.{Names, compared, all_of, any_of, part_of, parts_read, on_by, on_in, cond_step, cond_in, conds_in}
use Rattle.melon_query.specs.declared.cond_form.CompareForm.{CompareForm}
use Rattle.melon_query.specs.declared.cond_form.CondForm.{CondForm}
use Rattle.melon_query.specs.declared.cond_form.CondForm.TheVariants.{rolls-Compare, rolls-All, rolls-Any, rolls-On}
use Rattle.melon_query.specs.declared.cond_form.CondForm.TheVariants as cond
use Rattle.melon_query.specs.declared.cond_form.CondForm.TheOpen.{CondForm-F}
use Rattle.melon_query.specs.declared.cond_form.CondForm.TheFolds.{fold-roll-CondForm}
use Rattle.melon_query.specs.declared.cond_form.CondForm.TheViews.{roll-CondForm}
use denote.Hole.Carrier.{roll}

abbrev Reader : Type 0
Reader = List ColumnSchema → Reach → Result Cond QueryFault

bind_more : {A B E : Type 0} (r : Result A E) (f g : A → Result B E) → ((x : A) → f x ≡ g x) → (r >>= f) ≡ (r >>= g)
bind_more (Ok x) f g h = h x
bind_more (Err e) f g h = refl

in_turn-map : {X Z Y E : Type 0} (add : Y → Z → Result Y E) (see : X → Z) (made : Y) (xs : List X) → in_turn add made (map see xs) ≡ in_turn (λ m x. add m (see x)) made xs
in_turn-map add see made [] = refl
in_turn-map add see made (x ∷ xs) = bind_more (add made (see x)) (λ more. in_turn add more (map see xs)) (λ more. in_turn (λ m y. add m (see y)) more xs) (λ more. in_turn-map add see more xs)

parts_read-map : (names : Names) (ps : List CondForm) (columns : List ColumnSchema) (reach : Reach) → parts_read (map (cond_in names) ps) columns reach ≡ conds_in names ps columns reach
unfolding conds_in
parts_read-map names ps columns reach = in_turn-map (λ (made : List Cond) (part : Reader). part columns reach >>= λ c. Ok (made ++ c ∷ [])) (cond_in names) [] ps

module _ (names : Names) (columns : List ColumnSchema) (reach : Reach) where
  pub cond_in-Compare : (by : CompareForm) → cond_in names (cond.Compare by) columns reach ≡ compared columns by
  unfolding roll-CondForm roll
  cond_in-Compare by = ap (λ c. cond_in names c columns reach) (rolls-Compare by) ∙ ap (λ f. f columns reach) (fold-roll-CondForm Reader (cond_step names) (CondForm-F.Compare by))

  pub cond_in-All : (ps : List CondForm) → cond_in names (cond.All ps) columns reach ≡ all_of (conds_in names ps columns (part_of reach))
  unfolding roll-CondForm roll
  cond_in-All ps =
      ap (λ c. cond_in names c columns reach) (rolls-All ps) ∙ ap (λ f. f columns reach) (fold-roll-CondForm Reader (cond_step names) (CondForm-F.All ps))
      ∙ ap all_of (parts_read-map names ps columns (part_of reach))

  pub cond_in-Any : (ps : List CondForm) → cond_in names (cond.Any ps) columns reach ≡ any_of (conds_in names ps columns (part_of reach))
  unfolding roll-CondForm roll
  cond_in-Any ps =
      ap (λ c. cond_in names c columns reach) (rolls-Any ps) ∙ ap (λ f. f columns reach) (fold-roll-CondForm Reader (cond_step names) (CondForm-F.Any ps))
      ∙ ap any_of (parts_read-map names ps columns (part_of reach))

  pub cond_in-On : (table : List ℕ) (ps : List CondForm) → cond_in names (cond.On table ps) columns reach ≡ on_in names table reach ps
  unfolding roll-CondForm roll on_in
  cond_in-On table ps =
      let same : (λ (others : List ColumnSchema). parts_read (map (cond_in names) ps) others Within) ≡ (λ (others : List ColumnSchema). conds_in names ps others Within) = λ i others. parts_read-map names ps others Within i in
      ap (λ c. cond_in names c columns reach) (rolls-On table ps) ∙ ap (λ f. f columns reach) (fold-roll-CondForm Reader (cond_step names) (CondForm-F.On table ps))
      ∙ ap (on_by names table reach) same

pub ruleset equations = (cond_in-Compare, cond_in-All, cond_in-Any, cond_in-On)
