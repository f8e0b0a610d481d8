-- Fields that were named one after another.
use Rattle.std.proofs.Common.{◌≡◌, ℕ, zero, suc, ◌<◌, List, [], ◌∷◌, ◌++◌, length, get_or, append-nil, refl, sym, ap, ◌∙◌, arith}
use Rattle.std.specs.Prelude.{Option, Some, None, option_map}
use Rattle.melon_schema.specs.Json.{◌>>=◌, each}
use Rattle.melon_schema.specs.declared.schema.ColumnSchema.{ColumnSchema}
use Rattle.melon_raw.specs.declared.datum.Datum.{Datum}
use Rattle.melon_raw.specs.declared.datum.OpField.{OpField}
use Rattle.melon_machine.specs.Showing.{fields_of}

none_left : (columns : List ColumnSchema) (places : List ℕ) (cells : List Datum) → length places ≡ 0 → fields_of columns places cells ≡ []
none_left columns [] cells h = refl
none_left columns (p ∷ ps) cells h = absurd (omega (arith, h))

none_more : (columns : List ColumnSchema) (places : List ℕ) (cells : List Datum) → length cells ≡ 0 → fields_of columns places cells ≡ []
none_more columns [] cells h = refl
none_more columns (p ∷ ps) [] h = refl
none_more columns (p ∷ ps) (v ∷ vs) h = absurd (omega (arith, h))

module _ (columns : List ColumnSchema) (places : List ℕ) (cells : List Datum) (done : List OpField) (whole : List OpField) (so_far : done ++ fields_of columns places cells ≡ whole) where
  pub places_end : length places ≡ 0 → done ≡ whole
  places_end h = sym (append-nil done) ∙ ap (λ fs. done ++ fs) (sym (none_left columns places cells h)) ∙ so_far

  pub cells_end : length cells ≡ 0 → done ≡ whole
  cells_end h = sym (append-nil done) ∙ ap (λ fs. done ++ fs) (sym (none_more columns places cells h)) ∙ so_far

binds_none : {B : Type 0} (o : Option B) → (o >>= λ z. option_map (λ zs. z ∷ zs) None) ≡ None
binds_none None = refl
binds_none (Some z) = refl

-- where one of a list has no value, the list has none
pub each_lacks : {A B : Type 0} (f : A → Option B) (xs : List A) (i : ℕ) (x : A) → i < length xs → x ≡ get_or xs i x → f x ≡ None → each f xs ≡ None
each_lacks f [] i x h is none = absurd (omega (arith, h))
each_lacks f (y ∷ ys) zero x h is none = ap (λ o. o >>= λ z. option_map (λ zs. z ∷ zs) (each f ys)) (ap f (sym is) ∙ none)
each_lacks f (y ∷ ys) (suc i) x h is none = ap (λ rest. f y >>= λ z. option_map (λ zs. z ∷ zs) rest) (each_lacks f ys i x (omega (arith, h)) is none) ∙ binds_none (f y)
