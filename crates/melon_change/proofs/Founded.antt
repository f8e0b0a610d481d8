-- The rows and columns at a place among tables that have a schema's columns.
use Rattle.std.proofs.Common.{◌≡◌, ℕ, zero, suc, ◌<◌, List, [], ◌∷◌, length, map, get_or, Option, Some, None, Bor, slice_get, refl, sym, ap, ◌∙◌, subst, arith}
use Rattle.std.specs.Option.{option_copied, IfSome}
use Rattle.std.proofs.lemmas.Option.{get_or_from_slice_get, slice_get_within}
use Rattle.melon_schema.specs.declared.schema.ColumnSchema.{ColumnSchema}
use Rattle.melon_schema.specs.declared.schema.TableSchema.{TableSchema}
use Rattle.melon_raw.specs.declared.raw.Raw.{Raw}
use Rattle.melon_raw.specs.Rows.{Fits, at_id, no_table}
use Rattle.melon_table.specs.Seen.{SeenTable, columns_of, declared_columns}
use Rattle.melon_table.specs.Kept.{IsKept}
use Rattle.melon_table.proofs.ById.{Fits-at_id}
use Rattle.melon_change.specs.Changes.{columns_at, columns_in}

columns_in-is : (tables : List SeenTable) (n : ℕ) (t : SeenTable) → slice_get tables n ≡ Some t → columns_in tables n ≡ t.columns
columns_in-is [] n t h = cc
columns_in-is (x ∷ xs) zero t h = let same : x ≡ t = cc in ap (λ (y : SeenTable). y.columns) same
columns_in-is (x ∷ xs) (suc n) t h = columns_in-is xs n t h

-- a row that is found fits the columns of its table
pub fits_found : (r : Option (Bor Raw)) (id : List ℕ) (t : SeenTable) (tables : List SeenTable) (n : ℕ) → option_copied r ≡ at_id id t.rows → IsKept t.columns t.rows → slice_get tables n ≡ Some t → IfSome r (λ row. Fits (columns_in tables n) row.now)
fits_found None id t tables n found kept here = tt
fits_found (Some row) id t tables n found kept here = subst (λ (cs : List ColumnSchema). Fits cs row.now) (sym (columns_in-is tables n t here)) (Fits-at_id t.columns id t.rows row.now kept.fitting (sym found))

declared_at-is : (schema : List TableSchema) (n : ℕ) → n < length schema → get_or (declared_columns schema) n [] ≡ columns_at schema n
declared_at-is [] n h = absurd (omega (arith, h))
declared_at-is (t ∷ ts) zero h = refl
declared_at-is (t ∷ ts) (suc n) h = declared_at-is ts n (omega (arith, h))

-- tables with the schema's columns have at each place the columns that are declared there
pub columns_declared : (tables : List SeenTable) (schema : List TableSchema) (n : ℕ) → columns_of tables ≡ declared_columns schema → n < length schema → columns_in tables n ≡ columns_at schema n
columns_declared tables schema n same h = ap (λ (cs : List (List ColumnSchema)). get_or cs n []) same ∙ declared_at-is schema n h

length-map : {A B : Type 0} (f : A → B) (xs : List A) → length (map f xs) ≡ length xs
length-map f [] = refl
length-map f (x ∷ xs) = ap suc (length-map f xs)

pub length_declared : (tables : List SeenTable) (schema : List TableSchema) → columns_of tables ≡ declared_columns schema → length tables ≡ length schema
length_declared tables schema same = sym (length-map (λ t. t.columns) tables) ∙ (ap length same ∙ length-map (λ t. t.columns) schema)
