-- Tables that rows are put into keep their columns.
use Rattle.std.proofs.Common.{◌≡◌, ℕ, zero, suc, List, [], ◌∷◌, set, Some, slice_get, option_map, ap, sym, ◌∙◌, refl}
use Rattle.std.proofs.lemmas.Option.{slice_get-map}
use Rattle.melon_schema.specs.declared.schema.ColumnSchema.{ColumnSchema}
use Rattle.melon_schema.specs.declared.schema.TableSchema.{TableSchema}
use Rattle.melon_table.specs.Seen.{SeenTable, columns_of, declared_columns}

pub columns_stay : (ts : List SeenTable) (i : ℕ) (was now : SeenTable) → slice_get ts i ≡ Some was → now.columns ≡ was.columns → columns_of (set ts i now) ≡ columns_of ts
columns_stay [] i was now here same = cc
columns_stay (t ∷ ts) zero was now here same = let first : t ≡ was = cc in ap (λ c. c ∷ columns_of ts) (same ∙ sym (ap (λ (x : SeenTable). x.columns) first))
columns_stay (t ∷ ts) (suc i) was now here same = ap (λ cs. t.columns ∷ cs) (columns_stay ts i was now here same)

pub columns_at : (ts : List SeenTable) (declared : List TableSchema) (i : ℕ) (t : SeenTable) (d : TableSchema) → columns_of ts ≡ declared_columns declared → slice_get ts i ≡ Some t → slice_get declared i ≡ Some d → d.columns ≡ t.columns
columns_at ts declared i t d same here there =
    let e : Some t.columns ≡ Some d.columns =
    sym (slice_get-map (λ (x : SeenTable). x.columns) ts i ∙ ap (option_map (λ (x : SeenTable). x.columns)) here)
    ∙ ap (λ cs. slice_get cs i) same ∙ slice_get-map (λ (x : TableSchema). x.columns) declared i ∙ ap (option_map (λ (x : TableSchema). x.columns)) there in
    cc
