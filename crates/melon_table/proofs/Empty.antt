-- Tables without rows, made one after another.
use Rattle.std.proofs.Common.{◌≡◌, ℕ, ◌+◌, List, [], ◌∷◌, ◌++◌, take, map, length, ◌≤◌, Some, slice_get, refl, sym, ap, ◌∙◌, add-one}
use Rattle.std.proofs.Math.Seq.{take-suc}
use Rattle.std.proofs.lemmas.List.{map-append, take_all}
use Rattle.std.proofs.lemmas.Option.{get_or_from_slice_get, slice_get_within}
use Rattle.melon_schema.specs.declared.schema.TableSchema.{TableSchema}
use Rattle.melon_table.specs.Seen.{SeenTable, rows_of, columns_of, declared_columns}

-- a table was made for each of the first n
pub record Made (schema : List TableSchema) (tables : List SeenTable) (n : ℕ) : Type 0 where
  pub columns : columns_of tables ≡ declared_columns (take n schema)
  pub rows : rows_of tables ≡ map (λ _. []) (take n schema)

taken : (schema : List TableSchema) (n : ℕ) (d : TableSchema) → slice_get schema n ≡ Some d → take (n + 1) schema ≡ take n schema ++ d ∷ []
taken schema n d e = ap (λ (k : ℕ). take k schema) (add-one n) ∙ (take-suc schema n d (slice_get_within schema n d e) ∙ ap (λ (t : TableSchema). take n schema ++ t ∷ []) (get_or_from_slice_get schema n d d e))

pub made_more : (schema : List TableSchema) (tables : List SeenTable) (n : ℕ) (d : TableSchema) (t : SeenTable) → slice_get schema n ≡ Some d → t.columns ≡ d.columns → t.rows ≡ [] → Made schema tables n → Made schema (tables ++ t ∷ []) (n + 1)
made_more schema tables n d t e c r h = record {
  columns = map-append (λ x. x.columns) tables (t ∷ []) ∙ (ap (λ xs. xs ++ t.columns ∷ []) h.columns ∙ (ap (λ x. declared_columns (take n schema) ++ x ∷ []) c
      ∙ sym (ap declared_columns (taken schema n d e) ∙ map-append (λ x. x.columns) (take n schema) (d ∷ []))));
  rows = map-append (λ x. x.rows) tables (t ∷ []) ∙ (ap (λ xs. xs ++ t.rows ∷ []) h.rows ∙ (ap (λ x. map (λ _. []) (take n schema) ++ x ∷ []) r
      ∙ sym (ap (map (λ _. [])) (taken schema n d e) ∙ map-append (λ _. []) (take n schema) (d ∷ []))));
}

pub made_none : (schema : List TableSchema) → Made schema [] 0
made_none schema = record { columns = refl; rows = refl }

pub made_all : (schema : List TableSchema) (tables : List SeenTable) (n : ℕ) → length schema ≤ n → Made schema tables n → (columns_of tables ≡ declared_columns schema) × (rows_of tables ≡ map (λ _. []) schema)
made_all schema tables n past h = (h.columns ∙ ap declared_columns (take_all n schema past), h.rows ∙ ap (map (λ _. [])) (take_all n schema past))
