-- A table's place among the entries is its place among the tables.
use Rattle.std.proofs.Common.{◌≡◌, ℕ, List, [], ◌∷◌, map, String, Global, string_bytes, bytes_eq, length, not, None, ◌++◌, refl, ◌∙◌}
use Rattle.std.specs.Map.{lookup}
use Rattle.std.specs.List.{AllByRecursion, position, prefix_len}
use Rattle.indexmap.specs.IndexMap.{insert_entry}
use Rattle.indexmap.proofs.MapLemmas.{insert_entry-absent, Missing-position}
use Rattle.melon_schema.specs.declared.schema.TableSchema.{TableSchema}
use Rattle.melon_schema.specs.Places.{table_named, declared_table}

abbrev pub Entry : Type 0
Entry = String Global × TableSchema

same_prefix : (name : List ℕ) (es : List Entry) → AllByRecursion (λ e. string_bytes e.0 ≡ e.1.name) es
    → prefix_len (λ k. not (bytes_eq name (string_bytes k))) (map (λ e. e.0) es) ≡ prefix_len (λ t. not (bytes_eq name t.name)) (map (λ e. e.1) es)
same_prefix name [] h = refl
same_prefix name (e ∷ es) h = rw h.0 (rw (same_prefix name es h.1) refl)

same_length : (es : List Entry) → length (map (λ e. e.0) es) ≡ length (map (λ e. e.1) es)
same_length [] = refl
same_length (e ∷ es) = rw (same_length es) refl

pub table_named-entries : (name : List ℕ) (es : List Entry) → AllByRecursion (λ e. string_bytes e.0 ≡ e.1.name) es
    → position (λ k. bytes_eq name (string_bytes k)) (map (λ e. e.0) es) ≡ table_named name (map (λ e. e.1) es)
table_named-entries name es h = rw (same_prefix name es h) (rw (same_length es) refl)

-- and the table found under a name is the first of that name
pub declared_table-entries : (name : List ℕ) (es : List Entry) → AllByRecursion (λ e. string_bytes e.0 ≡ e.1.name) es
    → lookup (λ k. bytes_eq name (string_bytes k)) es ≡ declared_table name (map (λ e. e.1) es)
declared_table-entries name [] h = refl
declared_table-entries name (e ∷ es) h = rw h.0 (rw (declared_table-entries name es h.1) refl)

-- a table with a new name goes last
pub inserted_last : (key : String Global) (table : TableSchema) (es : List Entry) → AllByRecursion (λ e. string_bytes e.0 ≡ e.1.name) es → string_bytes key ≡ table.name
    → table_named table.name (map (λ e. e.1) es) ≡ None → insert_entry (λ k l. bytes_eq (string_bytes k) (string_bytes l)) es key table ≡ es ++ (key, table) ∷ []
inserted_last key table es named same none =
    insert_entry-absent (λ k l. bytes_eq (string_bytes k) (string_bytes l)) key table es
    (Missing-position (λ k. bytes_eq (string_bytes key) (string_bytes k)) es (rw same (table_named-entries table.name es named) ∙ none)).absent

pub named_push : (key : String Global) (table : TableSchema) (es : List Entry) → AllByRecursion (λ e. string_bytes e.0 ≡ e.1.name) es → string_bytes key ≡ table.name
    → AllByRecursion (λ e. string_bytes e.0 ≡ e.1.name) (es ++ (key, table) ∷ [])
named_push key table [] named same = (same, tt)
named_push key table (e ∷ es) named same = (named.0, named_push key table es named.1 same)
