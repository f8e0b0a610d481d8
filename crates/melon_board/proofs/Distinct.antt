-- Tables with different names, and their places.
use Rattle.std.proofs.Common.{◌≡◌, ℕ, zero, suc, ◌+◌, ◌<◌, ◌≤◌, List, [], ◌∷◌, ◌++◌, length, get_or, Bool, true, false, not, ◌&&◌, ◌||◌, Option, Some, None, Result, Ok, Err, bytes_eq, refl, sym, ap, ◌∙◌, arith}
use Rattle.std.specs.List.{list_any, position, prefix_len}
use Rattle.std.specs.Bool.{⊤}
use Rattle.std.specs.Prelude.{is_none}
use Rattle.std.proofs.lemmas.Grind.{common_steps}
use Rattle.std.proofs.lemmas.List.Quantifiers.{position-Some}
use Rattle.serde_json.specs.Data.{Data}
use Rattle.melon_schema.specs.Faults.{◌>>=◌, unless, or_fault, in_turn}
use Rattle.melon_schema.specs.Names.{is_name, is_reserved_table, are_distinct}
use Rattle.melon_schema.specs.Places.{table_named}
use Rattle.melon_schema.specs.Seen.{SeenSchema}
use Rattle.melon_schema.specs.SchemaForm.{schema_form}
use Rattle.melon_schema.specs.Schema.{is_within_limits, with_column, with_table, are_associations, schema_of}
use Rattle.melon_schema.specs.declared.schema.TableSchema.{TableSchema}
use Rattle.melon_schema.specs.declared.schema.ColumnSchema.{ColumnSchema}
use Rattle.melon_schema.specs.declared.schema_form.TableForm.{TableForm}
use Rattle.melon_schema.specs.declared.schema_fault.SchemaFault.{SchemaFault}
use Rattle.melon_schema.specs.declared.schema_fault.SchemaFault.TheVariants.{Form, BadName, Reserved, Repeated, NoAssociation, Limit}
use Rattle.melon_raw.specs.Rows.{table_at, no_table}
use Rattle.melon_table.proofs.Order.{split, and_left, and_right, both, bytes_same, same_bytes}
use Rattle.melon_change.proofs.Legal.{bind_ok}
use Rattle.melon_board.proofs.Answered.{same_ok, unless_ok, none_from}
use Rattle.melon_board.specs.Lasting.{have_different_names, ReadSchemasHaveDifferentNames}

abbrev pub name_at : List TableSchema → ℕ → List ℕ
name_at tables t = (table_at tables t).name

pub not_false : (b : Bool) → not b ≡ true → b ≡ false
not_false true h = cc
not_false false h = refl

pub not_true : (b : Bool) → b ≡ false → not b ≡ true
not_true true h = cc
not_true false h = refl

pub or_left : (a b : Bool) → (a || b) ≡ false → a ≡ false
or_left true b h = cc
or_left false b h = refl

pub or_right : (a b : Bool) → (a || b) ≡ false → b ≡ false
or_right true b h = cc
or_right false b h = h

-- ---- where a name stands

-- the name is that of none of the tables
abbrev pub IsOfNone : List ℕ → List TableSchema → Type 0
IsOfNone name [] = Unit {0}
IsOfNone name (t ∷ ts) = (bytes_eq name t.name ≡ false) × IsOfNone name ts

past_end : (name : List ℕ) (ts : List TableSchema) → table_named name ts ≡ None → length ts ≤ prefix_len (λ t. not (bytes_eq name t.name)) ts
past_end name ts h = grind (arith, common_steps)

none_from_end : (name : List ℕ) (ts : List TableSchema) → length ts ≤ prefix_len (λ t. not (bytes_eq name t.name)) ts → IsOfNone name ts
none_from_end name [] h = tt
none_from_end name (t ∷ ts) h =
    let ih : length ts ≤ prefix_len (λ s. not (bytes_eq name s.name)) ts → IsOfNone name ts = none_from_end name ts in
    split (bytes_eq name t.name) (λ e. absurd (omega (arith, rw e at h))) (λ e. (e, ih (omega (arith, rw e at h))))

pub is_of_none : (name : List ℕ) (ts : List TableSchema) → table_named name ts ≡ None → IsOfNone name ts
is_of_none name ts h = none_from_end name ts (past_end name ts h)

pub none_at : (name : List ℕ) (ts : List TableSchema) (t : ℕ) → IsOfNone name ts → t < length ts → bytes_eq name (name_at ts t) ≡ false
none_at name [] t none within = absurd (omega arith)
none_at name (s ∷ ts) zero none within = none.0
none_at name (s ∷ ts) (suc t) none within = none_at name ts t none.1 (omega arith)

-- a table that is found stands there, under the name
pub named_at : (name : List ℕ) (ts : List TableSchema) (t : ℕ) → table_named name ts ≡ Some t → (t < length ts) × (name ≡ name_at ts t)
named_at name ts t h = let f = position-Some (λ (s : TableSchema). bytes_eq name s.name) ts t no_table h in (f.0, same_bytes name (name_at ts t) f.1)

-- ---- no name twice

none_named : (name : List ℕ) (ts : List TableSchema) (t : ℕ) → list_any (λ (s : TableSchema). bytes_eq s.name name) ts ≡ false → t < length ts → name ≡ name_at ts t → ⊥
none_named name [] t none within same = absurd (omega arith)
none_named name (s ∷ ts) zero none within same = let no : false ≡ true = sym (or_left (bytes_eq s.name name) (list_any (λ (r : TableSchema). bytes_eq r.name name) ts) none) ∙ bytes_same s.name name (sym same) in cc
none_named name (s ∷ ts) (suc t) none within same = none_named name ts t (or_right (bytes_eq s.name name) (list_any (λ (r : TableSchema). bytes_eq r.name name) ts) none) (omega arith) same

pub one_place : (ts : List TableSchema) (t u : ℕ) → have_different_names ts ≡ true → t < length ts → u < length ts → name_at ts t ≡ name_at ts u → t ≡ u
one_place [] t u apart within within' same = absurd (omega arith)
one_place (s ∷ ts) zero zero apart within within' same = refl
one_place (s ∷ ts) zero (suc u) apart within within' same =
    let none = not_false (list_any (λ (r : TableSchema). bytes_eq r.name s.name) ts) (and_left (not (list_any (λ (r : TableSchema). bytes_eq r.name s.name) ts)) (have_different_names ts) apart) in
    absurd (none_named s.name ts u none (omega arith) same)
one_place (s ∷ ts) (suc t) zero apart within within' same =
    let none = not_false (list_any (λ (r : TableSchema). bytes_eq r.name s.name) ts) (and_left (not (list_any (λ (r : TableSchema). bytes_eq r.name s.name) ts)) (have_different_names ts) apart) in
    absurd (none_named s.name ts t none (omega arith) (sym same))
one_place (s ∷ ts) (suc t) (suc u) apart within within' same =
    ap suc (one_place ts t u (and_right (not (list_any (λ (r : TableSchema). bytes_eq r.name s.name) ts)) (have_different_names ts) apart) (omega arith) (omega arith) same)

-- ---- schemas that are read

any_more : (name : List ℕ) (ts : List TableSchema) (new : TableSchema) → list_any (λ (s : TableSchema). bytes_eq s.name name) ts ≡ false → bytes_eq new.name name ≡ false → list_any (λ (s : TableSchema). bytes_eq s.name name) (ts ++ new ∷ []) ≡ false
any_more name [] new none off = rw off refl
any_more name (s ∷ ts) new none off =
    let here : bytes_eq s.name name ≡ false = or_left (bytes_eq s.name name) (list_any (λ (r : TableSchema). bytes_eq r.name name) ts) none in
    let rest : list_any (λ (r : TableSchema). bytes_eq r.name name) (ts ++ new ∷ []) ≡ false = any_more name ts new (or_right (bytes_eq s.name name) (list_any (λ (r : TableSchema). bytes_eq r.name name) ts) none) off in
    rw here rest

distinct_more : (ts : List TableSchema) (new : TableSchema) → have_different_names ts ≡ true → IsOfNone new.name ts → have_different_names (ts ++ new ∷ []) ≡ true
distinct_more [] new apart none = refl
distinct_more (s ∷ ts) new apart none =
    let first = list_any (λ (r : TableSchema). bytes_eq r.name s.name) ts in
    let off = not_false first (and_left (not first) (have_different_names ts) apart) in
    both (not (list_any (λ (r : TableSchema). bytes_eq r.name s.name) (ts ++ new ∷ []))) (have_different_names (ts ++ new ∷ []))
    (not_true (list_any (λ (r : TableSchema). bytes_eq r.name s.name) (ts ++ new ∷ [])) (any_more s.name ts new off none.0))
    (distinct_more ts new (and_right (not first) (have_different_names ts) apart) none.1)

with_table-distinct : (earlier schema : SeenSchema) (form : TableForm) → with_table earlier form ≡ Ok schema → have_different_names earlier.tables ≡ true → have_different_names schema.tables ≡ true
unfolding with_table
with_table-distinct earlier schema form h apart =
    let a = bind_ok (unless (is_name form.name) BadName) _ schema h in
    let b = bind_ok (unless (not (is_reserved_table form.name)) Reserved) _ schema a.2 in
    let c = bind_ok (unless (is_none (table_named form.name earlier.tables)) Repeated) _ schema b.2 in
    let d = bind_ok (in_turn with_column [] form.columns) _ schema c.2 in
    let new : TableSchema = record { name = form.name; columns = d.0; associations = form.associations } in
    let made : SeenSchema = record { version = earlier.version; tables = earlier.tables ++ new ∷ [] } in
    let is : made ≡ schema = same_ok (Ok made) made schema refl d.2 in
    let none = is_of_none form.name earlier.tables (none_from (table_named form.name earlier.tables) (unless_ok (is_none (table_named form.name earlier.tables)) Repeated c.0 c.1)) in
    ap (λ (s : SeenSchema). have_different_names s.tables) (sym is) ∙ distinct_more earlier.tables new apart none

tables-distinct : (forms : List TableForm) (earlier schema : SeenSchema) → in_turn with_table earlier forms ≡ Ok schema → have_different_names earlier.tables ≡ true → have_different_names schema.tables ≡ true
tables-distinct [] earlier schema h apart = ap (λ (s : SeenSchema). have_different_names s.tables) (sym (same_ok (Ok earlier) earlier schema refl h)) ∙ apart
tables-distinct (f ∷ forms) earlier schema h apart =
    let a = bind_ok (with_table earlier f) _ schema h in
    tables-distinct forms a.0 schema a.2 (with_table-distinct earlier a.0 f a.1 apart)

pub read : ReadSchemasHaveDifferentNames
unfolding schema_of
read d schema h =
    let a = bind_ok (or_fault (schema_form d) Form) _ schema h in
    let b = bind_ok (unless (is_within_limits a.0) Limit) _ schema a.2 in
    let c = bind_ok (in_turn with_table (record { version = a.0.version; tables = [] }) a.0.tables) _ schema b.2 in
    let e = bind_ok (unless (are_associations c.0.tables) NoAssociation) _ schema c.2 in
    let is : c.0 ≡ schema = same_ok (Ok c.0) c.0 schema refl e.2 in
    ap (λ (s : SeenSchema). have_different_names s.tables) (sym is) ∙ tables-distinct a.0.tables (record { version = a.0.version; tables = [] }) c.0 c.1 refl
