-- The query of the rows that a row has: it is well formed, and answers those rows.
use Rattle.std.proofs.Common.{◌≡◌, ℕ, List, [], ◌∷◌, ◌++◌, length, lt-ltb, map, Bool, true, false, ◌&&◌, not, nat_lt, Option, Some, None, slice_get, Result, Ok, refl, sym, ap, ◌∙◌, subst}
use Rattle.std.proofs.lemmas.Option.{slice_get_within, get_or_from_slice_get}
use Rattle.std.proofs.lemmas.List.Elements.{filter_agree}
use Rattle.std.proofs.lemmas.Map.Text.{is_eq-slice_cmp}
use Rattle.melon_schema.specs.Faults.{◌>>=◌, or_fault}
use Rattle.melon_schema.specs.Schema.{is_words}
use Rattle.melon_schema.specs.declared.schema.Kind.{Kind}
use Rattle.melon_schema.specs.declared.schema.Kind.TheVariants as kinds
use Rattle.melon_schema.specs.declared.schema.ColumnSchema.{ColumnSchema}
use Rattle.melon_schema.specs.declared.schema.TableSchema.{TableSchema}
use Rattle.melon_raw.specs.declared.datum.Datum.{Datum}
use Rattle.melon_raw.specs.declared.datum.Datum.TheVariants.{Null, Words, Whole, Truth}
use Rattle.melon_raw.specs.declared.raw.Raw.{Raw}
use Rattle.melon_raw.specs.Rows.{Rows, cell, is_visible, is_ascending, table_at, no_table}
use Rattle.melon_query.specs.declared.query.Col.TheVariants.{Cell}
use Rattle.melon_query.specs.declared.query.CompareOp.TheVariants.{Eq}
use Rattle.melon_query.specs.declared.query.Right.TheVariants.{One}
use Rattle.melon_query.specs.declared.query.Compare.{Compare}
use Rattle.melon_query.specs.declared.query.Cond.{Cond}
use Rattle.melon_query.specs.declared.query.Cond.TheVariants as cond
use Rattle.melon_query.specs.declared.query.Join.{Join}
use Rattle.melon_query.specs.declared.query.Join.TheVariants.{OwnKey, TheirKey}
use Rattle.melon_query.specs.declared.query.Query.{Query}
use Rattle.melon_query.specs.Kinds.{kind_of, is_same_kind}
use Rattle.melon_query.specs.Tuples.{alone, names, rows_of}
use Rattle.melon_query.specs.Truth.{is_same, compares}
use Rattle.melon_query.specs.Fresh.{fresh, all_ons}
use Rattle.melon_query.specs.Simple.{is_simple, one_has_on}
use Rattle.melon_query.specs.Sound.{is_comparison, is_key, is_sound, all_sound, all_agree, is_well_formed}
use Rattle.melon_query.proofs.Founds.{and_left, and_right, both}
use Rattle.melon_query.proofs.Ons.{ons-Compare, has_on-Compare}
use Rattle.melon_query.proofs.Sounds.{join_declared}
use Rattle.melon_query.proofs.SoundSteps.{is_sound-Compare}
use Rattle.melon_eval.proofs.Meanings.{holds-Compare}
use Rattle.melon_views.specs.Members.{chooses}
use Rattle.melon_views.proofs.Chosen.{fresh_simple}
use Rattle.melon_relation.specs.declared.fault.RelationFault.{RelationFault}
use Rattle.melon_relation.specs.declared.fault.RelationFault.TheVariants.{NoAssociation}
use Rattle.melon_relation.specs.Relations.{joined, association, their_key, child_key}
use Rattle.melon_relation.specs.Children.{is_child, children_in, children_query, children_asked, children_told}
use Rattle.melon_relation.specs.Laws.{ChildrenAreAnswered}

-- the comparison of a key column with an id
abbrev pub by_key : ℕ → List ℕ → Compare
by_key column id = record { column = Cell column; op = Eq; right = One (Words id) }

abbrev pub conds_of : ℕ → List ℕ → List Cond
conds_of column id = cond.Compare (by_key column id) ∷ []

-- ---- what it answers

and_true : (b : Bool) → b && true ≡ b
and_true true = refl
and_true false = refl

compared : (value : Datum) (id : List ℕ) → is_same value (Words id) ≡ names value id
compared Null id = refl
compared (Words text) id = is_eq-slice_cmp text id
compared (Whole z) id = refl
compared (Truth b) id = refl

one_child : (column : ℕ) (id : List ℕ) (row : Raw) → chooses (conds_of column id) row ≡ is_child column id row
unfolding compares
one_child column id row =
    ap (λ b. is_visible row.status && (b && true)) (holds-Compare (by_key column id) (alone row))
    ∙ ap (λ b. is_visible row.status && b) (and_true (is_same (cell row column) (Words id)) ∙ compared (cell row column) id)

simple_query : (to column : ℕ) (id : List ℕ) → is_simple (children_query to column id) ≡ true
unfolding is_simple
simple_query to column id = rw (has_on-Compare (by_key column id)) refl

pub answered : ChildrenAreAnswered
answered to column id rows asc =
    fresh_simple (children_query to column id) rows (simple_query to column id) asc
    ∙ ap (map (λ (row : Raw). row.id)) (filter_agree (chooses (conds_of column id)) (is_child column id) (one_child column id) (rows_of to rows))

pub told_answered : (tables : List TableSchema) (rows : Rows) (table : ℕ) (id : List ℕ) (to column : ℕ) → child_key tables table to ≡ Some column → is_ascending (rows_of to rows) ≡ true
    → children_told tables rows table id to ≡ Ok (fresh (children_query to column id) rows)
told_answered tables rows table id to column found asc =
    ap (λ (k : Option ℕ). or_fault k NoAssociation >>= λ column. Ok (children_in to column id rows)) found
    ∙ ap Ok (sym (answered to column id rows asc))

-- ---- it is well formed

key_told : (j : Option Join) (column : ℕ) → their_key j ≡ Some column → j ≡ Some (TheirKey column)
key_told None column h = cc
key_told (Some (OwnKey c)) column h = cc
key_told (Some (TheirKey c)) column h = cc

record Keyed (other : Option TableSchema) (column : ℕ) : Type 0 where
  pub table : TableSchema
  pub is : other ≡ Some table
  pub keyed : is_key table.columns column ≡ true

keyed_by : (own other : Option TableSchema) (column : ℕ) → joined own other ≡ Some (TheirKey column) → Keyed other column
keyed_by None other column h = cc
keyed_by (Some own) None column h = cc
keyed_by (Some own) (Some other) column h = record { table = other; is = refl; keyed = join_declared own other other.name (TheirKey column) h }

words_same : (k : Kind) → is_words k ≡ true → is_same_kind k kinds.Words ≡ true
words_same kinds.Words h = refl
words_same kinds.Whole h = h
words_same kinds.Truth h = h

key_compared : (columns : List ColumnSchema) (column : ℕ) (id : List ℕ) → is_key columns column ≡ true → is_comparison columns (by_key column id) ≡ true
unfolding is_comparison
key_compared columns column id h =
    let kind = kind_of (Cell column) columns in
    both (nat_lt column (length columns)) _ (and_left (nat_lt column (length columns)) (is_words kind) h)
    (both (is_same_kind kind kinds.Words) true (words_same kind (and_right (nat_lt column (length columns)) (is_words kind) h)) refl)

conds_sound : (tables : List TableSchema) (columns : List ColumnSchema) (column : ℕ) (id : List ℕ) → is_key columns column ≡ true → all_sound tables columns (conds_of column id) columns true ≡ true
conds_sound tables columns column id h =
    both (is_sound tables columns (cond.Compare (by_key column id)) columns true) true
    (is_sound-Compare tables columns columns true (by_key column id) ∙ key_compared columns column id h) refl

query_sound : (tables : List TableSchema) (to column : ℕ) (id : List ℕ) → nat_lt to (length tables) ≡ true → is_key (table_at tables to).columns column ≡ true
    → is_well_formed tables (children_query to column id) ≡ true
unfolding is_well_formed
query_sound tables to column id within keyed =
    both (nat_lt to (length tables)) _ within
    (both (all_sound tables (table_at tables to).columns (conds_of column id) (table_at tables to).columns true) _ (conds_sound tables (table_at tables to).columns column id keyed)
    (both (all_agree (all_ons (conds_of column id))) true (ap (λ js. all_agree (js ++ [])) (ons-Compare (by_key column id))) refl))

pub told_sound : (tables : List TableSchema) (table : ℕ) (id : List ℕ) (to column : ℕ) → child_key tables table to ≡ Some column → is_well_formed tables (children_query to column id) ≡ true
told_sound tables table id to column found =
    let k : Keyed (slice_get tables to) column = keyed_by (slice_get tables table) (slice_get tables to) column (key_told (association tables table to) column found) in
    query_sound tables to column id (lt-ltb to (length tables) (slice_get_within tables to k.table k.is))
    (subst (λ (t : TableSchema). is_key t.columns column ≡ true) (sym (get_or_from_slice_get tables to k.table no_table k.is)) k.keyed)
