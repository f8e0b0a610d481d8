-- A query that was read is well formed.
use Rattle.std.proofs.Common.{◌≡◌, ℕ, ◌<◌, List, [], ◌∷◌, ◌++◌, length, get_or, Bool, true, false, not, ◌&&◌, ◌||◌, ◌==◌, nat_lt, Option, Some, None, is_some, is_none, option_map, option_and_then, unwrap_or, slice_get, Result, Ok, Err, map, codes, bytes_eq, cond, if◌then◌else◌, refl, sym, ap, subst, ◌∙◌, arith}
use Rattle.std.specs.List.{AllByRecursion, list_all}
use Rattle.std.proofs.lemmas.Bool.{lt-ltb}
use Rattle.std.proofs.lemmas.List.Quantifiers.{position-Some}
use Rattle.std.proofs.lemmas.Option.{slice_get-get_or}
use Rattle.melon_schema.specs.Faults.{◌>>=◌, unless, or_fault, in_turn, each_read}
use Rattle.melon_schema.specs.Places.{table_named, column_named, declared_table}
use Rattle.melon_schema.specs.Schema.{is_words}
use Rattle.melon_schema.specs.declared.schema.Kind.{Kind}
use Rattle.melon_schema.specs.declared.schema.ColumnSchema.{ColumnSchema}
use Rattle.melon_schema.specs.declared.schema.TableSchema.{TableSchema}
use Rattle.melon_schema.specs.declared.schema.Association.{Association}
use Rattle.melon_schema.specs.declared.schema.Association.TheVariants.{BelongsTo, HasMany}
use Rattle.melon_raw.specs.Rows.{table_at, column_at, no_column}
use Rattle.melon_query.specs.declared.query.Col.{Col}
use Rattle.melon_query.specs.declared.query.Col.TheVariants.{Id, Cell}
use Rattle.melon_query.specs.declared.query.Right.{Right}
use Rattle.melon_query.specs.declared.query.Right.TheVariants as right
use Rattle.melon_query.specs.declared.query.Compare.{Compare}
use Rattle.melon_query.specs.declared.query.Join.{Join}
use Rattle.melon_query.specs.declared.query.Join.TheVariants.{OwnKey, TheirKey}
use Rattle.melon_query.specs.declared.query_fault.QueryFault.{QueryFault}
use Rattle.melon_query.specs.declared.query_fault.QueryFault.TheVariants.{UnknownColumn, WrongKind, NullInList}
use Rattle.melon_query.specs.declared.cond_form.RightForm.{RightForm}
use Rattle.melon_query.specs.declared.cond_form.RightForm.TheVariants.{One, Many, Other}
use Rattle.melon_query.specs.declared.cond_form.CompareForm.{CompareForm}
use Rattle.melon_query.specs.Kinds.{kind_of, kind_at, takes_kind, takes_right, lists_null}
use Rattle.melon_query.specs.Reading.{col_named, right_in, compare_in, key_named, joined_by, join_with, association_with}
use Rattle.melon_query.specs.Sound.{is_column, names_columns, is_comparison, is_key, is_join}
use Rattle.melon_query.proofs.Founds.{and_right, both, ok_same, bind_ok, unless_ok, or_fault_ok, mapped_some, then_some}

-- ---- columns

-- a column that was found is declared
pub column_declared : (name : List ℕ) (columns : List ColumnSchema) (col : Col) → col_named name columns ≡ Some col → is_column columns col ≡ true
column_declared name columns col h = by_id (bytes_eq name (codes "id")) h
  where
    cell_declared : (found : (place : ℕ) × (column_named name columns ≡ Some place) × (Cell place ≡ col)) → is_column columns col ≡ true
    cell_declared found =
        let at = position-Some (λ (c : ColumnSchema). bytes_eq c.name name) columns found.0 no_column found.1 in
        subst (λ (c : Col). is_column columns c ≡ true) found.2 (lt-ltb found.0 (length columns) at.0)

    id_is : Some Id ≡ Some col → Id ≡ col
    id_is e = cc

    by_id : (b : Bool) → (if b then Some Id else option_map Cell (column_named name columns)) ≡ Some col → is_column columns col ≡ true
    by_id true e = subst (λ (c : Col). is_column columns c ≡ true) (id_is e) refl
    by_id false e = cell_declared (mapped_some Cell (column_named name columns) col e)

right_declared : (columns : List ColumnSchema) (form : RightForm) (side : Right) → right_in columns form ≡ Ok side → names_columns columns side ≡ true
right_declared columns (One value) side h = subst (λ (s : Right). names_columns columns s ≡ true) (ok_same QueryFault (right.One value) side h) refl
right_declared columns (Many values) side h = subst (λ (s : Right). names_columns columns s ≡ true) (ok_same QueryFault (right.Many values) side h) refl
right_declared columns (Other name) side h =
    let found = mapped_some right.Other (col_named name columns) side (or_fault_ok (option_map right.Other (col_named name columns)) UnknownColumn side h) in
    subst (λ (s : Right). names_columns columns s ≡ true) found.2 (column_declared name columns found.0 found.1)

-- ---- comparisons

abbrev fits : List ColumnSchema → CompareForm → Col → Right → Bool
fits columns form column side = takes_kind form.op (kind_of column columns) && takes_right form.op (kind_of column columns) columns side

abbrev made : CompareForm → Col → Right → Compare
made form column side = record { column = column; op = form.op; right = side }

abbrev after_kind : CompareForm → Col → Right → Result Compare QueryFault
after_kind form column side = unless (not (lists_null side)) NullInList >>= λ full. Ok (made form column side)

abbrev after_side : List ColumnSchema → CompareForm → Col → Right → Result Compare QueryFault
after_side columns form column side = unless (fits columns form column side) WrongKind >>= λ fitting. after_kind form column side

abbrev after_column : List ColumnSchema → CompareForm → Col → Result Compare QueryFault
after_column columns form column = right_in columns form.right >>= λ side. after_side columns form column side

pub comparison_sound : (columns : List ColumnSchema) (form : CompareForm) (by : Compare) → compare_in columns form ≡ Ok by → is_comparison columns by ≡ true
unfolding compare_in is_comparison
comparison_sound columns form by h =
    let a = bind_ok (or_fault (col_named form.column columns) UnknownColumn) (λ column. after_column columns form column) by h in
    let b = bind_ok (right_in columns form.right) (λ side. after_side columns form a.0 side) by a.2 in
    let d = bind_ok (unless (fits columns form a.0 b.0) WrongKind) (λ fitting. after_kind form a.0 b.0) by b.2 in
    let e = bind_ok (unless (not (lists_null b.0)) NullInList) (λ full. Ok (made form a.0 b.0)) by d.2 in
    let is : made form a.0 b.0 ≡ by = ok_same QueryFault (made form a.0 b.0) by e.2 in
    subst (λ (c : Compare). is_comparison columns c ≡ true) is
    (both (is_column columns a.0) _ (column_declared form.column columns a.0 (or_fault_ok (col_named form.column columns) UnknownColumn a.0 a.1))
    (both (names_columns columns b.0) _ (right_declared columns form.right b.0 b.1)
    (both (fits columns form a.0 b.0) (not (lists_null b.0)) (unless_ok (fits columns form a.0 b.0) WrongKind d.0 d.1) (unless_ok (not (lists_null b.0)) NullInList e.0 e.1))))

-- ---- associations

key_declared : (name : List ℕ) (columns : List ColumnSchema) (place : ℕ) → key_named name columns ≡ Some place → is_key columns place ≡ true
key_declared name columns place h =
    let at = position-Some (λ (c : ColumnSchema). bytes_eq c.name name && is_words c.kind) columns place no_column h in
    let kept : is_words (column_at columns place).kind ≡ true = and_right (bytes_eq (column_at columns place).name name) (is_words (column_at columns place).kind) at.1 in
    both (nat_lt place (length columns)) (is_words (kind_of (Cell place) columns)) (lt-ltb place (length columns) at.0)
    (ap (λ o. is_words (kind_at o)) (slice_get-get_or columns place no_column at.0) ∙ kept)

by_association : (own other : TableSchema) (a : Association) (join : Join) → joined_by own other a ≡ Some join → is_join own.columns other.columns join ≡ true
by_association own other (BelongsTo table key) join h =
    let found = mapped_some OwnKey (key_named key own.columns) join h in
    subst (λ (j : Join). is_join own.columns other.columns j ≡ true) found.2 (key_declared key own.columns found.0 found.1)
by_association own other (HasMany table key) join h =
    let found = mapped_some TheirKey (key_named key other.columns) join h in
    subst (λ (j : Join). is_join own.columns other.columns j ≡ true) found.2 (key_declared key other.columns found.0 found.1)

-- an association that was found leads by a declared text column
pub join_declared : (own other : TableSchema) (name : List ℕ) (join : Join) → join_with own other name ≡ Some join → is_join own.columns other.columns join ≡ true
join_declared own other name join h =
    let found = then_some (joined_by own other) (association_with name own.associations) join h in
    by_association own other found.0 join found.2
