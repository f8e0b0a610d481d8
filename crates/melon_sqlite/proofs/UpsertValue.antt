-- What the statement that puts a value does.
use Rattle.std.proofs.Common.{◌≡◌, inl, inr, ℕ, ℤ, true, not, List, [], ◌∷◌, ◌++◌, map, filter, Ok, Option, None, refl, sym, ap, ap₂, ◌∙◌, subst, is_eq, Equal}
use Rattle.std.proofs.lemmas.Bool.{not-true}
use Rattle.sqlite_value.specs.declared.value.Value.TheVariants.{Null, Int, Text}
use Rattle.sqlite_value.specs.Order.{Row, column}
use Rattle.sqlite_value.specs.Order as order
use Rattle.sqlite_value.specs.Keys.{plain}
use Rattle.sqlite_trees.specs.Tree.{Trees, rowid, put_row, without_rowid, has_rowid}
use Rattle.sqlite_trees.specs.View.{IsShaped}
use Rattle.sqlite_trees.specs.declared.store.Shape.TheVariants.{Table}
use Rattle.sqlite_trees.proofs.TreeLemmas.{IsShaped-put_row, IsShaped-filter}
use Rattle.sqlite_schema.specs.Rules.{agree, Obeys}
use Rattle.sqlite_schema.specs.declared.schema.Keys.TheVariants.{Enforced}
use Rattle.sqlite_rules.specs.declared.error.Rowids.TheVariants.{Given}
use Rattle.sqlite_rules.specs.Edit.{edit_of, next_rowid, are_fresh, Applies}
use Rattle.sqlite_rules.specs.Lists.{Has}
use Rattle.sqlite_rules.proofs.ListLemmas.{has_filtered, has_kept}
use Rattle.sqlite_rules.proofs.TableLemmas as table
use Rattle.std.specs.List.Sorted.{IsPermutation}
use Rattle.std.proofs.lemmas.Cmp.{on_total, tied_itself}
use Rattle.std.proofs.lemmas.Bool.{false_from_ne_true}
use Rattle.sqlite_value.proofs.OrderLemmas.{value_cmp_total}
use Rattle.sqlite_trees.proofs.ListLemmas.{ascending-filter}
use Rattle.sqlite_sql.specs.Ops.{is_null}
use Rattle.sqlite_sql.specs.Term.{col}
use Rattle.sqlite_sql.specs.Query.{Output, output}
use Rattle.sqlite_rules.specs.Calls.{ids_of}
use Rattle.sqlite_rules.proofs.PlaceLemmas.{tied_same}
use Rattle.sqlite.specs.Rows.{Written, Task, Then, Gives, Edited, Puts, Updates, shown}
use Rattle.sqlite.proofs.Callers.{one_permutation}
use Rattle.melon_sqlite.proofs.Texts.{same, value_query}
use Rattle.melon_sqlite.proofs.Queries.{picks, from_rows}
use Rattle.melon_sqlite.proofs.Cells.{same_is}
use Rattle.melon_sqlite.proofs.Sorted.{same_list}
use Rattle.sqlite.proofs.Callers.{one_step}
use Rattle.melon_outside.specs.Kept.{text_cmp, name_of}
use Rattle.melon_sqlite.specs.Contents.{store_of, value_of}
use Rattle.melon_sqlite.specs.Tables.{kept_schema, values_table}
use Rattle.melon_sqlite.proofs.Sorted.{PutsOver}
use Rattle.melon_sqlite.proofs.Cells.{name_total, stored_value, cast_int, text_tie}
use Rattle.melon_sqlite.proofs.ValueForms.{row_form, rows_apart, stored_agree}
use Rattle.melon_sqlite.proofs.Upsert.{went, same_value, and_right_true, eq_is}

-- the row was put over what had its key
pub record ValuePut (db : Trees) (s m : List ℕ) (v : ℤ) (next : Trees) : Type 0 where
  pub id : ℤ
  pub over : PutsOver text_cmp name_of name_total value_of (db 2) (stored_value id s m v) (next 2)
  pub shaped : IsShaped Table (next 2)
  pub other : next 0 ≡ db 0

module _ (limit : Option ℕ) (db : Trees) (fits : Obeys kept_schema db) (shaped : IsShaped Table (db 2)) (s m : List ℕ) (v : ℤ) where
  abbrev pub params : Row
  params = Text s ∷ Text m ∷ Int v ∷ []

  abbrev pub task : Task
  task = record { limit = limit; keys = Enforced; schema = kept_schema; table = values_table; params = params }

  abbrev pub fresh_row : Row
  fresh_row = stored_value (next_rowid (db 2)) s m v

  -- no row has the key
  abbrev pub IsNew : Type 0
  IsNew = (r : Row) → Has (db 2) r → agree plain (1 ∷ 2 ∷ []) r (1 ∷ 2 ∷ []) fresh_row ≡ true → ⊥

  other_key : (id : ℤ) (r : Row) → Has (db 2) r → (agree plain (1 ∷ 2 ∷ []) r (1 ∷ 2 ∷ []) (stored_value id s m v) ≡ true → ⊥) → store_of r ≡ s
      → text_cmp (name_of (value_of r)) (name_of (value_of (stored_value id s m v))) ≡ Equal → ⊥
  other_key id r h none same tie =
      let f = row_form db fits shaped r h in
      let name = text_tie (value_of r).name m tie in
      none (subst (λ x. agree plain (1 ∷ 2 ∷ []) x (1 ∷ 2 ∷ []) (stored_value id s m v) ≡ true) (sym f.4)
      (stored_agree f.0 f.1 f.2 f.3 id s m v (sym (ap store_of f.4) ∙ same) (sym (ap (λ x. (value_of x).name) f.4) ∙ name)))

  pub puts_new : (one : Written) → IsNew → Puts task fresh_row db (Ok one) → ValuePut db s m v one.trees
  puts_new one none h =
      let w = went h in
      let edit = edit_of db values_table [] Given 0 (fresh_row ∷ []) in
      let a : Applies kept_schema Enforced db edit w.0 = one_step kept_schema Enforced db w.0 edit refl w.1 in
      let trees : one.trees ≡ w.0 = ap (λ (it : Written). it.trees) (same_value w.2) in
      let rows : one.trees 2 ≡ put_row fresh_row (db 2) = ap (λ (x : Trees). x 2) trees ∙ a.rows ∙ ap₂ (λ x y. put_row (x ∷ Text s ∷ Text m ∷ y ∷ []) (db 2)) (cast_int (next_rowid (db 2))) (cast_int v) in
      let free : are_fresh (db 2) (fresh_row ∷ []) ≡ true = ap₂ (λ x y. are_fresh (db 2) ((x ∷ Text s ∷ Text m ∷ y ∷ []) ∷ [])) (sym (cast_int (next_rowid (db 2)))) (sym (cast_int v)) ∙ a.fresh in
      record {
        id = next_rowid (db 2);
        over = record {
          from = λ r k. elim (table.put_has fresh_row (db 2) r (subst (λ l. Has l r) rows k)) [ inl same ↦ inl same | inr was ↦ inr (was, other_key (next_rowid (db 2)) r was (none r was)) ];
          there = subst (λ l. Has l fresh_row) (sym rows) (table.has_put fresh_row (db 2));
          kept = λ r k other. subst (λ l. Has l r) (sym rows) (table.put_all_keeps (fresh_row ∷ []) (db 2) r free k);
        };
        shaped = subst (IsShaped Table) (sym rows) (IsShaped-put_row fresh_row (db 2) refl shaped);
        other = ap (λ (x : Trees). x 0) trees ∙ a.tables.0 (λ e. cc);
      }

  abbrev pub given_for : ℤ → Row
  given_for n = params ++ Int n ∷ shown values_table fresh_row

  abbrev news : ℤ → Row
  news n = Int n ∷ Int n ∷ Text s ∷ Text m ∷ Int v ∷ []

  by_rowid : (n : ℤ) (x : Row) → Has (db 2) x → picks (given_for n) (same (col 1 0) (col 0 3) ∷ []) x ≡ has_rowid n x
  by_rowid n x h =
      let f = row_form db fits shaped x h in
      and_right_true _ ∙ same_is (rowid x) (Int n) (ap (λ r. is_null (rowid r)) f.4) refl

  only : (n : ℤ) (o : ℤ) → Has (db 2) (stored_value n s m o) → filter (picks (given_for n) (same (col 1 0) (col 0 3) ∷ [])) (db 2) ≡ stored_value n s m o ∷ []
  only n o there =
      let p = picks (given_for n) (same (col 1 0) (col 0 3) ∷ []) in
      let r = stored_value n s m o in
      same_list (λ (a b : Row). order.value_cmp (rowid a) (rowid b)) (on_total (λ (x : Row). rowid x) value_cmp_total) (filter p (db 2)) (r ∷ [])
      (ascending-filter _ p (db 2) shaped.0) (tt, tt)
      (λ x h. let f = has_filtered p (db 2) x h in inl (tied_same (db 2) x r shaped.0 f.0 there (eq_is _ (sym (by_rowid n x f.0) ∙ f.1))))
      (λ x h. elim h [
        | inl same ↦ subst (Has (filter p (db 2))) (sym same) (has_kept p (db 2) r there (by_rowid n r there ∙ ap is_eq (tied_itself value_cmp_total (Int n))))
        | inr none ↦ absurd none
      ])

  pub puts_over : (one : Written) (n : ℤ) (o : ℤ) → Has (db 2) (stored_value n s m o) → Updates task (record { lets = []; body = value_query }) (given_for n) db (Ok one) → ValuePut db s m v one.trees
  puts_over one n o there h =
      let r = stored_value n s m o in
      let new = stored_value n s m v in
      let w = went h in
      let ans = from_rows 2 db refl (given_for n) (same (col 1 0) (col 0 3) ∷ []) value_query.project [] w.0 (w.1.answer Null) in
      let ordered = one_permutation _ ans.ordered (subst (λ k. IsPermutation (map (λ x. output value_query (given_for n ∷ x ∷ [])) k) ans.ordered) (only n o there) ans.same) in
      let shows : w.0 ≡ news n ∷ [] = ans.shown ∙ ap (map (λ (p : Output). p.1)) ordered in
      let w2 = subst (λ rs. Then (Edited kept_schema Enforced db (edit_of db values_table (ids_of rs) Given 1 rs))
      (λ next. Gives (record { trees = next; rows = (edit_of db values_table (ids_of rs) Given 1 rs).news; last = None })) (Ok one)) shows w.2 in
      let e = went w2 in
      let edit = edit_of db values_table (n ∷ []) Given 1 (news n ∷ []) in
      let a : Applies kept_schema Enforced db edit e.0 = one_step kept_schema Enforced db e.0 edit refl e.1 in
      let trees : one.trees ≡ e.0 = ap (λ (it : Written). it.trees) (same_value e.2) in
      let left = without_rowid n (db 2) in
      let rows : one.trees 2 ≡ put_row new left = ap (λ (x : Trees). x 2) trees ∙ a.rows ∙ ap₂ (λ x y. put_row (x ∷ Text s ∷ Text m ∷ y ∷ []) left) (cast_int n) (cast_int v) in
      let free : are_fresh left (new ∷ []) ≡ true = ap₂ (λ x y. are_fresh left ((x ∷ Text s ∷ Text m ∷ y ∷ []) ∷ [])) (sym (cast_int n)) (sym (cast_int v)) ∙ a.fresh in
      let alike = tied_itself name_total (name_of (value_of new)) in
      record {
        id = n;
        over = record {
          from = λ x k. elim (table.put_has new left x (subst (λ l. Has l x) rows k)) [
            | inl same ↦ inl same
            | inr was ↦ let f = has_filtered (λ y. not (has_rowid n y)) (db 2) x was in
                inr (
                  f.0,
                  λ same tie.
                      let is = rows_apart db fits shaped x r f.0 there same tie in
                      let has : has_rowid n x ≡ true = ap (has_rowid n) is ∙ ap is_eq (tied_itself value_cmp_total (Int n)) in
                      let lacks = not-true _ f.1 in cc,
                )
          ];
          there = subst (λ l. Has l new) (sym rows) (table.has_put new left);
          kept = λ x k other. subst (λ l. Has l x) (sym rows) (table.put_all_keeps (new ∷ []) left x free (has_kept (λ y. not (has_rowid n y)) (db 2) x k
              (ap not (false_from_ne_true _ (λ has.
              let is = tied_same (db 2) x r shaped.0 k there (eq_is _ has) in
              other (ap store_of is) (ap (λ y. text_cmp (name_of (value_of y)) (name_of (value_of new))) is ∙ alike))))));
        };
        shaped = subst (IsShaped Table) (sym rows) (IsShaped-put_row new left refl (IsShaped-filter Table (λ y. not (has_rowid n y)) (db 2) shaped));
        other = ap (λ (x : Trees). x 0) trees ∙ a.tables.0 (λ e. cc);
      }
