-- What the statement that puts a row does.
use Rattle.std.proofs.Common.{◌≡◌, ◌⊎◌, inl, inr, ℕ, ℤ, Bool, true, false, not, ◌&&◌, List, [], ◌∷◌, ◌++◌, map, filter, Ok, Err, Result, Option, None, refl, sym, ap, ◌∙◌, subst, is_eq, Ordering, Less, Equal, Greater}
use Rattle.std.proofs.lemmas.Bool.{not-true}
use Rattle.sqlite_value.specs.declared.value.Value.TheVariants.{Null, Int, Text, Blob}
use Rattle.sqlite_value.specs.Order.{Row, column}
use Rattle.sqlite_value.specs.Order as order
use Rattle.sqlite_value.specs.Keys.{plain}
use Rattle.sqlite_trees.specs.Tree.{Trees, rowid, put_row, without_rowid, has_rowid}
use Rattle.sqlite_trees.specs.View.{IsShaped}
use Rattle.sqlite_trees.specs.declared.store.Shape.TheVariants.{Table}
use Rattle.sqlite_trees.proofs.TreeLemmas.{IsShaped-put_row, IsShaped-filter}
use Rattle.sqlite_schema.specs.Rules.{agree, Obeys}
use Rattle.sqlite_schema.specs.declared.schema.Keys.TheVariants.{Enforced}
use Rattle.sqlite_rules.specs.declared.error.Rowids.TheVariants.{Given}
use Rattle.sqlite_rules.specs.Edit.{edit_of, next_rowid, are_fresh, Applies}
use Rattle.sqlite_rules.specs.Lists.{Has}
use Rattle.sqlite_rules.proofs.ListLemmas.{has_filtered, has_kept}
use Rattle.sqlite_rules.proofs.TableLemmas as table
use Rattle.std.specs.List.Sorted.{IsPermutation}
use Rattle.std.proofs.lemmas.Cmp.{on_total, tied_itself}
use Rattle.std.proofs.lemmas.Bool.{false_from_ne_true}
use Rattle.sqlite_value.proofs.OrderLemmas.{value_cmp_total}
use Rattle.sqlite_trees.proofs.ListLemmas.{ascending-filter}
use Rattle.sqlite_sql.specs.Ops.{is_null}
use Rattle.sqlite_sql.specs.Term.{col}
use Rattle.sqlite_sql.specs.Query.{Output, output}
use Rattle.sqlite_rules.specs.Calls.{ids_of}
use Rattle.sqlite_rules.proofs.PlaceLemmas.{tied_same}
use Rattle.sqlite.specs.Rows.{Written, Task, Then, Gives, Edited, Puts, Updates, shown}
use Rattle.sqlite.proofs.Callers.{one_permutation}
use Rattle.melon_outside.proofs.Places.{key_total}
use Rattle.melon_sqlite.proofs.Texts.{same, put_query}
use Rattle.melon_sqlite.proofs.Queries.{picks, from_rows}
use Rattle.melon_sqlite.proofs.Cells.{same_is}
use Rattle.melon_sqlite.proofs.Sorted.{same_list}
use Rattle.sqlite.proofs.Callers.{one_step}
use Rattle.melon_outside.specs.Kept.{key_cmp, key_of}
use Rattle.melon_sqlite.specs.Contents.{store_of, row_of}
use Rattle.melon_sqlite.specs.Tables.{kept_schema, rows_table}
use Rattle.melon_sqlite.proofs.Sorted.{PutsOver}
use Rattle.melon_sqlite.proofs.Cells.{stored, cast_int, row_tie}
use Rattle.melon_sqlite.proofs.Forms.{row_form, rows_apart, stored_agree}

-- a part that gave a value did not stop on the way
pub went : {B E R : Type 0} {b : B} {Stops : E → Type 0} → ((stop : E) × Stops stop × (Ok b ≡ Err stop)) ⊎ R → R
went (inl stopped) = absurd (let e = stopped.2 in cc)
went (inr on) = on

pub same_value : {B E : Type 0} {a b : B} → ◌≡◌ {A = Result B E} (Ok a) (Ok b) → a ≡ b
same_value e = cc

pub and_right_true : (b : Bool) → (b && true) ≡ b
and_right_true true = refl
and_right_true false = refl

pub eq_is : (o : Ordering) → is_eq o ≡ true → o ≡ Equal
eq_is Less h = cc
eq_is Equal h = refl
eq_is Greater h = cc

-- the row was put over what had its key
pub record Upserted (db : Trees) (s t i b : List ℕ) (next : Trees) : Type 0 where
  pub id : ℤ
  pub over : PutsOver key_cmp key_of key_total row_of (db 0) (stored id s t i b) (next 0)
  pub shaped : IsShaped Table (next 0)
  pub other : next 2 ≡ db 2

module _ (limit : Option ℕ) (db : Trees) (fits : Obeys kept_schema db) (shaped : IsShaped Table (db 0)) (s t i b : List ℕ) where
  abbrev pub params : Row
  params = Text s ∷ Text t ∷ Text i ∷ Blob b ∷ []

  abbrev pub task : Task
  task = record { limit = limit; keys = Enforced; schema = kept_schema; table = rows_table; params = params }

  abbrev pub fresh_row : Row
  fresh_row = stored (next_rowid (db 0)) s t i b

  -- no row has the key
  abbrev pub IsNew : Type 0
  IsNew = (r : Row) → Has (db 0) r → agree plain (1 ∷ 2 ∷ 3 ∷ []) r (1 ∷ 2 ∷ 3 ∷ []) fresh_row ≡ true → ⊥

  other_key : (id : ℤ) (r : Row) → Has (db 0) r → (agree plain (1 ∷ 2 ∷ 3 ∷ []) r (1 ∷ 2 ∷ 3 ∷ []) (stored id s t i b) ≡ true → ⊥) → store_of r ≡ s
      → ◌≡◌ (key_cmp (key_of (row_of r)) (key_of (row_of (stored id s t i b)))) Equal → ⊥
  other_key id r h none same tie =
      let f = row_form db fits shaped r h in
      let keys = row_tie (row_of r) (row_of (stored id s t i b)) tie in
      none (subst (λ x. agree plain (1 ∷ 2 ∷ 3 ∷ []) x (1 ∷ 2 ∷ 3 ∷ []) (stored id s t i b) ≡ true) (sym f.5)
      (stored_agree f.0 f.1 f.2 f.3 f.4 id s t i b (sym (ap store_of f.5) ∙ same) (sym (ap (λ x. (row_of x).table) f.5) ∙ keys.0) (sym (ap (λ x. (row_of x).id) f.5) ∙ keys.1)))

  pub puts_new : (one : Written) → IsNew → Puts task fresh_row db (Ok one) → Upserted db s t i b one.trees
  puts_new one none h =
      let w = went h in
      let edit = edit_of db rows_table [] Given 0 (fresh_row ∷ []) in
      let a : Applies kept_schema Enforced db edit w.0 = one_step kept_schema Enforced db w.0 edit refl w.1 in
      let trees : one.trees ≡ w.0 = ap (λ (it : Written). it.trees) (same_value w.2) in
      let rows : one.trees 0 ≡ put_row fresh_row (db 0) = ap (λ (x : Trees). x 0) trees ∙ a.rows ∙ ap (λ v. put_row (v ∷ Text s ∷ Text t ∷ Text i ∷ Blob b ∷ []) (db 0)) (cast_int (next_rowid (db 0))) in
      let free : are_fresh (db 0) (fresh_row ∷ []) ≡ true = ap (λ v. are_fresh (db 0) ((v ∷ Text s ∷ Text t ∷ Text i ∷ Blob b ∷ []) ∷ [])) (sym (cast_int (next_rowid (db 0)))) ∙ a.fresh in
      record {
        id = next_rowid (db 0);
        over = record {
          from = λ r k. elim (table.put_has fresh_row (db 0) r (subst (λ l. Has l r) rows k)) [ inl same ↦ inl same | inr was ↦ inr (was, other_key (next_rowid (db 0)) r was (none r was)) ];
          there = subst (λ l. Has l fresh_row) (sym rows) (table.has_put fresh_row (db 0));
          kept = λ r k other. subst (λ l. Has l r) (sym rows) (table.put_all_keeps (fresh_row ∷ []) (db 0) r free k);
        };
        shaped = subst (IsShaped Table) (sym rows) (IsShaped-put_row fresh_row (db 0) refl shaped);
        other = ap (λ (x : Trees). x 2) trees ∙ a.tables.1.0 (λ e. cc);
      }

  abbrev pub given_for : ℤ → Row
  given_for n = params ++ Int n ∷ shown rows_table fresh_row

  abbrev news : ℤ → Row
  news n = Int n ∷ Int n ∷ Text s ∷ Text t ∷ Text i ∷ Blob b ∷ []

  by_rowid : (n : ℤ) (x : Row) → Has (db 0) x → picks (given_for n) (same (col 1 0) (col 0 4) ∷ []) x ≡ has_rowid n x
  by_rowid n x h =
      let f = row_form db fits shaped x h in
      and_right_true _ ∙ same_is (rowid x) (Int n) (ap (λ r. is_null (rowid r)) f.5) refl

  only : (n : ℤ) (o : List ℕ) → Has (db 0) (stored n s t i o) → filter (picks (given_for n) (same (col 1 0) (col 0 4) ∷ [])) (db 0) ≡ stored n s t i o ∷ []
  only n o there =
      let p = picks (given_for n) (same (col 1 0) (col 0 4) ∷ []) in
      let r = stored n s t i o in
      same_list (λ (a b : Row). order.value_cmp (rowid a) (rowid b)) (on_total (λ (x : Row). rowid x) value_cmp_total) (filter p (db 0)) (r ∷ [])
      (ascending-filter _ p (db 0) shaped.0) (tt, tt)
      (λ x h. let f = has_filtered p (db 0) x h in inl (tied_same (db 0) x r shaped.0 f.0 there (eq_is _ (sym (by_rowid n x f.0) ∙ f.1))))
      (λ x h. elim h [
        | inl same ↦ subst (Has (filter p (db 0))) (sym same) (has_kept p (db 0) r there (by_rowid n r there ∙ ap is_eq (tied_itself value_cmp_total (Int n))))
        | inr none ↦ absurd none
      ])

  pub puts_over : (one : Written) (n : ℤ) (o : List ℕ) → Has (db 0) (stored n s t i o) → Updates task (record { lets = []; body = put_query }) (given_for n) db (Ok one) → Upserted db s t i b one.trees
  puts_over one n o there h =
      let r = stored n s t i o in
      let new = stored n s t i b in
      let w = went h in
      let ans = from_rows 0 db refl (given_for n) (same (col 1 0) (col 0 4) ∷ []) put_query.project [] w.0 (w.1.answer Null) in
      let ordered = one_permutation _ ans.ordered (subst (λ k. IsPermutation (map (λ x. output put_query (given_for n ∷ x ∷ [])) k) ans.ordered) (only n o there) ans.same) in
      let shows : w.0 ≡ news n ∷ [] = ans.shown ∙ ap (map (λ (p : Output). p.1)) ordered in
      let w2 = subst (λ rs. Then (Edited kept_schema Enforced db (edit_of db rows_table (ids_of rs) Given 1 rs))
      (λ next. Gives (record { trees = next; rows = (edit_of db rows_table (ids_of rs) Given 1 rs).news; last = None })) (Ok one)) shows w.2 in
      let e = went w2 in
      let edit = edit_of db rows_table (n ∷ []) Given 1 (news n ∷ []) in
      let a : Applies kept_schema Enforced db edit e.0 = one_step kept_schema Enforced db e.0 edit refl e.1 in
      let trees : one.trees ≡ e.0 = ap (λ (it : Written). it.trees) (same_value e.2) in
      let left = without_rowid n (db 0) in
      let rows : one.trees 0 ≡ put_row new left = ap (λ (x : Trees). x 0) trees ∙ a.rows ∙ ap (λ v. put_row (v ∷ Text s ∷ Text t ∷ Text i ∷ Blob b ∷ []) left) (cast_int n) in
      let free : are_fresh left (new ∷ []) ≡ true = ap (λ v. are_fresh left ((v ∷ Text s ∷ Text t ∷ Text i ∷ Blob b ∷ []) ∷ [])) (sym (cast_int n)) ∙ a.fresh in
      let alike = tied_itself key_total (key_of (row_of new)) in
      record {
        id = n;
        over = record {
          from = λ x k. elim (table.put_has new left x (subst (λ l. Has l x) rows k)) [
            | inl same ↦ inl same
            | inr was ↦ let f = has_filtered (λ y. not (has_rowid n y)) (db 0) x was in
                inr (
                  f.0,
                  λ same tie.
                      let is = rows_apart db fits shaped x r f.0 there same tie in
                      let has : has_rowid n x ≡ true = ap (has_rowid n) is ∙ ap is_eq (tied_itself value_cmp_total (Int n)) in
                      let lacks = not-true _ f.1 in cc,
                )
          ];
          there = subst (λ l. Has l new) (sym rows) (table.has_put new left);
          kept = λ x k other. subst (λ l. Has l x) (sym rows) (table.put_all_keeps (new ∷ []) left x free (has_kept (λ y. not (has_rowid n y)) (db 0) x k
              (ap not (false_from_ne_true _ (λ has.
              let is = tied_same (db 0) x r shaped.0 k there (eq_is _ has) in
              other (ap store_of is) (ap (λ y. key_cmp (key_of (row_of y)) (key_of (row_of new))) is ∙ alike))))));
        };
        shaped = subst (IsShaped Table) (sym rows) (IsShaped-put_row new left refl (IsShaped-filter Table (λ y. not (has_rowid n y)) (db 0) shaped));
        other = ap (λ (x : Trees). x 2) trees ∙ a.tables.1.0 (λ e. cc);
      }
