-- What the statement that reads the values of a store shows.
use Rattle.std.proofs.Common.{◌≡◌, ℕ, ℤ, false, true≢false, filter, List, [], ◌∷◌, map, refl, sym, ◌∙◌, subst, subst₂, bytes_eq}
use Rattle.sqlite_value.specs.declared.value.Value.TheVariants.{Null, Text}
use Rattle.sqlite_value.specs.Order.{Row, column}
use Rattle.sqlite_value.proofs.OrderLemmas.{value_cmp-Text, then-Equal}
use Rattle.sqlite_trees.specs.Tree.{Trees}
use Rattle.sqlite_trees.specs.View.{IsShaped}
use Rattle.sqlite_trees.specs.declared.store.Shape.TheVariants.{Table}
use Rattle.sqlite_schema.specs.Rules.{Obeys}
use Rattle.sqlite_rules.specs.Lists.{Has}
use Rattle.sqlite_sql.specs.Query.{output, output_cmp}
use Rattle.std.specs.List.{list_any}
use Rattle.std.proofs.lemmas.Bool.{false_from_ne_true}
use Rattle.std.proofs.lemmas.Slice.Eq.{bytes_eq-Decides}
use Rattle.sqlite_rules.proofs.ListLemmas.{has_filtered, some_has, some_from}
use Rattle.sqlite_sql.specs.Term.{Term, col}
use Rattle.sqlite.specs.State.{State, Shown}
use Rattle.sqlite.proofs.Callers.{reads_as}
use Rattle.melon_outside.specs.Kept.{text_cmp, name_of}
use Rattle.melon_sqlite.specs.Contents.{IsKept, values_in, store_of, of_store, value_of, is_negative, has_negative}
use Rattle.melon_sqlite.specs.Statements.{value_shown}
use Rattle.melon_sqlite.specs.Tables.{kept_schema, read_values_text}
use Rattle.melon_sqlite.proofs.Texts.{same, values_query, values_command, values_is, values_unlisted, values_plain}
use Rattle.melon_sqlite.proofs.Cells.{name_total, stored_value, text_same}
use Rattle.melon_sqlite.proofs.ValueForms.{row_form, rows_apart}
use Rattle.melon_sqlite.proofs.Upsert.{and_right_true}
use Rattle.melon_sqlite.proofs.Queries.{picks, from_rows, IsAnswerOf}
use Rattle.melon_sqlite.proofs.Answered.{answered, answer_has}
use Rattle.melon_sqlite.proofs.Puts.{kept_obeys}

module _ (db : Trees) (fits : Obeys kept_schema db) (shaped : IsShaped Table (db 2)) (s : List ℕ) where
  abbrev given : Row
  given = Text s ∷ []

  stored_picks : (n : ℤ) (a m : List ℕ) (v : ℤ) → picks given (same (col 1 1) (col 0 0) ∷ []) (stored_value n a m v) ≡ bytes_eq a s
  stored_picks n a m v = and_right_true _ ∙ text_same a s

  picked : (r : Row) → Has (db 2) r → picks given (same (col 1 1) (col 0 0) ∷ []) r ≡ bytes_eq (store_of r) s
  picked r h = let f = row_form db fits shaped r h in
      subst (λ x. picks given (same (col 1 1) (col 0 0) ∷ []) x ≡ bytes_eq (store_of x) s) (sym f.4) (stored_picks f.0 f.1 f.2 f.3)

  stored_agrees : (n : ℤ) (a m : List ℕ) (v : ℤ) (n2 : ℤ) (a2 m2 : List ℕ) (v2 : ℤ)
      → output_cmp values_query (output values_query (given ∷ stored_value n a m v ∷ [])) (output values_query (given ∷ stored_value n2 a2 m2 v2 ∷ [])) ≡ text_cmp (name_of (value_of (stored_value n a m v))) (name_of (value_of (stored_value n2 a2 m2 v2)))
  stored_agrees n a m v n2 a2 m2 v2 = then-Equal _ ∙ value_cmp-Text m m2

  ordered : (a b : Row) → Has (db 2) a → Has (db 2) b
      → output_cmp values_query (output values_query (given ∷ a ∷ [])) (output values_query (given ∷ b ∷ [])) ≡ text_cmp (name_of (value_of a)) (name_of (value_of b))
  ordered a b h k =
      let f = row_form db fits shaped a h in
      let g = row_form db fits shaped b k in
      subst₂ (λ x y. output_cmp values_query (output values_query (given ∷ x ∷ [])) (output values_query (given ∷ y ∷ [])) ≡ text_cmp (name_of (value_of x)) (name_of (value_of y))) (sym f.4) (sym g.4)
      (stored_agrees f.0 f.1 f.2 f.3 g.0 g.1 g.2 g.3)

module _ (old new : State) (s : List ℕ) (got : List Row) (K : IsKept old.now) (h : Shown read_values_text (Text s ∷ []) old new got) where
  abbrev db : Trees
  db = old.now.trees

  abbrev tests : List Term
  tests = same (col 1 1) (col 0 0) ∷ []

  fits : Obeys kept_schema db
  fits = kept_obeys old.now K

  answer : IsAnswerOf values_query (Text s ∷ []) (filter (picks (Text s ∷ []) tests) (db 2)) got
  answer =
      let answers = reads_as read_values_text (Text s ∷ []) old new kept_schema K.schema values_command values_is values_plain values_unlisted got h in
      from_rows 2 db refl (Text s ∷ []) tests values_query.project (col 1 2 ∷ []) got (answers.answer Null)

  pub reads_values : map value_shown got ≡ values_in (db 2) s
  reads_values =
      answered text_cmp name_of name_total value_of value_shown (db 2) s K.values.0 (rows_apart db fits K.values) values_query (Text s ∷ []) (picks (Text s ∷ []) tests)
      (picked db fits K.values s) (λ r. refl) (ordered db fits K.values s) got answer

  -- each value of the store is shown, so none is below zero where none that is shown is
  pub reads_natural : list_any (λ r. is_negative (column r 1)) got ≡ false → has_negative db s ≡ false
  reads_natural none = false_from_ne_true _ (λ some.
      let f = some_has (λ r. is_negative (column r 3)) (of_store s (db 2)) some in
      let own = has_filtered (λ r. bytes_eq (store_of r) s) (db 2) f.0 f.1 in
      let there = answer_has text_cmp name_of name_total value_of value_shown (db 2) s K.values.0 (rows_apart db fits K.values) values_query (Text s ∷ []) (picks (Text s ∷ []) tests)
      (picked db fits K.values s) (λ r. refl) (ordered db fits K.values s) got answer f.0 own.0 ((bytes_eq-Decides (store_of f.0) s).0 own.1) in
      let shown = some_from (λ r. is_negative (column r 1)) got (output values_query ((Text s ∷ []) ∷ f.0 ∷ [])).1 there f.2 in
      true≢false (sym shown ∙ none))
