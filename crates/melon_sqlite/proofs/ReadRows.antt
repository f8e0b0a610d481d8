-- What the statement that reads the rows of a store shows.
use Rattle.std.proofs.Common.{◌≡◌, ℕ, ℤ, List, [], ◌∷◌, map, refl, sym, ap₂, ◌∙◌, subst, subst₂, bytes_eq}
use Rattle.std.specs.Ordering.{ordering_then}
use Rattle.sqlite_value.specs.declared.value.Value.TheVariants.{Null, Text}
use Rattle.sqlite_value.specs.Order.{Row}
use Rattle.sqlite_value.proofs.OrderLemmas.{value_cmp-Text, then-Equal}
use Rattle.sqlite_trees.specs.Tree.{Trees}
use Rattle.sqlite_trees.specs.View.{IsShaped}
use Rattle.sqlite_trees.specs.declared.store.Shape.TheVariants.{Table}
use Rattle.sqlite_schema.specs.Rules.{Obeys}
use Rattle.sqlite_rules.specs.Lists.{Has}
use Rattle.sqlite_sql.specs.Query.{output, output_cmp}
use Rattle.sqlite_sql.specs.Term.{col}
use Rattle.std.proofs.Common.{Option, None, Some, Result, Ok, Err, inl, inr}
use Rattle.sqlite_schema.specs.declared.command.Returning.{Returning}
use Rattle.sqlite_resolve.specs.declared.compiled.Compiled.{Compiled}
use Rattle.sqlite_resolve.specs.declared.error.CompileError.{CompileError}
use Rattle.sqlite.specs.declared.error.Error.{Error}
use Rattle.sqlite.specs.Listing.{understood}
use Rattle.sqlite.specs.State.{State, Shown, FailsToQuery, FailsToShow, ShowsRows, IsNotRun, IsUnchanged}
use Rattle.melon_outside.specs.Kept.{key_cmp, key_of}
use Rattle.melon_sqlite.specs.Contents.{IsKept, rows_in, store_of, row_of}
use Rattle.melon_sqlite.specs.Statements.{Undone, StaysShut, ReadsAs, row_shown}
use Rattle.melon_sqlite.specs.Tables.{kept_schema, read_rows_text, read_values_text}
use Rattle.sqlite.specs.Clock.{timed}
use Rattle.sqlite.proofs.Callers.{IsPlain}
use Rattle.sqlite.proofs.Callers.{reads_as}
use Rattle.melon_sqlite.proofs.Texts.{same, read_query, read_command, read_is, read_unlisted, read_plain, values_plain}
use Rattle.melon_sqlite.proofs.Cells.{stored, text_same}
use Rattle.melon_sqlite.proofs.Forms.{row_form, rows_apart}
use Rattle.melon_sqlite.proofs.Upsert.{and_right_true}
use Rattle.melon_sqlite.proofs.Queries.{picks, from_rows}
use Rattle.melon_outside.proofs.Places.{key_total}
use Rattle.melon_sqlite.proofs.Answered.{answered}
use Rattle.melon_sqlite.proofs.Puts.{kept_obeys}

module _ (db : Trees) (fits : Obeys kept_schema db) (shaped : IsShaped Table (db 0)) (s : List ℕ) where
  abbrev given : Row
  given = Text s ∷ []

  stored_picks : (n : ℤ) (a t i b : List ℕ) → picks given (same (col 1 1) (col 0 0) ∷ []) (stored n a t i b) ≡ bytes_eq a s
  stored_picks n a t i b = and_right_true _ ∙ text_same a s

  picked : (r : Row) → Has (db 0) r → picks given (same (col 1 1) (col 0 0) ∷ []) r ≡ bytes_eq (store_of r) s
  picked r h = let f = row_form db fits shaped r h in
      subst (λ x. picks given (same (col 1 1) (col 0 0) ∷ []) x ≡ bytes_eq (store_of x) s) (sym f.5) (stored_picks f.0 f.1 f.2 f.3 f.4)

  stored_agrees : (n : ℤ) (a t i b : List ℕ) (m : ℤ) (a2 t2 i2 b2 : List ℕ)
      → output_cmp read_query (output read_query (given ∷ stored n a t i b ∷ [])) (output read_query (given ∷ stored m a2 t2 i2 b2 ∷ [])) ≡ key_cmp (key_of (row_of (stored n a t i b))) (key_of (row_of (stored m a2 t2 i2 b2)))
  stored_agrees n a t i b m a2 t2 i2 b2 = ap₂ ordering_then (value_cmp-Text t t2) (then-Equal _ ∙ value_cmp-Text i i2)

  ordered : (a b : Row) → Has (db 0) a → Has (db 0) b
      → output_cmp read_query (output read_query (given ∷ a ∷ [])) (output read_query (given ∷ b ∷ [])) ≡ key_cmp (key_of (row_of a)) (key_of (row_of b))
  ordered a b h k =
      let f = row_form db fits shaped a h in
      let g = row_form db fits shaped b k in
      subst₂ (λ x y. output_cmp read_query (output read_query (given ∷ x ∷ [])) (output read_query (given ∷ y ∷ [])) ≡ key_cmp (key_of (row_of x)) (key_of (row_of y))) (sym f.5) (sym g.5)
      (stored_agrees f.0 f.1 f.2 f.3 f.4 g.0 g.1 g.2 g.3 g.4)

pub reads_rows : (old new : State) (s : List ℕ) (got : List Row) → IsKept old.now → Shown read_rows_text (Text s ∷ []) old new got → map row_shown got ≡ rows_in (old.now.trees 0) s
reads_rows old new s got K h =
    let db = old.now.trees in
    let fits = kept_obeys old.now K in
    let answers = reads_as read_rows_text (Text s ∷ []) old new kept_schema K.schema read_command read_is read_plain read_unlisted got h in
    let a = from_rows 0 db refl (Text s ∷ []) (same (col 1 1) (col 0 0) ∷ []) read_query.project (col 1 2 ∷ col 1 3 ∷ []) got (answers.answer Null) in
    answered key_cmp key_of key_total row_of row_shown (db 0) s K.rows.0 (rows_apart db fits K.rows) read_query (Text s ∷ []) (picks (Text s ∷ []) (same (col 1 1) (col 0 0) ∷ []))
    (picked db fits K.rows s) (λ r. refl) (ordered db fits K.rows s) got a

-- a query leaves things as they are, or undoes the transaction
plain_none : (c : Compiled) (r : Result Compiled CompileError) → r ≡ Ok c → IsPlain r → c.returning ≡ None
plain_none c r e plain = (subst IsPlain e plain).0

pub query_failed : (sql : List ℕ) (given : Row) (old new : State) (e : Error) → IsPlain (understood old.now.schema sql) → FailsToQuery sql given old new e → Undone old new
unfolding FailsToQuery IsNotRun
query_failed sql given old new e plain (inl (inl h)) = inl h.1
query_failed sql given old new e plain (inl (inr h)) = inr h.3
query_failed sql given old new e plain (inr h) = let none = plain_none h.0 _ h.1.is plain in inl (rw none at h.2).3

pub query_shown : (sql : List ℕ) (given : Row) (old new : State) (rows : List Row) → IsPlain (understood old.now.schema sql) → Shown sql given old new rows → IsUnchanged old new
unfolding Shown
query_shown sql given old new rows plain h = let none = plain_none h.0 _ h.1.is plain in (rw none at h.2).3

pub read_same : {T E : Type 0} (old new : State) (r : Result T E) → (IsKept old.now → IsUnchanged old new) → ReadsAs old new r
read_same old new (Ok x) u = u
read_same old new (Err e) u = λ K. inl (u K)

pub kept_plain_rows : (old : State) → IsKept old.now → IsPlain (understood old.now.schema read_rows_text)
kept_plain_rows old K = subst (λ s. IsPlain (understood s read_rows_text)) (sym K.schema) read_plain

pub kept_plain_values : (old : State) → IsKept old.now → IsPlain (understood old.now.schema read_values_text)
kept_plain_values old K = subst (λ s. IsPlain (understood s read_values_text)) (sym K.schema) values_plain

pub failed_opened : (sql : List ℕ) (given : Row) (old new : State) (e : Error) → FailsToQuery sql given old new e → StaysShut old new
unfolding FailsToQuery IsNotRun
failed_opened sql _ old new e (inl (inl h)) = λ _. h.1.0.was_open
failed_opened sql _ old new e (inl (inr h)) = h.3.was_open
failed_opened sql params old new e (inr h) = go h.0.returning h.2
  where
    go : (o : Option Returning) → FailsToShow old new sql h.0 (timed params h.0.formats h.1.now) e o → StaysShut old new
    go None f = λ _. f.3.0.was_open
    go (Some what) (inl refused) = λ _. refused.1.0.was_open
    go (Some what) (inr broke) = broke.3.was_open

pub shown_opened : (sql : List ℕ) (given : Row) (old new : State) (rows : List Row) → Shown sql given old new rows → StaysShut old new
unfolding Shown
shown_opened sql params old new rows h = go h.0.returning h.2
  where
    go : (o : Option Returning) → ShowsRows old new sql h.0 (timed params h.0.formats h.1.now) rows o → StaysShut old new
    go None f = λ _. f.3.0.was_open
    go (Some what) f = λ _. f.1.shown.was_open
