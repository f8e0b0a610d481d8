-- What the texts mean.
use Rattle.std.proofs.Common.{◌≡◌, refl, Ok, ℕ, List, [], ◌∷◌, None, Some, true, false, pos, negsuc, codes}
use Rattle.sqlite_tied.specs.Compute.{everything}
use Rattle.sqlite_value.specs.declared.value.Value.TheVariants.{Null, Int}
use Rattle.sqlite_value.specs.declared.keys.Collation.TheVariants.{Binary}
use Rattle.sqlite_sql.specs.declared.ops.BinaryOp.TheVariants.{Compare}
use Rattle.sqlite_sql.specs.declared.ops.CompareOp.TheVariants.{Eq}
use Rattle.sqlite_sql.specs.Term.{Term, lit, col, op2}
use Rattle.sqlite_sql.specs.Query.{Query, inner, end}
use Rattle.sqlite_schema.specs.declared.command.Command.{Command}
use Rattle.sqlite_schema.specs.declared.command.Command.TheVariants.{InsertOr, Select, Delete, Begin, Commit, Rollback}
use Rattle.sqlite_schema.specs.declared.command.Conflict.TheVariants.{Abort}
use Rattle.sqlite_schema.specs.declared.command.Source.TheVariants.{Values}
use Rattle.sqlite_schema.specs.declared.command.Upsert.{Upsert}
use Rattle.sqlite_schema.specs.declared.schema.Schema.{Schema}
use Rattle.std.proofs.Common.{sym, ap, ◌∙◌}
use Rattle.std.proofs.Common.{Result, Err, length, ◌≤◌, lit≤}
use Rattle.sqlite_resolve.specs.declared.compiled.Compiled.{Compiled}
use Rattle.sqlite_resolve.specs.declared.error.CompileError.{CompileError}
use Rattle.sqlite.specs.Listing.{understood, reads_listing}
use Rattle.sqlite.proofs.Callers.{command_of, IsPlain}
use Rattle.melon_sqlite.specs.Tables.{kept_schema, rows_index, values_index, put_text, clear_text, remove_text, read_rows_text, read_values_text, put_value_text}

-- one table, some rows of it
abbrev pub on_table : ℕ → List Term → List Term → List Term → Query
on_table tree filter project order = record {
  from = inner tree end;
  filter = filter;
  group = None;
  project = project;
  distinct = false;
  collations = [];
  order = Rattle.std.proofs.Common.map (λ t. (t, record { collation = Binary; descending = false })) order;
  limit = lit (Int (negsuc 0));
  offset = lit (Int (pos 0));
}

abbrev pub same : Term → Term → Term
same = op2 (Compare Eq Binary)

abbrev pub put_terms : List Term
put_terms = lit Null ∷ col 0 0 ∷ col 0 1 ∷ col 0 2 ∷ col 0 3 ∷ []

abbrev pub put_query : Query
put_query = on_table 0 (same (col 1 0) (col 0 4) ∷ []) (col 1 0 ∷ col 1 0 ∷ col 1 1 ∷ col 1 2 ∷ col 1 3 ∷ col 0 9 ∷ []) []

abbrev pub put_clause : Upsert
put_clause = record { target = Some (1 ∷ 2 ∷ 3 ∷ []); update = Some (record { lets = []; body = put_query }) }

abbrev pub put_command : Command
put_command = InsertOr 0 Abort (Values put_terms 5) (put_clause ∷ [])

pub put_is : command_of (understood kept_schema put_text) ≡ put_command
unfolding understood everything
put_is = refl

pub put_plain : IsPlain (understood kept_schema put_text)
unfolding understood everything
put_plain = (refl, refl)

abbrev pub read_query : Query
read_query = on_table 0 (same (col 1 1) (col 0 0) ∷ []) (col 1 2 ∷ col 1 3 ∷ col 1 4 ∷ []) (col 1 2 ∷ col 1 3 ∷ [])

abbrev pub read_command : Command
read_command = Select (record { lets = []; body = read_query }) (codes "tbl" ∷ codes "id" ∷ codes "body" ∷ [])

pub read_is : command_of (understood kept_schema read_rows_text) ≡ read_command
unfolding understood everything
read_is = refl

pub read_unlisted : reads_listing kept_schema read_rows_text ≡ false
unfolding understood everything
read_unlisted = refl

pub read_plain : IsPlain (understood kept_schema read_rows_text)
unfolding understood everything
read_plain = (refl, refl)

abbrev pub clear_query : Query
clear_query = on_table 0 (same (col 1 1) (col 0 0) ∷ []) (col 1 0 ∷ []) []

abbrev pub clear_command : Command
clear_command = Delete 0 (record { lets = []; body = clear_query })

pub clear_is : command_of (understood kept_schema clear_text) ≡ clear_command
unfolding understood everything
clear_is = refl

pub clear_plain : IsPlain (understood kept_schema clear_text)
unfolding understood everything
clear_plain = (refl, refl)

abbrev pub remove_tests : List Term
remove_tests = same (col 1 1) (col 0 0) ∷ same (col 1 2) (col 0 1) ∷ same (col 1 3) (col 0 2) ∷ []

abbrev pub remove_query : Query
remove_query = on_table 0 remove_tests (col 1 0 ∷ []) []

abbrev pub remove_command : Command
remove_command = Delete 0 (record { lets = []; body = remove_query })

pub remove_is : command_of (understood kept_schema remove_text) ≡ remove_command
unfolding understood everything
remove_is = refl

pub remove_plain : IsPlain (understood kept_schema remove_text)
unfolding understood everything
remove_plain = (refl, refl)

pub begin_is : command_of (understood kept_schema (codes "BEGIN")) ≡ Begin
unfolding understood everything
begin_is = refl

pub begin_plain : IsPlain (understood kept_schema (codes "BEGIN"))
unfolding understood everything
begin_plain = (refl, refl)

pub commit_is : command_of (understood kept_schema (codes "COMMIT")) ≡ Commit
unfolding understood everything
commit_is = refl

pub commit_plain : IsPlain (understood kept_schema (codes "COMMIT"))
unfolding understood everything
commit_plain = (refl, refl)

pub rollback_is : command_of (understood kept_schema (codes "ROLLBACK")) ≡ Rollback
unfolding understood everything
rollback_is = refl

pub rollback_plain : IsPlain (understood kept_schema (codes "ROLLBACK"))
unfolding understood everything
rollback_plain = (refl, refl)

-- the text is one statement, without parameters
abbrev pub IsAlone : List ℕ → Result Compiled CompileError → Type 0
IsAlone sql (Ok c) = (c.names ≡ []) × (length sql ≤ c.tail)
IsAlone sql (Err e) = ⊥

pub rollback_alone : IsAlone (codes "ROLLBACK") (understood kept_schema (codes "ROLLBACK"))
unfolding understood everything
rollback_alone = (refl, lit≤ tt)

abbrev pub value_terms : List Term
value_terms = lit Null ∷ col 0 0 ∷ col 0 1 ∷ col 0 2 ∷ []

abbrev pub value_query : Query
value_query = on_table 2 (same (col 1 0) (col 0 3) ∷ []) (col 1 0 ∷ col 1 0 ∷ col 1 1 ∷ col 1 2 ∷ col 0 7 ∷ []) []

abbrev pub value_clause : Upsert
value_clause = record { target = Some (1 ∷ 2 ∷ []); update = Some (record { lets = []; body = value_query }) }

abbrev pub value_command : Command
value_command = InsertOr 1 Abort (Values value_terms 4) (value_clause ∷ [])

pub value_is : command_of (understood kept_schema put_value_text) ≡ value_command
unfolding understood everything
value_is = refl

pub value_plain : IsPlain (understood kept_schema put_value_text)
unfolding understood everything
value_plain = (refl, refl)

abbrev pub values_query : Query
values_query = on_table 2 (same (col 1 1) (col 0 0) ∷ []) (col 1 2 ∷ col 1 3 ∷ []) (col 1 2 ∷ [])

abbrev pub values_command : Command
values_command = Select (record { lets = []; body = values_query }) (codes "name" ∷ codes "value" ∷ [])

pub values_is : command_of (understood kept_schema read_values_text) ≡ values_command
unfolding understood everything
values_is = refl

pub values_unlisted : reads_listing kept_schema read_values_text ≡ false
unfolding understood everything
values_unlisted = refl

pub values_plain : IsPlain (understood kept_schema read_values_text)
unfolding understood everything
values_plain = (refl, refl)

pub kept_indexes : kept_schema.indexes ≡ rows_index ∷ values_index ∷ []
unfolding everything
kept_indexes = refl

pub schema_is : (s : Schema) → s.tables ≡ kept_schema.tables → s.indexes ≡ rows_index ∷ values_index ∷ [] → s.views ≡ [] → s ≡ kept_schema
schema_is s p q r = λ i. record { tables = p i; indexes = (q ∙ sym kept_indexes) i; views = r i }

pub schema_indexes : (s : Schema) → s ≡ kept_schema → s.indexes ≡ rows_index ∷ values_index ∷ []
schema_indexes s e = ap (λ (x : Schema). x.indexes) e ∙ kept_indexes
