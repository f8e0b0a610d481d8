-- What is kept stays what the log amounts to: after an opening, and after each accepted push.
use Rattle.std.proofs.Common.{◌≡◌, ℕ, List, [], ◌∷◌, ◌++◌, length, map, Bool, true, false, cond, ◌==◌, Option, Some, None, option_map, Result, Ok, Err, refl, sym, ap, ◌∙◌, subst}
use Rattle.std.specs.Bool.{⊤}
use Rattle.std.specs.Prelude.{option_and_then}
use Rattle.std.specs.Option.{option_or, unwrap_or}
use Rattle.std.specs.List.{AllByRecursion}
use Rattle.std.proofs.lemmas.Bool.{and_parts}
use Rattle.std.proofs.lemmas.Bool.Decides.{Decides-eqb}
use Rattle.melon_schema.specs.Seen.{SeenSchema}
use Rattle.melon_schema.specs.Places.{table_named}
use Rattle.melon_schema.specs.declared.schema.TableSchema.{TableSchema}
use Rattle.melon_raw.specs.Rows.{table_at}
use Rattle.melon_outside.specs.declared.kept.Kept.{Kept}
use Rattle.melon_outside.specs.declared.kept.KeptRow.{KeptRow}
use Rattle.melon_outside.specs.declared.kept.KeptValue.{KeptValue}
use Rattle.melon_outside.specs.declared.kept.KeptBatch.{KeptBatch}
use Rattle.melon_outside.specs.declared.kept.OpenFault.{OpenFault}
use Rattle.melon_outside.specs.declared.kept.OpenFault.TheVariants.{Version}
use Rattle.melon_outside.specs.Ascending.{with_item, with_items, ascends}
use Rattle.melon_outside.specs.Kept.{batched, is_in_order, key_cmp, key_of, name_of, text_cmp}
use Rattle.melon_outside.proofs.Batches.{batched-parts, batched-in_order}
use Rattle.melon_wire.specs.declared.changes.TableChanges.{TableChanges}
use Rattle.melon_wire.specs.declared.changes.Changes.{Changes}
use Rattle.melon_wire.specs.Forms.{names_ascend}
use Rattle.melon_wire.specs.Keys.{key_at}
use Rattle.melon_wire.specs.Sent.{names_something}
use Rattle.melon_log.specs.declared.server_row.ServerRow.{ServerRow}
use Rattle.melon_log.specs.ServerRows.{ServerRows, at, at_id}
use Rattle.melon_log.specs.Log.{Log, after_push, row_now}
use Rattle.melon_log.specs.Verdict.{judged}
use Rattle.melon_log.specs.Laws.{NamesApart}
use Rattle.melon_backend.specs.declared.put.Put.{Put}
use Rattle.melon_backend.specs.Bodies.{body}
use Rattle.melon_backend.specs.Rows.{with_puts, stored_bytes}
use Rattle.melon_backend.specs.Backends.{SeenBackend, Plan, value, revision_name, version_name, value_in, same_version, unless_kept, missing_values, values_batch, batch_if_any, no_rows, open_plan}
use Rattle.melon_backend.specs.Pushing.{puts, next_revision, row_filed, push_batch, with_push, puts_plan, accepted_plan, push_plan}
use Rattle.melon_backend.specs.Drafts.{IsPutWithin}
use Rattle.melon_backend.specs.Standing.{Stands, opened_log, IsWellKept}
use Rattle.melon_backend.specs.Keeps.{body_in, body_at, body_under, Keeps, KeepsLog, kept_after}
use Rattle.melon_backend.specs.Laws.{BeginsLog, AreKeptAlike}
use Rattle.melon_backend.proofs.KeptBodies.{named_at, AreBodies, bodies-puts, body-ascending, kept_key, value-with}
use Rattle.melon_backend.proofs.OpenedRows.{IsRead, all_read, none_long, none_there, none_ascend, read_long, read_ascends, read_bare, open_plan-is, opened_plan}
use Rattle.melon_backend.proofs.Stood.{row_is, lengths, rises, puts_in, push_follows, opening_stands, within_ok, then_ok}

-- ---- a backend and its log

module _ (g : Log) (b : SeenBackend) (s : Stands g b) where
  body_alike : (table id : List ℕ) → body_under b.schema.tables (at b.rows) table id ≡ body_under g.schema (row_now g) table id
  body_alike table id = sym (ap (λ (schema : List TableSchema). body_under schema (at b.rows) table id) s.schema) ∙ by (table_named table g.schema) refl
    where
      by : (o : Option ℕ) → table_named table g.schema ≡ o → body_under g.schema (at b.rows) table id ≡ body_under g.schema (row_now g) table id
      by None e = ap (option_and_then (body_at g.schema (at b.rows) id)) e ∙ sym (ap (option_and_then (body_at g.schema (row_now g) id)) e)
      by (Some t) e =
          let there = named_at g.schema s.apart table t e in
          ap (option_and_then (body_at g.schema (at b.rows) id)) e
          ∙ (ap (option_map (body (table_at g.schema t))) (row_is g b s (key_at t id) there.0)
          ∙ sym (ap (option_and_then (body_at g.schema (row_now g) id)) e))

  pub of_log : (kept : Kept) → Keeps b kept → KeepsLog g b.schema.version kept
  of_log kept k = record {
    ordered = k.ordered;
    rows = λ table id. k.rows table id ∙ body_alike table id;
    revision_is = k.revision_is ∙ ap Some (sym s.revision);
    version_is = k.version_is;
  }

  pub of_backend : (kept : Kept) → KeepsLog g b.schema.version kept → Keeps b kept
  of_backend kept k = record {
    ordered = k.ordered;
    rows = λ table id. k.rows table id ∙ sym (body_alike table id);
    revision_is = k.revision_is ∙ ap Some s.revision;
    version_is = k.version_is;
  }

pub kept_alike : (g : Log) (b : SeenBackend) (kept : Kept) → Stands g b → AreKeptAlike g b kept
kept_alike g b kept s = record { to_log = of_log g b s kept; to_backend = of_backend g b s kept }

-- ---- a push

module _ (g : Log) (b : SeenBackend) (c : Changes) (up : names_ascend (λ (u : TableChanges). u.table) c.tables ≡ true) (s : Stands g b) (kept : Kept) (k : Keeps b kept) where
  abbrev r : ℕ
  r = next_revision b.revision

  abbrev ps : List Put
  ps = puts b.schema.tables b.rows r c

  abbrev batch : KeptBatch
  batch = push_batch b.schema.tables r ps

  same_length : length b.rows ≡ length b.schema.tables
  same_length = lengths g b c up s ∙ ap length s.schema

  within : AllByRecursion (IsPutWithin (length b.schema.tables)) ps
  within = subst (λ (n : ℕ). AllByRecursion (IsPutWithin n) ps) same_length
      (subst (λ (schema : List TableSchema). AllByRecursion (IsPutWithin (length b.rows)) (puts schema b.rows r c)) s.schema (puts_in g b c up s))

  apart : NamesApart b.schema.tables
  apart = subst NamesApart s.schema s.apart

  parts : batched batch kept ≡ record { rows = with_items key_cmp key_of (map (row_filed b.schema.tables) ps) kept.rows; values = with_items text_cmp name_of (value revision_name r ∷ []) kept.values }
  parts = batched-parts batch kept

  push_keeps : Keeps (with_push b r ps) (batched batch kept)
  push_keeps = record {
    ordered = batched-in_order batch kept k.ordered;
    rows = λ table id. ap (λ (q : Kept). body_in table id q.rows) parts ∙ bodies-puts b.schema.tables apart ps b.rows kept.rows same_length within (rises g b c up s) k.rows table id;
    revision_is = ap (λ (q : Kept). value_in revision_name q.values) parts ∙ value-with revision_name (value revision_name r) kept.values;
    version_is = ap (λ (q : Kept). value_in version_name q.values) parts ∙ (value-with version_name (value revision_name r) kept.values ∙ k.version_is);
  }

  pub plan_keeps : (t : ℕ) (plan : Plan) → push_plan b t c ≡ Ok plan → Keeps plan.after (kept_after plan.batch kept)
  unfolding push_plan
  plan_keeps t plan h = go (names_something c) (then_ok (judged b.schema.tables b.revision (at b.rows) t c) (accepted_plan b c) plan h)
    where
      go : (named : Bool) → cond named (puts_plan b r ps) (Ok (record { batch = None; after = b })) ≡ Ok plan → Keeps plan.after (kept_after plan.batch kept)
      go true e =
          let is = within_ok (stored_bytes b.schema.tables (with_puts b.rows ps)) (record { batch = Some batch; after = with_push b r ps }) plan e in
          subst (λ (p : Plan). Keeps p.after (kept_after p.batch kept)) is push_keeps
      go false e = let is : record { batch = None; after = b } ≡ plan = cc in subst (λ (p : Plan). Keeps p.after (kept_after p.batch kept)) is k

same_version_after : (b : SeenBackend) (t : ℕ) (c : Changes) (plan : Plan) → push_plan b t c ≡ Ok plan → plan.after.schema.version ≡ b.schema.version
unfolding push_plan
same_version_after b t c plan h = go (names_something c) (then_ok (judged b.schema.tables b.revision (at b.rows) t c) (accepted_plan b c) plan h)
  where
    go : (named : Bool) → cond named (puts_plan b (next_revision b.revision) (puts b.schema.tables b.rows (next_revision b.revision) c)) (Ok (record { batch = None; after = b })) ≡ Ok plan → plan.after.schema.version ≡ b.schema.version
    go true e =
        let qs = puts b.schema.tables b.rows (next_revision b.revision) c in
        let is = within_ok (stored_bytes b.schema.tables (with_puts b.rows qs)) (record { batch = Some (push_batch b.schema.tables (next_revision b.revision) qs); after = with_push b (next_revision b.revision) qs }) plan e in
        sym (ap (λ (p : Plan). p.after.schema.version) is)
    go false e = let is : record { batch = None; after = b } ≡ plan = cc in sym (ap (λ (p : Plan). p.after.schema.version) is)

pub push_keeps_log : (g : Log) (b : SeenBackend) (t : ℕ) (c : Changes) (plan : Plan) (kept : Kept) → names_ascend (λ (u : TableChanges). u.table) c.tables ≡ true → Stands g b → KeepsLog g b.schema.version kept → push_plan b t c ≡ Ok plan
    → KeepsLog (after_push g c) b.schema.version (kept_after plan.batch kept)
push_keeps_log g b t c plan kept up s k h =
    let after = plan_keeps g b c up s kept (of_backend g b s kept k) t plan h in
    let log = of_log (after_push g c) plan.after (push_follows g b t c plan up s h) (kept_after plan.batch kept) after in
    subst (λ (v : ℕ). KeepsLog (after_push g c) v (kept_after plan.batch kept)) (same_version_after b t c plan h) log

-- ---- an opening

values_after : (values : List KeptValue) (kept : Kept) → kept_after (batch_if_any values) kept ≡ record { rows = kept.rows; values = with_items text_cmp name_of values kept.values }
values_after [] kept = refl
values_after (v ∷ vs) kept = batched-parts (values_batch (v ∷ vs)) kept

ordered_after : (batch : Option KeptBatch) (kept : Kept) → is_in_order kept ≡ true → is_in_order (kept_after batch kept) ≡ true
ordered_after None kept h = h
ordered_after (Some batch) kept h = batched-in_order batch kept h

module _ (values : List KeptValue) (version : ℕ) where
  abbrev with_missing : Option ℕ → Option ℕ → List KeptValue
  with_missing first stored = with_items text_cmp name_of (unless_kept revision_name 1 first ++ unless_kept version_name version stored) values

  first_there : (first stored : Option ℕ) → value_in revision_name values ≡ first → value_in revision_name (with_missing first stored) ≡ Some (unwrap_or first 1)
  first_there None None h = value-with revision_name (value version_name version) (with_item text_cmp name_of (value revision_name 1) values) ∙ value-with revision_name (value revision_name 1) values
  first_there None (Some v) h = value-with revision_name (value revision_name 1) values
  first_there (Some l) None h = value-with revision_name (value version_name version) values ∙ h
  first_there (Some l) (Some v) h = h

  same_as : (v : ℕ) (b : Bool) (x : ⊤) → v == version ≡ b → same_version (Some v) version ≡ Ok x → v ≡ version
  same_as v true x e h = (Decides-eqb v version).0 e
  same_as v false x e h = absurd (refused (rw e at h))
    where
      refused : (let r : Result ⊤ OpenFault = Err (Version v) in r ≡ Ok x) → ⊥
      refused e = cc

  version_there : (first stored : Option ℕ) (x : ⊤) → value_in version_name values ≡ stored → same_version stored version ≡ Ok x → value_in version_name (with_missing first stored) ≡ Some version
  version_there None None x h same = value-with version_name (value version_name version) (with_item text_cmp name_of (value revision_name 1) values)
  version_there None (Some v) x h same = value-with version_name (value revision_name 1) values ∙ (h ∙ ap Some (same_as v (v == version) x refl same))
  version_there (Some l) None x h same = value-with version_name (value version_name version) values
  version_there (Some l) (Some v) x h same = h ∙ ap Some (same_as v (v == version) x refl same)

module _ (schema : List TableSchema) (apart : NamesApart schema) where
  no_bodies : AreBodies schema apart (no_rows schema) []
  no_bodies table id = by (table_named table schema)
    where
      by : (o : Option ℕ) → None ≡ option_and_then (body_at schema (at (no_rows schema)) id) o
      by None = refl
      by (Some t) = sym (ap (λ (rows : List ServerRow). option_map (body (table_at schema t)) (at_id id rows)) (none_there schema t))

  or_none : (o : Option (List ℕ)) → option_or o None ≡ o
  or_none None = refl
  or_none (Some body) = refl

  pub opened_bodies : (left : List KeptRow) (final : ServerRows) → IsRead schema apart left (no_rows schema) final → ascends key_cmp key_of left ≡ true → AreBodies schema apart final left
  opened_bodies left final read up table id =
      sym (body-ascending (kept_key table id) left [] up ∙ or_none (body_in table id left))
      ∙ (ap (λ (rows : List KeptRow). body_in table id (with_items key_cmp key_of rows [])) (sym read.filed)
      ∙ (bodies-puts schema apart read.ps (no_rows schema) [] (none_long schema) read.within (none_ascend schema) no_bodies table id
      ∙ ap (λ (rows : ServerRows). body_under schema (at rows) table id) read.rows_are))

pub opening_begins : (name : List ℕ) (schema : SeenSchema) (kept : Kept) (plan : Plan) → NamesApart schema.tables → is_in_order kept ≡ true → open_plan name schema kept ≡ Ok plan → BeginsLog plan kept
opening_begins name schema kept plan apart ordered h =
    let o = open_plan-is name schema kept plan h in
    let read = all_read schema.tables apart kept.rows (no_rows schema.tables) o.rows o.read in
    let rows_up : ascends key_cmp key_of kept.rows ≡ true = (and_parts (ascends key_cmp key_of kept.rows) (ascends text_cmp name_of kept.values) ordered).0 in
    let missing = missing_values schema.version kept.values in
    let after : kept_after (batch_if_any missing) kept ≡ record { rows = kept.rows; values = with_items text_cmp name_of missing kept.values } = values_after missing kept in
    let b : SeenBackend = record { name = name; schema = schema; rows = o.rows; revision = unwrap_or (value_in revision_name kept.values) 1 } in
    let well : IsWellKept b = record {
      long = read_long schema.tables apart kept.rows o.rows read;
      ascending = read_ascends schema.tables apart kept.rows o.rows read;
      bare = read_bare schema.tables apart kept.rows o.rows read;
    } in
    let stands : Stands (opened_log b) b = opening_stands b apart well in
    let keeps : Keeps b (kept_after (batch_if_any missing) kept) = record {
      ordered = ordered_after (batch_if_any missing) kept ordered;
      rows = λ table id. ap (λ (k : Kept). body_in table id k.rows) after ∙ opened_bodies schema.tables apart kept.rows o.rows read rows_up table id;
      revision_is = ap (λ (k : Kept). value_in revision_name k.values) after ∙ first_there kept.values schema.version (value_in revision_name kept.values) (value_in version_name kept.values) refl;
      version_is = ap (λ (k : Kept). value_in version_name k.values) after ∙ version_there kept.values schema.version (value_in revision_name kept.values) (value_in version_name kept.values) o.done refl o.version;
    } in
    let begins : BeginsLog (opened_plan name schema kept o.rows) kept = record {
      stands = stands;
      keeps = of_log (opened_log b) b stands (kept_after (batch_if_any missing) kept) keeps;
    } in
    subst (λ (p : Plan). BeginsLog p kept) o.is begins
