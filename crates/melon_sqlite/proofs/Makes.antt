-- The two tables are made where they aren't there.
use Rattle.std.proofs.Common.{◌≡◌, inl, inr, ℕ, Bool, true, false, List, [], Ok, None, refl, sym, ap, ap₂, ◌∙◌, subst, ◌⊎◌, codes, is_some, true≢false}
use Rattle.sqlite_tied.specs.Compute.{everything}
use Rattle.sqlite_schema.specs.declared.schema.Schema.{Schema}
use Rattle.sqlite_schema.specs.declared.command.Command.TheVariants.{CreateTable}
use Rattle.sqlite.specs.Compile.{table_defined_by}
use Rattle.sqlite.specs.Change.{created, next_tree}
use Rattle.sqlite.specs.Effect.{Database}
use Rattle.sqlite.specs.Does.{Tally, lacks_sequence}
use Rattle.sqlite.specs.Listing.{understood}
use Rattle.sqlite.specs.State.{State, Executes, Writes}
use Rattle.sqlite.proofs.Callers.{IsPlain, command_of, statement_of, runs_as}
use Rattle.sqlite_schema.specs.Names.{table_named}
use Rattle.melon_outside.specs.Keeping.{Stores}
use Rattle.melon_sqlite.specs.Contents.{rows_in, values_in}
use Rattle.melon_sqlite.specs.Opening.{Keeps, KeepsRows, KeepsBoth, IsSettled}
use Rattle.melon_sqlite.specs.Tables.{no_schema, rows_schema, kept_schema, kept_rows, kept_values, rows_text, values_text}
use Rattle.melon_sqlite.proofs.Upsert.{went, same_value}

pub rows_is : (command_of (understood no_schema rows_text) ≡ CreateTable) × (statement_of rows_text (understood no_schema rows_text) ≡ rows_text) × (table_defined_by rows_text ≡ Ok kept_rows)
unfolding understood everything
rows_is = (refl, refl, refl)

rows_plain : IsPlain (understood no_schema rows_text)
unfolding understood everything
rows_plain = (refl, refl)

pub values_is : (command_of (understood rows_schema values_text) ≡ CreateTable) × (statement_of values_text (understood rows_schema values_text) ≡ values_text) × (table_defined_by values_text ≡ Ok kept_values)
unfolding understood everything
values_is = (refl, refl, refl)

values_plain : IsPlain (understood rows_schema values_text)
unfolding understood everything
values_plain = (refl, refl)

pub makes_rows : (old new : State) (count : ℕ) → old.now.schema ≡ no_schema → Executes rows_text [] old new (Ok count) → (new.now.schema ≡ rows_schema) × (new.now.trees 0 ≡ []) × (IsSettled old → IsSettled new)
makes_rows old new count has h =
    let w = subst (λ t. Writes old new None CreateTable t [] count) rows_is.1 (runs_as rows_text [] old new no_schema has CreateTable rows_is.0 rows_plain count h) in
    let all = went w.changed in
    let first = went all.1 in
    let it = first.1 in
    let both : Ok it.table ≡ Ok kept_rows = sym it.defined ∙ rows_is.2 in
    let same : it.table ≡ kept_rows = cc in
    let schema : first.0.schema ≡ rows_schema = it.is ∙ ap (λ s. created s it.table) has ∙ ap (created no_schema) same in
    let plain : lacks_sequence first.0.schema ≡ false = ap lacks_sequence schema in
    let now : new.now ≡ first.0 = ap (λ (p : Tally × Database). p.1) (same_value all.2) ∙ same_value (rw plain at first.2) in (
      ap (λ (d : Database). d.schema) now ∙ schema,
      ap (λ (d : Database). d.trees 0) now ∙ subst (λ s. first.0.trees (next_tree s) ≡ []) has it.empty,
      λ S. record { outside = w.shown.mode ∙ S.outside; committed = rw S.outside at w.shown.committed_is },
    )

pub makes_values : (old new : State) (count : ℕ) → old.now.schema ≡ rows_schema → Executes values_text [] old new (Ok count)
    → (new.now.schema ≡ kept_schema) × (new.now.trees 0 ≡ old.now.trees 0) × (new.now.trees 2 ≡ []) × (IsSettled old → IsSettled new)
makes_values old new count has h =
    let w = subst (λ t. Writes old new None CreateTable t [] count) values_is.1 (runs_as values_text [] old new rows_schema has CreateTable values_is.0 values_plain count h) in
    let all = went w.changed in
    let first = went all.1 in
    let it = first.1 in
    let both : Ok it.table ≡ Ok kept_values = sym it.defined ∙ values_is.2 in
    let same : it.table ≡ kept_values = cc in
    let schema : first.0.schema ≡ kept_schema = it.is ∙ ap (λ s. created s it.table) has ∙ ap (created rows_schema) same in
    let plain : lacks_sequence first.0.schema ≡ false = ap lacks_sequence schema in
    let now : new.now ≡ first.0 = ap (λ (p : Tally × Database). p.1) (same_value all.2) ∙ same_value (rw plain at first.2) in
    let others = subst (λ (s : Schema). Rattle.std.specs.List.AllByRecursion (λ t. first.0.trees t.tree ≡ old.now.trees t.tree) s.tables) has it.others in (
      ap (λ (d : Database). d.schema) now ∙ schema,
      ap (λ (d : Database). d.trees 0) now ∙ others.0,
      ap (λ (d : Database). d.trees 2) now ∙ subst (λ s. first.0.trees (next_tree s) ≡ []) has it.empty,
      λ S. record { outside = w.shown.mode ∙ S.outside; committed = rw S.outside at w.shown.committed_is },
    )

-- ---- what is kept stays so

-- which tables each of the three schemas has
no_table_of : (name : List ℕ) → is_some (table_named no_schema name) ≡ false
no_table_of name = refl

rows_has : is_some (table_named rows_schema (codes "kept_rows")) ≡ true
unfolding everything
rows_has = refl

rows_lacks : is_some (table_named rows_schema (codes "kept_values")) ≡ false
unfolding everything
rows_lacks = refl

kept_has_rows : is_some (table_named kept_schema (codes "kept_rows")) ≡ true
unfolding everything
kept_has_rows = refl

kept_has_values : is_some (table_named kept_schema (codes "kept_values")) ≡ true
unfolding everything
kept_has_values = refl

has_in : (s t : Schema) (name : List ℕ) (b c : Bool) → s ≡ t → is_some (table_named s name) ≡ b → is_some (table_named t name) ≡ c → b ≡ c
has_in s t name b c e p q = sym p ∙ ap (λ x. is_some (table_named x name)) e ∙ q

pub first_there : (old : State) (m : Stores) → is_some (table_named old.now.schema (codes "kept_rows")) ≡ true → IsSettled old → Keeps old.now m → IsSettled old × (KeepsRows old.now m ⊎ KeepsBoth old.now m)
first_there old m there S (inl none) = absurd (true≢false (has_in old.now.schema no_schema (codes "kept_rows") true false none.0 there (no_table_of (codes "kept_rows"))))
first_there old m there S (inr some) = (S, some)

pub first_made : (old new : State) (m : Stores) (count : ℕ) → is_some (table_named old.now.schema (codes "kept_rows")) ≡ false → Executes rows_text [] old new (Ok count) → IsSettled old → Keeps old.now m
    → IsSettled new × (KeepsRows new.now m ⊎ KeepsBoth new.now m)
first_made old new m count lacks h S (inl none) =
    let made = makes_rows old new count none.0 h in
    (made.2 S, inl (made.0, λ store. none.1 store ∙ ap (λ rows. record { rows = rows_in rows store; values = [] }) (sym made.1)))
first_made old new m count lacks h S (inr (inl rows)) = absurd (true≢false (sym (has_in old.now.schema rows_schema (codes "kept_rows") false true rows.0 lacks rows_has)))
first_made old new m count lacks h S (inr (inr both)) = absurd (true≢false (sym (has_in old.now.schema kept_schema (codes "kept_rows") false true both.0 lacks kept_has_rows)))

pub second_there : (old : State) (m : Stores) → is_some (table_named old.now.schema (codes "kept_values")) ≡ true → IsSettled old → KeepsRows old.now m ⊎ KeepsBoth old.now m → IsSettled old × KeepsBoth old.now m
second_there old m there S (inl rows) = absurd (true≢false (has_in old.now.schema rows_schema (codes "kept_values") true false rows.0 there rows_lacks))
second_there old m there S (inr both) = (S, both)

pub second_made : (old new : State) (m : Stores) (count : ℕ) → is_some (table_named old.now.schema (codes "kept_values")) ≡ false → Executes values_text [] old new (Ok count) → IsSettled old
    → KeepsRows old.now m ⊎ KeepsBoth old.now m → IsSettled new × KeepsBoth new.now m
second_made old new m count lacks h S (inl rows) =
    let made = makes_values old new count rows.0 h in
    (made.3 S, (made.0, λ store. rows.1 store ∙ ap₂ (λ a b. record { rows = rows_in a store; values = values_in b store }) (sym made.1) (sym made.2)))
second_made old new m count lacks h S (inr both) = absurd (true≢false (sym (has_in old.now.schema kept_schema (codes "kept_values") false true both.0 lacks kept_has_values)))
