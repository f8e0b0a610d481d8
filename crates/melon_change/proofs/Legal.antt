-- The change of each operation is one that an entry of the app may have.
use Rattle.std.proofs.Common.{◌≡◌, ◌≢◌, ℕ, zero, suc, ◌+◌, ◌<◌, List, [], ◌∷◌, ◌++◌, length, get_or, nat_lt, Bool, true, false, not, cond, ◌||◌, Option, Some, None, is_some, is_none, Result, Ok, Err, refl, sym, ap, ◌∙◌, subst, arith, inl, inr, bytes_eq}
use Rattle.std.specs.Bool.{⊤}
use Rattle.std.specs.List.{position, prefix_len}
use Rattle.std.proofs.lemmas.Bool.{both_ways, false_from_ne_true}
use Rattle.melon_schema.specs.Faults.{◌>>=◌, or_fault, unless}
use Rattle.melon_schema.specs.Names.{is_id}
use Rattle.melon_schema.specs.Places.{table_named}
use Rattle.melon_schema.specs.declared.schema.ColumnSchema.{ColumnSchema}
use Rattle.melon_schema.specs.declared.schema.TableSchema.{TableSchema}
use Rattle.melon_raw.specs.declared.datum.Datum.{Datum}
use Rattle.melon_raw.specs.declared.datum.OpField.{OpField}
use Rattle.melon_raw.specs.declared.raw.Raw.{Raw}
use Rattle.melon_raw.specs.Rows.{Fits, Key, Rows, at, is_key, is_visible}
use Rattle.melon_raw.proofs.Fitting.{Fits-row_created, Fits-row_deleted}
use Rattle.melon_table.proofs.Order.{split}
use Rattle.melon_table.proofs.ById.{id-at_id}
use Rattle.melon_change.specs.declared.op.Op.{Op}
use Rattle.melon_change.specs.declared.op.Op.TheVariants.{Create, Update, MarkDeleted, Destroy}
use Rattle.melon_change.specs.declared.rule.Rule.{Rule}
use Rattle.melon_change.specs.declared.rule.Rule.TheVariants as rule
use Rattle.melon_change.specs.declared.rule.BatchFault.{BatchFault}
use Rattle.melon_change.specs.declared.rule.BatchFault.TheVariants as faults
use Rattle.melon_raw.specs.Edits.{row_created, row_deleted}
use Rattle.melon_change.proofs.Same.{is_key_refl, is_key_same}
use Rattle.melon_change.specs.declared.change.Change.{Change}
use Rattle.melon_change.specs.declared.history.Origin.TheVariants.{Local}
use Rattle.melon_change.specs.Changes.{key, key_of, change_of, is_among, columns_at}
use Rattle.melon_change.specs.Edited.{row_updated, cells_with, differing}
use Rattle.melon_change.specs.Rules.{told_as, unless_column}
use Rattle.melon_change.specs.Batch.{record_at, visible, change_to, long_column, created_by, updated_by, deleted_by, destroyed_by, change_by, changes_behind, batch_of, fields_of}
use Rattle.melon_change.specs.History.{IsChange, AreChanges}
use Rattle.melon_change.specs.Legality.{RowsFit, BatchesAreLegal}
use Rattle.melon_change.proofs.CellsWith.{fitted-cells_with}
use Rattle.melon_change.proofs.Places.{marks_differing, marks_appended}
use Rattle.melon_change.proofs.Batches.{found_more}

-- ---- what an answer without a fault says of its parts

pub bind_ok : {A B E : Type 0} (r : Result A E) (f : A → Result B E) (y : B) → (r >>= f) ≡ Ok y → (x : A) × (r ≡ Ok x) × (f x ≡ Ok y)
bind_ok (Ok x) f y h = (x, refl, h)
bind_ok (Err e) f y h = cc

same_ok : {X E : Type 0} (r : Result X E) (a b : X) → r ≡ Ok a → r ≡ Ok b → a ≡ b
same_ok (Ok x) a b p q = cc
same_ok (Err e) a b p q = cc

fault_ok : {X E : Type 0} (o : Option X) (e : E) (x : X) → or_fault o e ≡ Ok x → o ≡ Some x
fault_ok None e x h = cc
fault_ok (Some y) e x h = let same : y ≡ x = cc in ap Some same

unless_ok : {E : Type 0} (b : Bool) (e : E) (x : ⊤) → unless b e ≡ Ok x → b ≡ true
unless_ok true e x h = refl
unless_ok false e x h = cc

not_true : (b : Bool) → not b ≡ true → b ≡ false
not_true true h = cc
not_true false h = refl

none_from : {X : Type 0} (o : Option X) → is_none o ≡ true → o ≡ None
none_from None h = refl
none_from (Some x) h = cc

visible_from : (o : Option Raw) (row : Raw) → visible o ≡ Some row → (o ≡ Some row) × (is_visible row.status ≡ true)
visible_from None row h = cc
visible_from (Some r) row h = split (is_visible r.status)
    (λ e. let same : r ≡ row = some_same (rw e at h) in (ap Some same, subst (λ (x : Raw). is_visible x.status ≡ true) same e))
    (λ e. absurd (none_some (rw e at h)))
  where
    some_same : Some r ≡ Some row → r ≡ row
    some_same e = cc

    none_some : None ≡ Some row → ⊥
    none_some e = cc

place_within : (p : TableSchema → Bool) (ts : List TableSchema) (n : ℕ) → position p ts ≡ Some n → n < length ts
place_within p ts n h = split (nat_lt (prefix_len (λ t. not (p t)) ts) (length ts))
    (λ e. let same : prefix_len (λ t. not (p t)) ts ≡ n = some_same (rw e at h) in let low : prefix_len (λ t. not (p t)) ts < length ts = grind arith in subst (λ (k : ℕ). k < length ts) same low)
    (λ e. absurd (none_some (rw e at h)))
  where
    some_same : Some (prefix_len (λ t. not (p t)) ts) ≡ Some n → prefix_len (λ t. not (p t)) ts ≡ n
    some_same e = cc

    none_some : None ≡ Some n → ⊥
    none_some e = cc

-- the id of a record that no operation before names
record_ok : (earlier : Key → Bool) (t : ℕ) (id known : List ℕ) → record_at earlier t id ≡ Ok known → (known ≡ id) × (is_id id ≡ true) × (earlier (key t id) ≡ false)
record_ok earlier t id known h =
    let one = bind_ok (unless (is_id id) rule.BadId) _ known h in
    let two = bind_ok (unless (not (earlier (key t id))) rule.Twice) _ known one.2 in
    (sym (same_ok (Ok id) id known refl two.2), unless_ok (is_id id) rule.BadId one.0 one.1, not_true _ (unless_ok (not (earlier (key t id))) rule.Twice two.0 two.1))

pub Fits-row_updated : (columns : List ColumnSchema) (fields : List (ℕ × Datum)) (row : Raw) → Fits columns row → Fits columns (row_updated columns fields row)
Fits-row_updated columns fields row fits = record {
  id = fits.id;
  marks = marks_appended (length columns) row.marks (differing columns row.cells (cells_with fields 0 columns row.cells)) fits.marks (marks_differing columns row.cells (cells_with fields 0 columns row.cells));
  cells = fitted-cells_with fields 0 columns row.cells fits.cells;
}

-- ---- one operation

module _ (schema : List TableSchema) (rows : Rows) (same : length rows ≡ length schema) (fit : RowsFit schema rows) (earlier : Key → Bool) where
  abbrev pub IsGood : Change → Type 0
  IsGood c = IsChange schema rows Local c × (earlier (key_of c) ≡ false)

  within : (name : List ℕ) (t : ℕ) → or_fault (table_named name schema) rule.UnknownTable ≡ Ok t → t < length rows
  within name t h = subst (λ (n : ℕ). t < n) (sym same) (place_within (λ x. bytes_eq name x.name) schema t (fault_ok (table_named name schema) rule.UnknownTable t h))

  found_id : (t : ℕ) (id : List ℕ) (row : Raw) → at rows (key t id) ≡ Some row → row.id ≡ id
  found_id t id row h = id-at_id id (get_or rows t []) row h

  created_good : (name id : List ℕ) (set : List OpField) (c : Change) → created_by schema rows earlier name id set ≡ Ok c → IsGood c
  unfolding created_by
  created_good name id set c h =
      let a = bind_ok (or_fault (table_named name schema) rule.UnknownTable) _ c h in
      let b = bind_ok (fields_of (columns_at schema a.0) set) _ c a.2 in
      let d = bind_ok (record_at earlier a.0 id) _ c b.2 in
      let f = bind_ok (unless (is_none (at rows (key a.0 d.0))) rule.Taken) _ c d.2 in
      let g = bind_ok (unless_column (long_column (columns_at schema a.0) b.0) rule.LongText) _ c f.2 in
      let known = record_ok earlier a.0 id d.0 d.1 in
      let after = row_created (columns_at schema a.0) d.0 b.0 in
      let made = change_to a.0 d.0 None (Some after) in
      let good : IsGood made = (
        record {
          declared = within name a.0 a.1;
          before_is = sym (none_from _ (unless_ok _ rule.Taken f.0 f.1));
          keeps_id = refl;
          fits = Fits-row_created (columns_at schema a.0) d.0 b.0 (subst (λ (i : List ℕ). is_id i ≡ true) (sym known.0) known.1);
          allowed = (refl, refl);
        },
        subst (λ (i : List ℕ). earlier (key a.0 i) ≡ false) (sym known.0) known.2,
      ) in
      subst IsGood (same_ok (Ok made) made c refl g.2) good

  updated_good : (name id : List ℕ) (set : List OpField) (c : Change) → updated_by schema rows earlier name id set ≡ Ok c → IsGood c
  unfolding updated_by
  updated_good name id set c h =
      let a = bind_ok (or_fault (table_named name schema) rule.UnknownTable) _ c h in
      let b = bind_ok (fields_of (columns_at schema a.0) set) _ c a.2 in
      let d = bind_ok (record_at earlier a.0 id) _ c b.2 in
      let f = bind_ok (or_fault (visible (at rows (key a.0 d.0))) rule.NoRow) _ c d.2 in
      let g = bind_ok (unless_column (long_column (columns_at schema a.0) b.0) rule.LongText) _ c f.2 in
      let known = record_ok earlier a.0 id d.0 d.1 in
      let seen = visible_from (at rows (key a.0 d.0)) f.0 (fault_ok _ rule.NoRow f.0 f.1) in
      let after = row_updated (columns_at schema a.0) b.0 f.0 in
      let made = change_to a.0 d.0 (Some f.0) (Some after) in
      let good : IsGood made = (
        record {
          declared = within name a.0 a.1;
          before_is = sym seen.0;
          keeps_id = found_id a.0 d.0 f.0 seen.0;
          fits = Fits-row_updated (columns_at schema a.0) b.0 f.0 (fit (key a.0 d.0) f.0 seen.0);
          allowed = (seen.1, inl (refl, refl));
        },
        subst (λ (i : List ℕ). earlier (key a.0 i) ≡ false) (sym known.0) known.2,
      ) in
      subst IsGood (same_ok (Ok made) made c refl g.2) good

  deleted_good : (name id : List ℕ) (c : Change) → deleted_by schema rows earlier name id ≡ Ok c → IsGood c
  unfolding deleted_by
  deleted_good name id c h =
      let a = bind_ok (or_fault (table_named name schema) rule.UnknownTable) _ c h in
      let d = bind_ok (record_at earlier a.0 id) _ c a.2 in
      let f = bind_ok (or_fault (visible (at rows (key a.0 d.0))) rule.NoRow) _ c d.2 in
      let known = record_ok earlier a.0 id d.0 d.1 in
      let seen = visible_from (at rows (key a.0 d.0)) f.0 (fault_ok _ rule.NoRow f.0 f.1) in
      let made = change_to a.0 d.0 (Some f.0) (Some (row_deleted f.0)) in
      let good : IsGood made = (
        record {
          declared = within name a.0 a.1;
          before_is = sym seen.0;
          keeps_id = found_id a.0 d.0 f.0 seen.0;
          fits = Fits-row_deleted (columns_at schema a.0) f.0 (fit (key a.0 d.0) f.0 seen.0);
          allowed = (seen.1, inr (refl, refl, refl));
        },
        subst (λ (i : List ℕ). earlier (key a.0 i) ≡ false) (sym known.0) known.2,
      ) in
      subst IsGood (same_ok (Ok made) made c refl f.2) good

  destroyed_good : (name id : List ℕ) (c : Change) → destroyed_by schema rows earlier name id ≡ Ok c → IsGood c
  unfolding destroyed_by
  destroyed_good name id c h =
      let a = bind_ok (or_fault (table_named name schema) rule.UnknownTable) _ c h in
      let d = bind_ok (record_at earlier a.0 id) _ c a.2 in
      let f = bind_ok (or_fault (at rows (key a.0 d.0)) rule.NoRow) _ c d.2 in
      let known = record_ok earlier a.0 id d.0 d.1 in
      let here = fault_ok _ rule.NoRow f.0 f.1 in
      let made = change_to a.0 d.0 (Some f.0) None in
      let good : IsGood made = (
        record { declared = within name a.0 a.1; before_is = sym here; keeps_id = tt; fits = tt; allowed = tt },
        subst (λ (i : List ℕ). earlier (key a.0 i) ≡ false) (sym known.0) known.2,
      ) in
      subst IsGood (same_ok (Ok made) made c refl f.2) good

  pub change_good : (op : Op) (c : Change) → change_by schema rows earlier op ≡ Ok c → IsGood c
  change_good (Create name id set) c h = created_good name id set c h
  change_good (Update name id set) c h = updated_good name id set c h
  change_good (MarkDeleted name id) c h = deleted_good name id c h
  change_good (Destroy name id) c h = destroyed_good name id c h

-- ---- the batch

told_ok : (n : ℕ) (op : Op) (r : Result Change Rule) (c : Change) → told_as n op r ≡ Ok c → r ≡ Ok c
told_ok n op (Ok x) c h = ap Ok (same_ok (told_as n op (Ok x)) x c refl h)
told_ok n op (Err e) c h = cc

none_of : {X : Type 0} (o : Option X) → is_some o ≡ false → o ≡ None
none_of None h = refl
none_of (Some x) h = cc

or_off : (a b : Bool) → (a || b) ≡ false → (a ≡ false) × (b ≡ false)
or_off true b h = cc
or_off false b h = (refl, h)

-- those that were made before are named no more
abbrev Apart : List Change → List Change → Type 0
Apart made changes = (x : Key) → is_among made x ≡ true → change_of x changes ≡ None

changes_good : (schema : List TableSchema) (rows : Rows) → length rows ≡ length schema → RowsFit schema rows → (made : List Change) (ops : List Op) (changes : List Change)
    → changes_behind schema rows made ops ≡ Ok changes → AreChanges schema rows Local changes × Apart made changes
changes_good schema rows same fit made [] changes h =
    let none : [] ≡ changes = same_ok (changes_behind schema rows made []) [] changes refl h in
    (subst (AreChanges schema rows Local) none tt, λ x e. subst (λ (cs : List Change). change_of x cs ≡ None) none refl)
changes_good schema rows same fit made (op ∷ ops) changes h =
    let a = bind_ok (told_as (length made + 1) op (change_by schema rows (is_among made) op)) _ changes h in
    let b = bind_ok (changes_behind schema rows (made ++ a.0 ∷ []) ops) _ changes a.2 in
    let good = change_good schema rows same fit (is_among made) op a.0 (told_ok (length made + 1) op _ a.0 a.1) in
    let ih = changes_good schema rows same fit (made ++ a.0 ∷ []) ops b.0 b.1 in
    let all : (a.0 ∷ b.0) ≡ changes = same_ok (Ok (a.0 ∷ b.0)) (a.0 ∷ b.0) changes refl b.2 in
    let own : is_among (made ++ a.0 ∷ []) (key_of a.0) ≡ true = found_more (key_of a.0) made a.0 ∙ ap (λ t. t || is_among made (key_of a.0)) (is_key_refl (key_of a.0)) in
    let before : (x : Key) → is_among made x ≡ true → change_of x (a.0 ∷ b.0) ≡ None = λ x e.
    let off : is_key x (key_of a.0) ≡ false = false_from_ne_true (is_key x (key_of a.0)) (λ f. both_ways (is_among made x) (ap (is_among made) (is_key_same x (key_of a.0) f) ∙ good.1) e) in
    rw off (ih.1 x (found_more x made a.0 ∙ (ap (λ t. t || is_among made x) off ∙ e))) in
    (subst (AreChanges schema rows Local) all (good.0, ih.1 (key_of a.0) own, ih.0), subst (Apart made) all before)

pub batches : BatchesAreLegal
unfolding batch_of
batches schema rows ops changes same fit h = split (nat_lt 100000 (length ops))
    (λ e. absurd (no_fault (rw e at h)))
    (λ e. (changes_good schema rows same fit [] ops changes (rw e at h)).0)
  where
    no_fault : Err (faults.TooMany (length ops)) ≡ Ok changes → ⊥
    no_fault e = cc
