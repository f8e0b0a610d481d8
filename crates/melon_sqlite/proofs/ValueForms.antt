-- What each row of kept_values is, and that no two have one key.
use Rattle.std.proofs.Common.{◌≡◌, inl, inr, ℕ, ℤ, Bool, true, false, not, true≢false, ◌&&◌, List, [], ◌∷◌, None, refl, sym, ap, ap₂, ◌∙◌, subst₂, drop}
use Rattle.std.proofs.lemmas.Bool.{and_parts, and_from, not-true, cases_Bool}
use Rattle.std.proofs.lemmas.Slice.Eq.{bytes_eq-Decides}
use Rattle.sqlite_value.specs.declared.value.Value.{Value}
use Rattle.sqlite_value.specs.declared.value.Value.TheVariants.{Null, Int, Real, Text, Blob}
use Rattle.sqlite_value.specs.Order.{Row, column, bytes}
use Rattle.sqlite_value.specs.Keys.{plain}
use Rattle.sqlite_trees.specs.Tree.{Trees, rowid}
use Rattle.sqlite_trees.specs.View.{IsShaped, is_int}
use Rattle.sqlite_trees.specs.declared.store.Shape.TheVariants.{Table}
use Rattle.sqlite_sql.specs.Ops.{is_null}
use Rattle.sqlite_schema.specs.Rules.{agree, differ, clashes, is_of, are_typed, are_present, Obeys}
use Rattle.sqlite_schema.specs.declared.schema.Constraint.TheVariants.{Datatype, NotNull, Unique}
use Rattle.sqlite_schema.specs.declared.schema.Kind.TheVariants as kind
use Rattle.sqlite_rules.specs.Edit.{id_in}
use Rattle.sqlite_rules.specs.Lists.{Has}
use Rattle.sqlite_rules.proofs.ListLemmas.{all_has, some_from}
use Rattle.sqlite_rules.proofs.RuleLemmas.{keeps_at}
use Rattle.sqlite_rules.proofs.PlaceLemmas.{tied_same}
use Rattle.sqlite_rules.proofs.TableLemmas.{int_is}
use Rattle.melon_outside.specs.Kept.{text_cmp, name_of}
use Rattle.melon_sqlite.specs.Contents.{store_of, value_of}
use Rattle.melon_sqlite.specs.Tables.{kept_schema, values_table}
use Rattle.melon_sqlite.proofs.Sorted.{AreApart}
use Rattle.melon_sqlite.proofs.Cells.{name_total, stored_value, IsStoredValue, value_agrees, text_tie, differ_is}
use Rattle.melon_sqlite.proofs.Forms.{text_in, tie_from, no1}

pub int_in : (v : Value) → is_of kind.Integer v ≡ true → is_null v ≡ false → (n : ℤ) × (v ≡ Int n)
int_in Null h p = cc
int_in (Int n) h p = (n, refl)
int_in (Real x) h p = cc
int_in (Text t) h p = cc
int_in (Blob b) h p = cc

last3 : (a b c : Bool) → (a && (b && (c && false))) ≡ true → ⊥
last3 true true true h = true≢false (sym h)
last3 true true false h = true≢false (sym h)
last3 true false c h = true≢false (sym h)
last3 false b c h = true≢false (sym h)

last2 : (a b : Bool) → (a && (b && (false && true))) ≡ true → ⊥
last2 true true h = true≢false (sym h)
last2 true false h = true≢false (sym h)
last2 false b h = true≢false (sym h)

form : (r : Row) → is_int (rowid r) ≡ true → are_typed None 0 values_table.columns (drop 1 r) ≡ true → are_present None 0 values_table.columns r ≡ true → IsStoredValue r
form [] k ty pr = cc
form (v ∷ []) k ty pr = cc
form (v ∷ a ∷ []) k ty pr = absurd (no1 (not (is_null a)) false pr)
form (v ∷ a ∷ b ∷ []) k ty pr = absurd (last2 (not (is_null a)) (not (is_null b)) pr)
form (v ∷ a ∷ b ∷ c ∷ e ∷ more) k ty pr = absurd (last3 (is_of kind.Text a) (is_of kind.Text b) (is_of kind.Integer c) ty)
form (v ∷ a ∷ b ∷ c ∷ []) k ty pr =
    let p1 = and_parts _ _ pr in
    let p2 = and_parts _ _ p1.1 in
    let p3 = and_parts _ _ p2.1 in
    let t1 = and_parts _ _ ty in
    let t2 = and_parts _ _ t1.1 in
    let t3 = and_parts _ _ t2.1 in
    let s = text_in a t1.0 (not-true _ p1.0) in
    let m = text_in b t2.0 (not-true _ p2.0) in
    let i = int_in c t3.0 (not-true _ p3.0) in
    (id_in v, s.0, m.0, i.0, ap₂ ◌∷◌ (int_is v k) (ap₂ ◌∷◌ s.1 (ap₂ ◌∷◌ m.1 (ap₂ ◌∷◌ i.1 refl))))

pub stored_agree : (n : ℤ) (s m : List ℕ) (v : ℤ) (n2 : ℤ) (s2 m2 : List ℕ) (v2 : ℤ) → s ≡ s2 → m ≡ m2 → agree plain (1 ∷ 2 ∷ []) (stored_value n s m v) (1 ∷ 2 ∷ []) (stored_value n2 s2 m2 v2) ≡ true
stored_agree n s m v n2 s2 m2 v2 p q = value_agrees n s m v n2 s2 m2 v2 ∙ and_from _ _ ((bytes_eq-Decides s s2).1 p) (and_from _ _ ((bytes_eq-Decides m m2).1 q) refl)

pub agree_stored : (n : ℤ) (s m : List ℕ) (v : ℤ) (n2 : ℤ) (s2 m2 : List ℕ) (v2 : ℤ) → agree plain (1 ∷ 2 ∷ []) (stored_value n s m v) (1 ∷ 2 ∷ []) (stored_value n2 s2 m2 v2) ≡ true → (s ≡ s2) × (m ≡ m2)
agree_stored n s m v n2 s2 m2 v2 h =
    let p = and_parts _ _ (sym (value_agrees n s m v n2 s2 m2 v2) ∙ h) in
    let q = and_parts _ _ p.1 in
    ((bytes_eq-Decides s s2).0 p.0, (bytes_eq-Decides m m2).0 q.0)

module _ (db : Trees) (fits : Obeys kept_schema db) (shaped : IsShaped Table (db 2)) where
  pub row_form : (r : Row) → Has (db 2) r → IsStoredValue r
  row_form r there =
      form r (all_has _ (db 2) r shaped.1 there) (and_parts _ _ (keeps_at Datatype kept_schema db values_table r (fits.rules Datatype) (inr (inl refl)) there)).0
      (keeps_at NotNull kept_schema db values_table r (fits.rules NotNull) (inr (inl refl)) there)

  pub rows_apart : AreApart text_cmp name_of name_total value_of (db 2)
  rows_apart a b h k e tie =
      let fa = row_form a h in
      let fb = row_form b k in
      let name = text_tie _ _ tie in
      let agreed = subst₂ (λ x y. agree plain (1 ∷ 2 ∷ []) x (1 ∷ 2 ∷ []) y ≡ true) (sym fa.4) (sym fb.4)
      (stored_agree fa.0 fa.1 fa.2 fa.3 fb.0 fb.1 fb.2 fb.3 (sym (ap store_of fa.4) ∙ e ∙ ap store_of fb.4)
      (sym (ap (λ r. bytes (column r 2)) fa.4) ∙ name ∙ ap (λ r. bytes (column r 2)) fb.4)) in
      let alone : clashes plain (1 ∷ 2 ∷ []) (db 2) b ≡ false = not-true _ (and_parts _ _ (keeps_at Unique kept_schema db values_table b (fits.rules Unique) (inr (inl refl)) k)).0 in
      elim (cases_Bool (differ (rowid a) (rowid b))) [
        | inl other ↦ absurd (let clash = some_from (λ x. agree plain (1 ∷ 2 ∷ []) x (1 ∷ 2 ∷ []) b && differ (rowid x) (rowid b)) (db 2) a h (and_from _ _ agreed other) in cc)
        | inr same ↦ tied_same (db 2) a b shaped.0 h k (tie_from _ (sym (differ_is (rowid a) (rowid b) (ap (λ r. is_null (rowid r)) fa.4) (ap (λ r. is_null (rowid r)) fb.4)) ∙ same))
      ]
